-- A core whose turn moved nothing could do nothing: what it owed was refused, or it was done.
use Rattle.std.proofs.Common.{◌≡◌, ◌≢◌, ◌⊎◌, inl, inr, ℕ, zero, suc, ◌+◌, ◌<◌, ◌≤◌, true, false, Some, refl, sym, ap, ◌∙◌, subst, arith}
use Rattle.std.proofs.lemmas.Bool.{cases_eq, cases_lt}
use Rattle.journal.specs.SetupView.{SetupView}
use Rattle.journal.specs.IsSetup.{IsSetup}
use Rattle.parcel.specs.Windows.{window_count}
use Rattle.parcel.specs.PlainBoxesView.{PlainBoxesView, BoxView, Keeps, HasParcel, HasNoParcel, WasFull, WasEmpty, box_at, posted_to, taken_from}
use Rattle.parcel.proofs.Leasts.{known-none}
use Rattle.core_loop.specs.declared.turn.PortName.{PortName}
use Rattle.core_loop.specs.declared.turn.PortName.TheVariants.{Post, Take}
use Rattle.core_loop.specs.declared.turn.Turn.{Turn}
use Rattle.core_loop.specs.declared.turn.Turn.TheVariants.{Moved, Waiting, Done, NoMemory}
use Rattle.core_loop.specs.CoreView.{CoreView, windows_of, posted_of, taken_of, IsOtherCore}
use Rattle.core_loop.specs.Turns.{StandAt, NoCountFalls, HasMoved, OwesPost, OwesTake, Owes, HasTradedAll, IsCoreDone, RefusedBetween, IfWaiting}
use Rattle.world.specs.WorldView.{WorldView, IsCoreOf, IsWorld}
use Rattle.world.specs.Worlds.{CanRun, HasNoEvent}
use Rattle.world.proofs.OneTurn.{TurnsTo, few-core, few-other}

-- ---- what was refused

module _ (w : WorldView) (core : ℕ) (c d : CoreView) (q : PlainBoxesView) (t : TurnsTo w core c d q) (same : d ≡ c)
    (other : ℕ) (is : IsOtherCore c other) where
  abbrev p : PlainBoxesView
  p = record w.boxes { core = core }

  not-own : other ≢ core
  not-own e = is.1 (e ∙ sym (t.is_world.numbers core c t.here))

  -- the box to a core was full as the turn began: no post was made before or after the one that was refused
  pub was-full : RefusedBetween Keeps WasFull p other q → HasParcel (box_at w.boxes core other)
  was-full r =
      let before : posted_to p other ≤ posted_to r.0 other = r.2.posts other in
      let between : posted_to r.0 other ≤ posted_to r.1 other = r.3.posts other in
      let later : posted_to r.1 other ≤ posted_to q other = r.5.posts other in
      let is_d : IsOtherCore d other = subst (λ (z : CoreView). IsOtherCore z other) (sym same) is in
      let at_end : posted_to q other ≡ posted_of d other = t.stand.posts other is_d in
      let stays : posted_of d other ≡ posted_of c other = ap (λ (z : CoreView). posted_of z other) same in
      let at_start : posted_to p other ≡ posted_of c other = t.is_world.posts core c t.here other is in
      let full : posted_to r.0 other ≡ (box_at r.0 r.0.core other).taken + 1 = r.4 in
      let own : (box_at r.0 r.0.core other).taken ≡ (box_at r.0 core other).taken =
      ap (λ (n : ℕ). (box_at r.0 n other).taken) r.2.core in
      let taken : (box_at r.0 core other).taken ≡ (box_at w.boxes core other).taken =
      r.2.takes_of_others core other (few-other w core c d q false t core c other t.here is) not-own in
      omega (arith, before, between, later, at_end, stays, at_start, full, own, taken)

  -- and the box from a core was empty
  pub was-empty : RefusedBetween Keeps WasEmpty p other q → HasNoParcel (box_at w.boxes other core)
  was-empty r =
      let before : taken_from p other ≤ taken_from r.0 other = r.2.takes other in
      let between : taken_from r.0 other ≤ taken_from r.1 other = r.3.takes other in
      let later : taken_from r.1 other ≤ taken_from q other = r.5.takes other in
      let is_d : IsOtherCore d other = subst (λ (z : CoreView). IsOtherCore z other) (sym same) is in
      let at_end : taken_from q other ≡ taken_of d other = t.stand.takes other is_d in
      let stays : taken_of d other ≡ taken_of c other = ap (λ (z : CoreView). taken_of z other) same in
      let at_start : taken_from p other ≡ taken_of c other = t.is_world.takes core c t.here other is in
      let empty : (box_at r.0 other r.0.core).posted ≡ taken_from r.0 other = r.4 in
      let own : (box_at r.0 other r.0.core).posted ≡ (box_at r.0 other core).posted =
      ap (λ (n : ℕ). (box_at r.0 other n).posted) r.2.core in
      let posted : (box_at r.0 other core).posted ≡ (box_at w.boxes other core).posted =
      r.2.posts_of_others other core (few-core w core c d q false t core c t.here) not-own in
      omega (arith, before, between, later, at_end, stays, at_start, empty, own, posted)

-- ---- nothing can happen

-- a core that owes a post or a take of its round runs no window
owing-runs-not : (c : CoreView) (on : PortName) → Owes c on → CanRun c → ⊥
owing-runs-not c (Post other) owed run = (let e = run.0.posts other owed.0 in let f = owed.1 in omega arith)
owing-runs-not c (Take other) owed run = (let e = run.0.takes other owed.0 in let f = owed.1 in omega arith)

pub waiting-idle : (w : WorldView) (core : ℕ) (c d : CoreView) (q : PlainBoxesView) → TurnsTo w core c d q → d ≡ c → (on : PortName)
    → Owes c on
    → ((other : ℕ) → OwesPost c other → RefusedBetween Keeps WasFull (record w.boxes { core = core }) other q)
    → ((other : ℕ) → OwesTake c other → RefusedBetween Keeps WasEmpty (record w.boxes { core = core }) other q)
    → HasNoEvent w core c
waiting-idle w core c d q t same on owed posts takes = record {
  posts = λ other can. (let full = was-full w core c d q t same other can.0.0 (posts other can.0) in let none = can.1 in omega arith);
  takes = λ other can. (let none = was-empty w core c d q t same other can.0.0 (takes other can.0) in let full = can.1 in omega arith);
  runs = owing-runs-not c on owed;
}

-- of the numbers below an end one has a property, or none has
find-below : (P : ℕ → Type 0) → ((k : ℕ) → P k ⊎ (P k → ⊥)) → (end : ℕ) → ((k : ℕ) × P k) ⊎ ((k : ℕ) → k < end → P k → ⊥)
find-below P decide zero = inr (λ k below. absurd (let l : k < 0 = below in omega arith))
find-below P decide (suc end) = go (decide end) (find-below P decide end)
  where
    go : P end ⊎ (P end → ⊥) → ((k : ℕ) × P k) ⊎ ((k : ℕ) → k < end → P k → ⊥) → ((k : ℕ) × P k) ⊎ ((k : ℕ) → k < suc end → P k → ⊥)
    go (inl has) rest = inl (end, has)
    go (inr not) (inl has) = inl has
    go (inr not) (inr none) = inr (λ k below. last k below (cases_eq k end))
      where
        last : (k : ℕ) → k < suc end → (k ≡ end) ⊎ (k ≢ end) → P k → ⊥
        last k below (inl e) has = not (subst P e has)
        last k below (inr ne) has = none k (omega arith) has

-- a number that rises at another core
abbrev pub RisesAt : (ℕ → ℕ) → (ℕ → ℕ) → CoreView → ℕ → Type 0
RisesAt old new c other = IsOtherCore c other × (old other < new other)

decide-rise : (old new : ℕ → ℕ) (c : CoreView) (other : ℕ) → RisesAt old new c other ⊎ (RisesAt old new c other → ⊥)
decide-rise old new c other = go (cases_lt other c.setup.cores) (cases_eq other c.number) (cases_lt (old other) (new other))
  where
    go : (other < c.setup.cores) ⊎ (c.setup.cores ≤ other) → (other ≡ c.number) ⊎ (other ≢ c.number)
        → (old other < new other) ⊎ (new other ≤ old other)
        → RisesAt old new c other ⊎ (RisesAt old new c other → ⊥)
    go (inl below) (inr ne) (inl less) = inl ((below, ne), less)
    go (inr past) e l = inr (λ rise. (let b = rise.0.0 in omega arith))
    go (inl below) (inl e) l = inr (λ rise. rise.0.1 e)
    go (inl below) (inr ne) (inr most) = inr (λ rise. (let b = rise.1 in omega arith))

-- a number rises at some core, or at none
find-rise : (old new : ℕ → ℕ) (c : CoreView) → ((other : ℕ) × RisesAt old new c other) ⊎ ((other : ℕ) → RisesAt old new c other → ⊥)
find-rise old new c = go (find-below (RisesAt old new c) (decide-rise old new c) c.setup.cores)
  where
    go : ((k : ℕ) × RisesAt old new c k) ⊎ ((k : ℕ) → k < c.setup.cores → RisesAt old new c k → ⊥)
        → ((other : ℕ) × RisesAt old new c other) ⊎ ((other : ℕ) → RisesAt old new c other → ⊥)
    go (inl has) = inl has
    go (inr none) = inr (λ other rise. none other rise.0.0 rise)

-- a core that is done has moved, or was as good as done before
pub done-idle : (w : WorldView) (core : ℕ) (c d : CoreView) → IsSetup c.setup → NoCountFalls c d → IsCoreDone d
    → HasMoved c d ⊎ HasNoEvent w core c
done-idle w core c d setup up done =
    go (cases_lt (windows_of c) (windows_of d)) (find-rise (posted_of c) (posted_of d) c) (find-rise (taken_of c) (taken_of d) c)
  where
    other-d : (other : ℕ) → IsOtherCore c other → IsOtherCore d other
    other-d other is = (
      subst (λ (S : SetupView). other < S.cores) (sym up.setup) is.0,
      λ e. is.1 (e ∙ up.number),
    )

    go : (windows_of c < windows_of d) ⊎ (windows_of d ≤ windows_of c)
        → ((other : ℕ) × RisesAt (posted_of c) (posted_of d) c other) ⊎ ((other : ℕ) → RisesAt (posted_of c) (posted_of d) c other → ⊥)
        → ((other : ℕ) × RisesAt (taken_of c) (taken_of d) c other) ⊎ ((other : ℕ) → RisesAt (taken_of c) (taken_of d) c other → ⊥)
        → HasMoved c d ⊎ HasNoEvent w core c
    go (inl more) posts takes = inl (inl more)
    go (inr still) (inl post) takes = inl (inr (inl (post.0, post.1.0, post.1.1)))
    go (inr still) (inr none) (inl take) = inl (inr (inr (take.0, take.1.0, take.1.1)))
    go (inr still) (inr no_post) (inr no_take) = inr (record {
      posts = λ other can. no_post other (
        can.0.0,
        (let a = done.trades.posts other (other-d other can.0.0) in
            let b = can.0.1 in
            let e = up.windows in
            omega (arith, a, b, still, e)),
      );
      takes = λ other can. no_take other (
        can.0.0,
        (let a = done.trades.takes other (other-d other can.0.0) in
            let b = can.0.1 in
            let e = up.windows in
            omega (arith, a, b, still, e)),
      );
      runs = λ run. known-none c.setup setup (windows_of c) run.1.0 at_end run.1.3.0.0 run.1.3.0.1;
    })
      where
        at_end : window_count c.setup ≤ windows_of c
        at_end =
            (let n = done.windows in
            let e : window_count d.setup ≡ window_count c.setup = ap window_count up.setup in
            let more = up.windows in
            omega (arith, n, e, still, more))

-- whatever the turn answers but want of memory, it has moved something or could do nothing
pub turn-moves : (w : WorldView) (core : ℕ) (c d : CoreView) (q : PlainBoxesView) → TurnsTo w core c d q → (turn : Turn)
    → (turn ≡ Moved → HasMoved c d) → IfWaiting turn (λ on. Owes c on) → IfWaiting turn (λ on. d ≡ c)
    → IfWaiting turn
    (λ on. (other : ℕ) → OwesPost c other → RefusedBetween Keeps WasFull (record w.boxes { core = core }) other q)
    → IfWaiting turn
    (λ on. (other : ℕ) → OwesTake c other → RefusedBetween Keeps WasEmpty (record w.boxes { core = core }) other q)
    → (turn ≡ Done → IsCoreDone d) → (turn ≡ NoMemory → ⊥)
    → HasMoved c d ⊎ HasNoEvent w core c
turn-moves w core c d q t Moved moved owes same posts takes done memory = inl (moved refl)
turn-moves w core c d q t (Waiting on) moved owes same posts takes done memory =
    inr (waiting-idle w core c d q t same on owes posts takes)
turn-moves w core c d q t Done moved owes same posts takes done memory =
    done-idle w core c d (subst IsSetup (sym (t.is_world.setups core c t.here)) t.is_world.is_setup) t.rises (done refl)
turn-moves w core c d q t NoMemory moved owes same posts takes done memory = absurd (memory refl)
