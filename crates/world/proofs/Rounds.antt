-- A round of turns, one of each core: it ends with all done, or something has moved in it.
use Rattle.std.proofs.Common.{◌≡◌, ◌≢◌, ◌⊎◌, inl, inr, ℕ, ◌+◌, ◌<◌, ◌≤◌, Bool, true, false, List, length, get_or, Option, Some, None, slice_get, refl, sym, ap, ◌∙◌, subst, arith}
use Rattle.std.specs.Prelude.{MatchBool}
use Rattle.std.proofs.lemmas.Bool.{cases_eq, cases_lt}
use Rattle.std.proofs.lemmas.Option.{slice_get_within, slice_get_cases}
use Rattle.journal.specs.SetupView.{SetupView}
use Rattle.parcel.specs.PlainBoxesView.{PlainBoxesView, HasParcel, HasNoParcel, box_at}
use Rattle.core_loop.specs.declared.turn.PortName.{PortName}
use Rattle.core_loop.specs.declared.turn.PortName.TheVariants.{Post, Take}
use Rattle.core_loop.specs.declared.turn.Turn.{Turn}
use Rattle.core_loop.specs.declared.turn.Turn.TheVariants.{Moved, Waiting, Done, NoMemory}
use Rattle.core_loop.specs.CoreView.{CoreView, posted_of, taken_of, IsOtherCore}
use Rattle.core_loop.specs.Turns.{HasMoved, OwesPost, OwesTake, Owes, IsCoreDone, HasEnded, IfWaiting}
use Rattle.world.specs.WorldView.{WorldView, IsCoreOf, IsWorld}
use Rattle.world.specs.Worlds.{WorldStillStands, Turned, IsWorldDone}
use Rattle.world.specs.Steps.{total_steps}
use Rattle.world.specs.Rounds.{still_all}
use Rattle.world.proofs.InOrder.{world-still-then}
use Rattle.world.proofs.NoStandstill.{IsWaiting, no-standstill}
use Rattle.world.proofs.Weights.{total-turned, total-moves, total-same, same-posts, same-takes}

-- what a turn of a world says
pub record WorldTurned (w x : WorldView) (core : ℕ) (turn : Turn) : Type 0 where
  pub setup : x.setup ≡ w.setup
  pub stands : WorldStillStands w x
  pub turned : Turned core w x
  pub moved : turn ≡ Moved → (c d : CoreView) → IsCoreOf w core c → IsCoreOf x core d → HasMoved c d × (IsCoreDone d → ⊥)
  pub waits : IfWaiting turn (λ on. (c : CoreView) → IsCoreOf w core c → Owes c on)
  pub same : IfWaiting turn (λ on. x.cores ≡ w.cores)
  pub posts : IfWaiting turn (λ on. (c : CoreView) (other : ℕ) → IsCoreOf w core c → OwesPost c other → HasParcel (box_at w.boxes core other))
  pub takes : IfWaiting turn (λ on. (c : CoreView) (other : ℕ) → IsCoreOf w core c → OwesTake c other → HasNoParcel (box_at w.boxes other core))
  pub done : turn ≡ Done → (d : CoreView) → IsCoreOf x core d → IsCoreDone d × HasEnded d

-- nothing has moved: each core below `end` is done or waits, and one waits where not all are done
pub record IsQuiet (w : WorldView) (end : ℕ) (all : Bool) : Type 0 where
  pub each : (core : ℕ) (c : CoreView) → core < end → IsCoreOf w core c → IsCoreDone c ⊎ IsWaiting w core c
  pub some : all ≡ false → (core : ℕ) × (c : CoreView) × (core < end) × IsCoreOf w core c × IsWaiting w core c

-- the cores below `end` have had their turns
pub record RoundSoFar (v w : WorldView) (end : ℕ) (all : Bool) : Type 0 where
  pub setup : w.setup ≡ v.setup
  pub is_world : IsWorld w
  pub works : w.failed ≡ false
  pub stands : WorldStillStands v w
  pub more : total_steps v ≤ total_steps w
  pub done : all ≡ true → (core : ℕ) (c : CoreView) → core < end → IsCoreOf w core c → IsCoreDone c
  pub quiet : (total_steps v < total_steps w) ⊎ IsQuiet w end all

pub round-begins : (w : WorldView) → IsWorld w → w.failed ≡ false → RoundSoFar w w 0 true
round-begins w is works = record {
  setup = refl;
  is_world = is;
  works = works;
  stands = λ bytes s. inr s;
  more = omega arith;
  done = λ _ core c below here. absurd (let l : core < 0 = below in omega arith);
  quiet = inr (record {
    each = λ core c below here. absurd (let l : core < 0 = below in omega arith);
    some = λ e. absurd (let q : ⊥ = cc in q);
  });
}

-- ---- the cores of a world

-- there is a core of each number
core-at : (w : WorldView) → IsWorld w → (k : ℕ) → k < w.setup.cores → (c : CoreView) × IsCoreOf w k c
core-at w is k below = go (slice_get_cases w.cores k).1
  where
    go : ((c : CoreView) × (k < length w.cores) × (slice_get w.cores k ≡ Some c) × (get_or w.cores k c ≡ c))
        ⊎ ((length w.cores ≤ k) × (slice_get w.cores k ≡ None))
        → (c : CoreView) × IsCoreOf w k c
    go (inl c) = (c.0, c.2)
    go (inr past) = absurd (let m = past.0 in let a = is.one_a_core in omega (arith, m, a, below))

number-below : (w : WorldView) → IsWorld w → (k : ℕ) (c : CoreView) → IsCoreOf w k c → k < w.setup.cores
number-below w is k c here = (let l = slice_get_within w.cores k c here in let a = is.one_a_core in omega (arith, l, a))

-- another number is that of another core
is-other : (w : WorldView) → IsWorld w → (k : ℕ) (c : CoreView) → IsCoreOf w k c → (j : ℕ) → j < w.setup.cores → j ≢ k → IsOtherCore c j
is-other w is k c here j below ne = (
  subst (λ (S : SetupView). j < S.cores) (sym (is.setups k c here)) below,
  λ e. ne (e ∙ is.numbers k c here),
)

other-below : (w : WorldView) → IsWorld w → (k : ℕ) (c : CoreView) → IsCoreOf w k c → (j : ℕ) → IsOtherCore c j → (j < w.setup.cores) × (j ≢ k)
other-below w is k c here j o = (
  subst (λ (S : SetupView). j < S.cores) (is.setups k c here) o.0,
  λ e. o.1 (e ∙ sym (is.numbers k c here)),
)

-- ---- a turn in which no count rose

module _ (w x : WorldView) (core : ℕ) (is_w : IsWorld w) (is_x : IsWorld x) (turned : Turned core w x) (still : total_steps x ≤ total_steps w) where
  -- the counts of a core are what they were
  counts-still : (k : ℕ) (b e : CoreView) → IsCoreOf w k b → IsCoreOf x k e → (other : ℕ) → IsOtherCore b other
      → (posted_of e other ≡ posted_of b other) × (taken_of e other ≡ taken_of b other)
  counts-still k b e at_b at_e other o = go (cases_eq k core)
    where
      go : (k ≡ core) ⊎ (k ≢ core) → (posted_of e other ≡ posted_of b other) × (taken_of e other ≡ taken_of b other)
      go (inl same) =
          let here : IsCoreOf w core b = subst (λ (j : ℕ). IsCoreOf w j b) same at_b in
          let there : IsCoreOf x core e = subst (λ (j : ℕ). IsCoreOf x j e) same at_e in
          let rises = turned.rises b e here there in
          let none = total-same core w x turned b e here there still in
          (same-posts b e rises none other o, same-takes b e rises none other o)
      go (inr ne) =
          let s : Some e ≡ Some b = sym at_e ∙ (turned.others k ne ∙ at_b) in
          let is : e ≡ b = cc in
          (ap (λ (z : CoreView). posted_of z other) is, ap (λ (z : CoreView). taken_of z other) is)

  -- so is each box
  posted-still : (s r : ℕ) → s < w.setup.cores → r < w.setup.cores → r ≢ s → (box_at x.boxes s r).posted ≡ (box_at w.boxes s r).posted
  posted-still s r s_below r_below ne =
      let b = core-at w is_w s s_below in
      let e = core-at x is_x s (subst (λ (S : SetupView). s < S.cores) (sym turned.setup) s_below) in
      let o = is-other w is_w s b.0 b.1 r r_below ne in
      let p = is-other x is_x s e.0 e.1 r (subst (λ (S : SetupView). r < S.cores) (sym turned.setup) r_below) ne in
      is_x.posts s e.0 e.1 r p ∙ ((counts-still s b.0 e.0 b.1 e.1 r o).0 ∙ sym (is_w.posts s b.0 b.1 r o))

  taken-still : (s r : ℕ) → s < w.setup.cores → r < w.setup.cores → s ≢ r → (box_at x.boxes s r).taken ≡ (box_at w.boxes s r).taken
  taken-still s r s_below r_below ne =
      let b = core-at w is_w r r_below in
      let e = core-at x is_x r (subst (λ (S : SetupView). r < S.cores) (sym turned.setup) r_below) in
      let o = is-other w is_w r b.0 b.1 s s_below ne in
      let p = is-other x is_x r e.0 e.1 s (subst (λ (S : SetupView). s < S.cores) (sym turned.setup) s_below) ne in
      is_x.takes r e.0 e.1 s p ∙ ((counts-still r b.0 e.0 b.1 e.1 s o).1 ∙ sym (is_w.takes r b.0 b.1 s o))

  -- a core that waited waits still
  waits-still : (k : ℕ) (c : CoreView) → IsCoreOf w k c → IsWaiting w k c → IsWaiting x k c
  waits-still k c here waits = record {
    on = waits.on;
    owes = waits.owes;
    posts = λ other owed.
        (let o = other-below w is_w k c here other owed.0 in
        let n = number-below w is_w k c here in
        let a = posted-still k other n o.0 o.1 in
        let b = taken-still k other n o.0 (λ e. o.1 (sym e)) in
        let full = waits.posts other owed in
        omega (arith, a, b, full));
    takes = λ other owed.
        (let o = other-below w is_w k c here other owed.0 in
        let n = number-below w is_w k c here in
        let a = posted-still other k o.0 n (λ e. o.1 (sym e)) in
        let b = taken-still other k o.0 n o.1 in
        let empty = waits.takes other owed in
        omega (arith, a, b, empty));
  }

-- ---- one turn more

module _ (v w x : WorldView) (core : ℕ) (all : Bool) (turn : Turn) (so_far : RoundSoFar v w core all) (t : WorldTurned w x core turn)
    (is : IsWorld x) (works : x.failed ≡ false) (named : core < w.setup.cores) (memory : turn ≡ NoMemory → ⊥) where
  -- what holds of the cores below and of this one holds of the cores below the next
  next : (P : ℕ → CoreView → Type 0) → ((k : ℕ) (c : CoreView) → k < core → IsCoreOf w k c → P k c)
      → ((d : CoreView) → IsCoreOf x core d → P core d)
      → (k : ℕ) (c : CoreView) → k < core + 1 → IsCoreOf x k c → P k c
  next P below here k c less at = go (cases_eq k core)
    where
      go : (k ≡ core) ⊎ (k ≢ core) → P k c
      go (inl e) = subst (λ (j : ℕ). P j c) (sym e) (here c (subst (λ (j : ℕ). IsCoreOf x j c) e at))
      go (inr ne) = below k c (omega arith) (sym (t.turned.others k ne) ∙ at)

  -- the core that is turned
  was : (c : CoreView) × IsCoreOf w core c
  was = core-at w so_far.is_world core named

  now : (d : CoreView) × IsCoreOf x core d
  now = core-at x is core (subst (λ (S : SetupView). core < S.cores) (sym t.setup) named)

  up : total_steps w ≤ total_steps x
  up = total-turned core w x t.turned was.0 now.0 was.1 now.1

  waits-older : total_steps x ≤ total_steps w → (k : ℕ) (c : CoreView) → IsCoreOf w k c → IsCoreDone c ⊎ IsWaiting w k c → IsCoreDone c ⊎ IsWaiting x k c
  waits-older still k c here (inl done) = inl done
  waits-older still k c here (inr waits) = inr (waits-still w x core so_far.is_world is t.turned still k c here waits)

  quiet-more : total_steps x ≤ total_steps w → IsQuiet w core all → IsQuiet x (core + 1) (still_all all turn)
  quiet-more still q = go turn t.moved t.waits t.same t.posts t.takes t.done memory
    where
      some-older : (k : ℕ) × (c : CoreView) × (k < core) × IsCoreOf w k c × IsWaiting w k c
          → (k : ℕ) × (c : CoreView) × (k < core + 1) × IsCoreOf x k c × IsWaiting x k c
      some-older one = (
        one.0,
        one.1,
        (let l : one.0 < core = one.2 in omega arith),
        t.turned.others one.0 (λ e. (let l : one.0 < core = one.2 in omega arith)) ∙ one.3,
        waits-still w x core so_far.is_world is t.turned still one.0 one.1 one.3 one.4,
      )

      older : (k : ℕ) (c : CoreView) → k < core → IsCoreOf w k c → IsCoreDone c ⊎ IsWaiting x k c
      older k c less at = waits-older still k c at (q.each k c less at)

      go : (turn : Turn)
          → (turn ≡ Moved → (c d : CoreView) → IsCoreOf w core c → IsCoreOf x core d → HasMoved c d × (IsCoreDone d → ⊥))
          → IfWaiting turn (λ on. (c : CoreView) → IsCoreOf w core c → Owes c on)
          → IfWaiting turn (λ on. x.cores ≡ w.cores)
          → IfWaiting turn
          (λ on. (c : CoreView) (other : ℕ) → IsCoreOf w core c → OwesPost c other → HasParcel (box_at w.boxes core other))
          → IfWaiting turn
          (λ on. (c : CoreView) (other : ℕ) → IsCoreOf w core c → OwesTake c other → HasNoParcel (box_at w.boxes other core))
          → (turn ≡ Done → (d : CoreView) → IsCoreOf x core d → IsCoreDone d × HasEnded d) → (turn ≡ NoMemory → ⊥)
          → IsQuiet x (core + 1) (still_all all turn)
      go Moved moved owes same posts takes done memory =
          (let rose = total-moves core w x t.turned was.0 now.0 was.1 now.1 (moved refl was.0 now.0 was.1 now.1).0 in
          absurd (omega (arith, rose, still)))
      go (Waiting on) moved owes same posts takes done memory = record {
        each = next (λ k c. IsCoreDone c ⊎ IsWaiting x k c) older (λ d at. inr (waits d at));
        some = λ _. (core, now.0, omega arith, now.1, waits now.0 now.1);
      }
        where
          waits : (d : CoreView) → IsCoreOf x core d → IsWaiting x core d
          waits d at =
              let here : IsCoreOf w core d = subst (λ (l : List CoreView). slice_get l core ≡ Some d) same at in
              waits-still w x core so_far.is_world is t.turned still core d here
              (record { on = on; owes = owes d here; posts = λ other o. posts d other here o; takes = λ other o. takes d other here o })
      go Done moved owes same posts takes done memory = record {
        each = next (λ k c. IsCoreDone c ⊎ IsWaiting x k c) older (λ d at. inl (done refl d at).0);
        some = λ e. some-older (q.some e);
      }
      go NoMemory moved owes same posts takes done memory = absurd (memory refl)

  all-done : (turn : Turn) → (turn ≡ Done → (d : CoreView) → IsCoreOf x core d → IsCoreDone d × HasEnded d) → still_all all turn ≡ true
      → (k : ℕ) (c : CoreView) → k < core + 1 → IsCoreOf x k c → IsCoreDone c
  all-done Done done e = next (λ k c. IsCoreDone c) (λ k c less at. so_far.done e k c less at) (λ d at. (done refl d at).0)
  all-done Moved done e = absurd (let q : ⊥ = cc in q)
  all-done (Waiting on) done e = absurd (let q : ⊥ = cc in q)
  all-done NoMemory done e = absurd (let q : ⊥ = cc in q)

  pub round-more : RoundSoFar v x (core + 1) (still_all all turn)
  round-more = record {
    setup = t.setup ∙ so_far.setup;
    is_world = is;
    works = works;
    stands = world-still-then v w x so_far.works so_far.stands t.stands;
    more = (let a = so_far.more in let b = up in omega arith);
    done = all-done turn t.done;
    quiet = go (cases_lt (total_steps w) (total_steps x)) so_far.quiet;
  }
    where
      go : (total_steps w < total_steps x) ⊎ (total_steps x ≤ total_steps w) → (total_steps v < total_steps w) ⊎ IsQuiet w core all
          → (total_steps v < total_steps x) ⊎ IsQuiet x (core + 1) (still_all all turn)
      go (inl rose) rest = inl (let a = so_far.more in omega arith)
      go (inr still) (inl rose) = inl (let b = up in omega arith)
      go (inr still) (inr quiet) = inr (quiet-more still quiet)

-- ---- the end of the round

-- who owes a post or a take isn't done
waits-not-done : (c : CoreView) (on : PortName) → Owes c on → IsCoreDone c → ⊥
waits-not-done c (Post other) owed done = (let e = done.trades.posts other owed.0 in let f = owed.1 in omega arith)
waits-not-done c (Take other) owed done = (let e = done.trades.takes other owed.0 in let f = owed.1 in omega arith)

-- all are done, or a count rose
pub round-ends : (v w : WorldView) (all : Bool) → RoundSoFar v w w.setup.cores all
    → (all ≡ true → IsWorldDone w) × (all ≡ false → total_steps v < total_steps w)
round-ends v w all r = (
  λ e. record { works = r.works; each = λ core c here. r.done e core c (number-below w r.is_world core c here) here },
  λ e. go e r.quiet,
)
  where
    go : all ≡ false → (total_steps v < total_steps w) ⊎ IsQuiet w w.setup.cores all → total_steps v < total_steps w
    go e (inl rose) = rose
    go e (inr q) =
        let one = q.some e in
        let done = no-standstill w r.is_world r.works (λ core c here. q.each core c (number-below w r.is_world core c here) here) in
        absurd (waits-not-done one.1 one.4.on one.4.owes (done one.0 one.1 one.3))

pub round-matches : (v w : WorldView) (end : ℕ) (all : Bool) → RoundSoFar v w end all → end ≡ w.setup.cores
    → MatchBool all (IsWorldDone w) (total_steps v < total_steps w)
round-matches v w end true r e = (round-ends v w true (subst (λ (n : ℕ). RoundSoFar v w n true) e r)).0 refl
round-matches v w end false r e = (round-ends v w false (subst (λ (n : ℕ). RoundSoFar v w n false) e r)).1 refl
