-- One visit of a run: the first that is due anywhere is made by the owner of its pipe.
use Rattle.std.proofs.Common.{◌≡◌, ◌≢◌, ◌⊎◌, inl, inr, ⊎_elim, ℕ, ◌<◌, List, [], ◌∷◌, ◌++◌, length, Some, None, slice_get, slice_index, refl, sym, ap, ◌∙◌, subst, arith}
use Rattle.std.specs.Prelude.{◌↔◌}
use Rattle.std.proofs.lemmas.Bool.{cases_eq}
use Rattle.std.proofs.lemmas.Option.{slice_get_within}
use Rattle.mn_base.specs.Among.{Among}
use Rattle.mn_base.specs.Canonical.{Before}
use Rattle.mn_base.specs.declared.due.Due.{Due}
use Rattle.pipe.specs.PipeView.{StandsFor}
use Rattle.journal.specs.declared.visit.Visit.{Visit}
use Rattle.journal.specs.SetupView.{SetupView}
use Rattle.journal.specs.IsSetup.{IsSetup}
use Rattle.journal.specs.Hops.{pipe_of, next_hop}
use Rattle.journal.specs.Journal.{pending}
use Rattle.journal.specs.Steps.{visit_of}
use Rattle.journal.specs.IsPipe.{SetupPipeView, IsPipe}
use Rattle.parcel.specs.declared.counts.PipeCounts.{PipeCounts}
use Rattle.deadline_heap.specs.Canonical.{HasNoneOf, IsCanonical}
use Rattle.journal.proofs.HeldFirst.{at-within}
use Rattle.journal.proofs.Orderly.{IsGrowing}
use Rattle.journal.proofs.Packets.{among-get}
use Rattle.journal.proofs.VisitsTo.{visits_to-push_other}
use Rattle.migrate.specs.ShelvesView.{ShelfView, pipe_in}
use Rattle.migrate.specs.declared.window.Head.{Head}
use Rattle.migrate.specs.Running.{HoldsPipe, ComesToPipe, ArePending, HavePipes, IsAfter, ChangesAt, VisitsAt, PutsDue, IsHeadOf}
use Rattle.migrate.proofs.NextVisit.{pending-named, pending-one, next-order, next-time, next-few, next-pending}

-- a core before and after a change of one of them
pub record IsChanged (at : ℕ) (Changes : ShelfView → ShelfView → Type 0) (old : List ShelfView) (core : ℕ) (t : ShelfView) : Type 0 where
  pub was : ShelfView
  pub there : slice_get old core ≡ Some was
  pub here : core ≡ at → Changes was t
  pub other : core ≢ at → t ≡ was

pub changed-at : (at : ℕ) (Changes : ShelfView → ShelfView → Type 0) (old new : List ShelfView) → ChangesAt at Changes old new
    → (core : ℕ) (t : ShelfView) → slice_get new core ≡ Some t → IsChanged at Changes old core t
changed-at at Changes old new c core t e =
    let within : core < length old = (let l = slice_get_within new core t e in omega (arith, l, c.as_many)) in
    let s = at-within old core within in
    record {
      was = s.0;
      there = s.1;
      here = λ same.
          c.here s.0 t (ap (slice_get old) (sym same) ∙ s.1) (ap (slice_get new) (sym same) ∙ e);
      other = λ differ. (let both : Some t ≡ Some s.0 = sym e ∙ c.others core differ ∙ s.1 in cc);
    }

module _ {S : SetupView} (is : IsSetup S) {bytes : List (List ℕ)} {J : List Visit} {owners : List ℕ} {counts : List PipeCounts}
    {shelves : List ShelfView} (a : IsAfter S bytes J owners counts shelves) where
  g : IsGrowing S J
  g = a.growing

  -- a pending visit is due at the owner of its pipe
  pub pending-owned : (y : Due) → Among y (pending S J) → slice_index owners (pipe_of S y) < length shelves
  pending-owned y m =
      let named : pipe_of S y < length S.pipes = pending-named S is J g y m in
      let owned : slice_index owners (pipe_of S y) < S.cores = a.owned (pipe_of S y) 0 (omega (arith, named, a.one_a_pipe)) in
      omega (arith, owned, a.one_a_core)

  pub pending-there : (y : Due) → Among y (pending S J)
      → (s : ShelfView) × (slice_get shelves (slice_index owners (pipe_of S y)) ≡ Some s) × Among y s.due
  pending-there y m =
      let s = at-within shelves (slice_index owners (pipe_of S y)) (pending-owned y m) in
      (s.0, s.1, ((a.due (slice_index owners (pipe_of S y)) s.0 s.1).members y).1 (m, refl))

  module _ {head : Head} (f : IsHeadOf shelves head) where
    abbrev x : Due
    x = head.due

    abbrev pipe : ℕ
    pipe = pipe_of S head.due

    own : Among x (pending S J) × (slice_index owners pipe ≡ head.core)
    own = ((a.due head.core f.shelf f.there).members x).0 (among-get f.shelf.due 0 x f.first)

    pub head-pending : Among head.due (pending S J)
    head-pending = own.0

    pub head-owner : slice_index owners (pipe_of S head.due) ≡ head.core
    head-owner = own.1

    pub head-named : pipe_of S head.due < length S.pipes
    head-named = pending-named S is J g x own.0

    pub head-first : (y : Due) → Among y (pending S J) → Before y head.due → ⊥
    head-first y m = let t = pending-there y m in f.least (slice_index owners (pipe_of S y)) t.0 y t.1 t.2

    pub head-comes : ComesToPipe S J head.due (pipe_of S head.due) f.shelf.pipes
    head-comes = record {
      has = a.pipes.there pipe f.shelf head-named (ap (slice_get shelves) own.1 ∙ f.there);
      at_pipe = refl;
      order = next-order S is J g x own.0 head-first;
      time = next-time S is J g x own.0 head-first;
      few = next-few S is J g x own.0 head-first;
    }

    abbrev v : Visit
    v = visit_of S J head.due

    -- ---- the visit is made

    module _ {mid : List ShelfView} (m : ChangesAt head.core (VisitsAt S head.due (pipe_of S head.due)) shelves mid) where
      abbrev Mid : ℕ → ShelfView → Type 0
      Mid core t = IsChanged head.core (VisitsAt S x pipe) shelves core t

      mid-at : (core : ℕ) (t : ShelfView) → slice_get mid core ≡ Some t → Mid core t
      mid-at = changed-at head.core (VisitsAt S x pipe) shelves mid m

      -- what is due is what was pending of other packets
      abbrev Others : ℕ → Due → Type 0
      Others core y = (Among y (pending S J) × (y.packet ≢ x.packet)) × (slice_index owners (pipe_of S y) ≡ core)

      mid-parts : (core : ℕ) (t : ShelfView) → slice_get mid core ≡ Some t
          → IsCanonical t.due × ((y : Due) → Among y t.due ↔ Others core y)
      mid-parts core t e = go (mid-at core t e) (cases_eq core head.core)
        where
          go : (c : Mid core t) → (core ≡ head.core) ⊎ (core ≢ head.core)
              → IsCanonical t.due × ((y : Due) → Among y t.due ↔ Others core y)
          go c (inl here) = (order.2, λ y. (into y, out y))
            where
              due : c.was.due ≡ x ∷ t.due
              due = (c.here here).due

              was : ArePending S J owners core c.was.due
              was = a.due core c.was c.there

              order : IsCanonical (x ∷ t.due)
              order = subst IsCanonical due was.canonical

              into : (y : Due) → Among y t.due → Others core y
              into y k =
                  let p = (was.members y).0 (subst (Among y) (sym due) (inr k)) in
                  ((p.0, order.1 y k), p.1)

              out : (y : Due) → Others core y → Among y t.due
              out y k =
                  ⊎_elim (λ same. absurd (k.0.1 (ap (λ (z : Due). z.packet) (sym same)))) (λ n. n)
                  (subst (Among y) due ((was.members y).1 (k.0.0, k.1)))
          go c (inr differ) =
              subst (λ (s : ShelfView). IsCanonical s.due × ((y : Due) → Among y s.due ↔ Others core y)) (sym (c.other differ))
              (was.canonical, λ y. (into y, λ k. (was.members y).1 (k.0.0, k.1)))
            where
              was : ArePending S J owners core c.was.due
              was = a.due core c.was c.there

              into : (y : Due) → Among y c.was.due → Others core y
              into y k =
                  let p = (was.members y).0 k in (
                    (
                      p.0,
                      (λ same. differ (sym p.1 ∙ ap (λ (z : Due). slice_index owners (pipe_of S z))
                          (pending-one S is J g y x p.0 own.0 same) ∙ own.1)),
                    ),
                    p.1,
                  )

      -- nothing of the packet is due any more
      pub mid-alone : (core : ℕ) (t : ShelfView) → slice_get mid core ≡ Some t → HasNoneOf head.due.packet t.due
      mid-alone core t e y k = (((mid-parts core t e).1 y).0 k).0.1

      mid-pipe : (q core : ℕ) (t : ShelfView) → slice_get mid core ≡ Some t → q ≢ pipe
          → (s : ShelfView) × (slice_get shelves core ≡ Some s) × (pipe_in t.pipes q ≡ pipe_in s.pipes q)
      mid-pipe q core t e differ = go (mid-at core t e) (cases_eq core head.core)
        where
          go : (c : Mid core t) → (core ≡ head.core) ⊎ (core ≢ head.core)
              → (s : ShelfView) × (slice_get shelves core ≡ Some s) × (pipe_in t.pipes q ≡ pipe_in s.pipes q)
          go c (inl here) = (c.was, c.there, (c.here here).other_pipes q differ)
          go c (inr apart) = (c.was, c.there, ap (λ (s : ShelfView). pipe_in s.pipes q) (c.other apart))

      -- the pipes with the visit
      pub mid-pipes : HavePipes S (J ++ visit_of S J head.due ∷ []) owners mid
      mid-pipes = record { there = there; nowhere_else = nowhere_else }
        where
          still : (q : ℕ) (n : SetupPipeView) → q ≢ pipe → IsPipe S J q n → IsPipe S (J ++ v ∷ []) q n
          still q n differ i = record {
            number = i.number;
            of_setup = i.of_setup;
            stands = subst (StandsFor n.memory) (sym (visits_to-push_other S q J v (λ same. differ (sym same)))) i.stands;
          }

          there : (q : ℕ) (t : ShelfView) → q < length S.pipes → slice_get mid (slice_index owners q) ≡ Some t
              → HoldsPipe S (J ++ v ∷ []) q t.pipes
          there q t named e = go (cases_eq q pipe)
            where
              go : (q ≡ pipe) ⊎ (q ≢ pipe) → HoldsPipe S (J ++ v ∷ []) q t.pipes
              go (inl same) =
                  let core : slice_index owners q ≡ head.core = ap (slice_index owners) same ∙ own.1 in
                  let c = mid-at (slice_index owners q) t e in
                  let both : Some c.was ≡ Some f.shelf = sym c.there ∙ ap (slice_get shelves) core ∙ f.there in
                  let shelf : c.was ≡ f.shelf = cc in
                  subst (λ (n : ℕ). HoldsPipe S (J ++ v ∷ []) n t.pipes) (sym same)
                  ((c.here core).own J (subst (λ (s : ShelfView). ComesToPipe S J x pipe s.pipes) (sym shelf) head-comes))
              go (inr differ) =
                  let s = mid-pipe q (slice_index owners q) t e differ in
                  let h = a.pipes.there q s.0 named s.1 in
                  (h.0, s.2 ∙ h.1, still q h.0 differ h.2)

          nowhere_else : (core q : ℕ) (t : ShelfView) (n : SetupPipeView) → slice_get mid core ≡ Some t → pipe_in t.pipes q ≡ Some n
              → (q < length S.pipes) × (slice_index owners q ≡ core)
          nowhere_else core q t n e p = go (cases_eq q pipe) (cases_eq core head.core)
            where
              go : (q ≡ pipe) ⊎ (q ≢ pipe) → (core ≡ head.core) ⊎ (core ≢ head.core)
                  → (q < length S.pipes) × (slice_index owners q ≡ core)
              go (inl same) (inl here) =
                  (subst (λ (k : ℕ). k < length S.pipes) (sym same) head-named, ap (slice_index owners) same ∙ own.1 ∙ sym here)
              go (inl same) (inr apart) =
                  let c = mid-at core t e in
                  a.pipes.nowhere_else core q c.was n c.there
                  (ap (λ (s : ShelfView). pipe_in s.pipes q) (sym (c.other apart)) ∙ p)
              go (inr differ) k =
                  let s = mid-pipe q core t e differ in
                  a.pipes.nowhere_else core q s.0 n s.1 (sym s.2 ∙ p)

      -- ---- what follows it is due

      -- a core with what follows the visit: its due visits with the one that follows, if that is to a pipe of its own
      pub record IsFollowed (core : ℕ) (u : ShelfView) : Type 0 where
        pub mid_was : ShelfView
        pub mid_there : slice_get mid core ≡ Some mid_was
        pub canonical : IsCanonical u.due
        pub members : (y : Due) → Among y u.due
            ↔ (((next_hop S v ≡ Some y) × (slice_index owners (pipe_of S y) ≡ core)) ⊎ Among y mid_was.due)
        pub same_pipes : u.pipes ≡ mid_was.pipes
        pub same_visits : u.visits ≡ mid_was.visits

      pub followed-due : (core : ℕ) (u : ShelfView) → IsFollowed core u → ArePending S (J ++ visit_of S J head.due ∷ []) owners core u.due
      followed-due core u i = record { canonical = i.canonical; members = λ y. (into y, out y) }
        where
          next : (y : Due) → Among y (pending S (J ++ v ∷ []))
              ↔ ((next_hop S v ≡ Some y) ⊎ (Among y (pending S J) × (y.packet ≢ x.packet)))
          next = next-pending S is J g x own.0 head-first

          into : (y : Due) → Among y u.due → Among y (pending S (J ++ v ∷ [])) × (slice_index owners (pipe_of S y) ≡ core)
          into y k = ⊎_elim
              (λ n. ((next y).1 (inl n.0), n.1))
              (λ n. let o = ((mid-parts core i.mid_was i.mid_there).1 y).0 n in ((next y).1 (inr o.0), o.1))
              ((i.members y).0 k)

          out : (y : Due) → Among y (pending S (J ++ v ∷ [])) × (slice_index owners (pipe_of S y) ≡ core) → Among y u.due
          out y k = (i.members y).1 (⊎_elim
              (λ n. inl (n, k.1))
              (λ n. inr (((mid-parts core i.mid_was i.mid_there).1 y).1 (n, k.1)))
              ((next y).0 k.0))

      -- where a visit follows
      pub put-followed : (z : Due) (new : List ShelfView) → next_hop S (visit_of S J head.due) ≡ Some z
          → ChangesAt (slice_index owners (pipe_of S z)) (PutsDue z) mid new
          → (core : ℕ) (u : ShelfView) → slice_get new core ≡ Some u → IsFollowed core u
      put-followed z new some n core u e =
          go (changed-at (slice_index owners (pipe_of S z)) (PutsDue z) mid new n core u e)
          (cases_eq core (slice_index owners (pipe_of S z)))
        where
          go : IsChanged (slice_index owners (pipe_of S z)) (PutsDue z) mid core u
              → (core ≡ slice_index owners (pipe_of S z)) ⊎ (core ≢ slice_index owners (pipe_of S z)) → IsFollowed core u
          go c (inl here) = record {
            mid_was = c.was;
            mid_there = c.there;
            canonical = (c.here here).canonical;
            members = λ y. (
              (λ k. ⊎_elim
                  (λ same. inl (some ∙ ap Some same, ap (λ (w : Due). slice_index owners (pipe_of S w)) (sym same) ∙ sym here))
                  (λ o. inr o) (((c.here here).members y).0 k)),
              λ k. ((c.here here).members y).1 (⊎_elim
                  (λ o. let both : Some z ≡ Some y = sym some ∙ o.0 in let same : z ≡ y = cc in inl same)
                  (λ o. inr o) k),
            );
            same_pipes = (c.here here).pipes;
            same_visits = (c.here here).visits;
          }
          go c (inr apart) = record {
            mid_was = c.was;
            mid_there = c.there;
            canonical = subst (λ (s : ShelfView). IsCanonical s.due) (sym (c.other apart)) (mid-parts core c.was c.there).0;
            members = λ y. (
              (λ k. inr (subst (λ (s : ShelfView). Among y s.due) (c.other apart) k)),
              λ k. ⊎_elim
                  (λ o. let both : Some z ≡ Some y = sym some ∙ o.0 in let same : z ≡ y = cc in
                  absurd (apart (sym o.1 ∙ ap (λ (w : Due). slice_index owners (pipe_of S w)) (sym same))))
                  (λ o. subst (λ (s : ShelfView). Among y s.due) (sym (c.other apart)) o) k,
            );
            same_pipes = ap (λ (s : ShelfView). s.pipes) (c.other apart);
            same_visits = ap (λ (s : ShelfView). s.visits) (c.other apart);
          }

      -- where the way ends and the packet is settled
      pub settle-followed : (at : ℕ) (Changes : ShelfView → ShelfView → Type 0)
          → ((s t : ShelfView) → Changes s t → (t.due ≡ s.due) × (t.pipes ≡ s.pipes) × (t.visits ≡ s.visits))
          → (new : List ShelfView) → next_hop S (visit_of S J head.due) ≡ None → ChangesAt at Changes mid new
          → (core : ℕ) (u : ShelfView) → slice_get new core ≡ Some u → IsFollowed core u
      settle-followed at Changes stays new none n core u e =
          let c = changed-at at Changes mid new n core u e in
          let same = parts c (cases_eq core at) in
          record {
            mid_was = c.was;
            mid_there = c.there;
            canonical = subst IsCanonical (sym same.0) (mid-parts core c.was c.there).0;
            members = λ y. (
              (λ k. inr (subst (Among y) same.0 k)),
              λ k. ⊎_elim (λ o. absurd (clash y (sym none ∙ o.0))) (λ o. subst (Among y) (sym same.0) o) k,
            );
            same_pipes = same.1;
            same_visits = same.2;
          }
        where
          clash : (y : Due) → None ≡ Some y → ⊥
          clash y e = cc

          parts : (c : IsChanged at Changes mid core u) → (core ≡ at) ⊎ (core ≢ at)
              → (u.due ≡ c.was.due) × (u.pipes ≡ c.was.pipes) × (u.visits ≡ c.was.visits)
          parts c (inl here) = stays c.was u (c.here here)
          parts c (inr apart) = (
            ap (λ (s : ShelfView). s.due) (c.other apart),
            ap (λ (s : ShelfView). s.pipes) (c.other apart),
            ap (λ (s : ShelfView). s.visits) (c.other apart),
          )

      -- the pipes then are those of the visit
      pub followed-pipes : (new : List ShelfView) → ((core : ℕ) (u : ShelfView) → slice_get new core ≡ Some u → IsFollowed core u)
          → HavePipes S (J ++ visit_of S J head.due ∷ []) owners new
      followed-pipes new each = record {
        there = λ q u named e.
            (let i = each (slice_index owners q) u e in
            subst (HoldsPipe S (J ++ v ∷ []) q) (sym i.same_pipes) (mid-pipes.there q i.mid_was named i.mid_there));
        nowhere_else = λ core q u n e p.
            (let i = each core u e in
            mid-pipes.nowhere_else core q i.mid_was n i.mid_there (ap (λ l. pipe_in l q) (sym i.same_pipes) ∙ p));
      }
