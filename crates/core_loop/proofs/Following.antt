-- A window from visit to visit: once the visit is made, and what follows it is noted, the next one can be taken out.
use Rattle.std.proofs.Common.{◌≡◌, ◌≢◌, ◌⊎◌, inl, inr, ⊎_elim, ℕ, ◌+◌, ◌≤◌, ◌==◌, Bool, true, false, cond, ◌&&◌, List, [], ◌∷◌, ◌++◌, map, filter, Some, append_assoc, append-nil, refl, sym, ap, ◌∙◌, subst, arith, eqb-true, eq-eqb}
use Rattle.std.proofs.lemmas.Bool.{and_from, and_parts, ne_eqb}
use Rattle.std.proofs.lemmas.List.{map-append}
use Rattle.std.proofs.lemmas.List.Elements.{filter-append}
use Rattle.std.specs.Prelude.{◌↔◌}
use Rattle.mn_base.specs.Among.{Among}
use Rattle.mn_base.specs.declared.due.Due.{Due}
use Rattle.journal.specs.declared.visit.Visit.{Visit}
use Rattle.journal.specs.SetupView.{SetupView}
use Rattle.journal.specs.IsSetup.{IsSetup}
use Rattle.journal.specs.Hops.{due_of, pipe_of, next_hop}
use Rattle.journal.specs.Journal.{journal_of}
use Rattle.parcel.specs.Owners.{owner_of}
use Rattle.parcel.specs.Windows.{window_of}
use Rattle.parcel.specs.Known.{predecessor}
use Rattle.parcel.specs.DueAt.{IsDueAfter}
use Rattle.parcel.specs.Told.{told_by}
use Rattle.deadline_heap.specs.Canonical.{IsCanonical}
use Rattle.core_loop.specs.Work.{IsSplit, IsChosen, IsHeapAfter, IsHeapWithout, is_run, is_left_to_tell, told_in}
use Rattle.mn_base.proofs.Members.{Among-append, Among-append-right, Among-find}
use Rattle.journal.proofs.Orderly.{visit-pipe}
use Rattle.journal.proofs.Meets.{meets}
use Rattle.parcel.proofs.Origins.{IsPredecessor, predecessor-is, predecessor-follows, follower-predecessor}
use Rattle.parcel.proofs.Sending.{next-visited}
use Rattle.parcel.proofs.Running.{due-then}
use Rattle.core_loop.proofs.Kept.{filter-skip, filter-last}

-- the visit before this one is that of the packet's hop before
pub predecessor-of : (S : SetupView) (u w : Visit) → predecessor S w ≡ Some u → IsPredecessor S u w
predecessor-of S u w e =
    let f = Among-find (λ (x : Visit). (x.packet == w.packet) && (x.hop + 1 == w.hop)) u (journal_of S) e in
    let t = and_parts (u.packet == w.packet) (u.hop + 1 == w.hop) f.1 in
    record { among = f.0; packet = eqb-true u.packet w.packet t.0; hop = sym (eqb-true (u.hop + 1) w.hop t.1) }

module _ {S : SetupView} {core window : ℕ} {front rest : List Visit} {x : Due} (split : IsSplit S core window front rest)
    (c : IsChosen S core window rest x) where
  is : IsSetup S
  is = split.is_setup

  -- the visits that are made now
  abbrev pub made : List Visit
  made = front ++ (c.skipped ++ c.visit ∷ [])

  v-rest : Among c.visit rest
  v-rest = subst (Among c.visit) (sym c.next.split) (Among-append-right c.visit c.skipped (c.visit ∷ c.behind) (inl refl))

  pub v-among : Among c.visit (journal_of S)
  v-among = subst (Among c.visit) split.whole (Among-append-right c.visit front rest v-rest)

  pub split-then : IsSplit S core window (front ++ (c.skipped ++ c.visit ∷ [])) c.behind
  split-then = record { is_setup = is; whole = whole; early = early; late = late }
    where
      whole : (front ++ (c.skipped ++ c.visit ∷ [])) ++ c.behind ≡ journal_of S
      whole =
          append_assoc front (c.skipped ++ c.visit ∷ []) c.behind
          ∙ ap (λ (l : List Visit). front ++ l) (append_assoc c.skipped (c.visit ∷ []) c.behind)
          ∙ ap (λ (l : List Visit). front ++ l) (sym c.next.split)
          ∙ split.whole

      early : (u : Visit) → Among u (front ++ (c.skipped ++ c.visit ∷ [])) → owner_of S u.pipe ≡ core → window_of S u.tick ≤ window
      early u a own = go (Among-append u front (c.skipped ++ c.visit ∷ []) a)
        where
          at : Among u c.skipped ⊎ Among u (c.visit ∷ []) → window_of S u.tick ≤ window
          at (inl s) = absurd (c.next.others u s own)
          at (inr (inl e)) = subst (λ (t : Visit). window_of S t.tick ≤ window) e (omega (arith, c.here))
          at (inr (inr none)) = absurd none

          go : Among u front ⊎ Among u (c.skipped ++ c.visit ∷ []) → window_of S u.tick ≤ window
          go (inl f) = split.early u f own
          go (inr b) = at (Among-append u c.skipped (c.visit ∷ []) b)

      late : (u : Visit) → Among u c.behind → owner_of S u.pipe ≡ core → window ≤ window_of S u.tick
      late u a own =
          split.late u (subst (Among u) (sym c.next.split) (Among-append-right u c.skipped (c.visit ∷ c.behind) (inr a))) own

  -- a visit that follows the one that was made is due here
  abbrev pub Follows : Due → Type 0
  Follows y = (next_hop S c.visit ≡ Some y) × (owner_of S (pipe_of S y) ≡ core)

  -- what is due once the visit is made: what was due but for it, and what follows it
  due-now : (w : Visit) → IsDueAfter S core window (front ++ (c.skipped ++ c.visit ∷ [])) c.behind w
      ↔ ((IsDueAfter S core window front rest w × (c.visit ≢ w))
      ⊎ (Among w (journal_of S) × (owner_of S w.pipe ≡ core) × (predecessor S w ≡ Some c.visit)))
  due-now w = due-then S is core window front rest split.whole c.skipped c.visit c.behind c.next w

  -- the heap, with what follows the visit, if it is the core's own
  pub heap-then : {old new : List Due} → IsHeapWithout S core window front rest c.visit old → IsCanonical new
      → ((y : Due) → Among y new ↔ (Follows y ⊎ Among y old))
      → IsHeapAfter S core window (front ++ (c.skipped ++ c.visit ∷ [])) c.behind new
  heap-then {old} {new} h canonical members = record { canonical = canonical; members = λ y. (there y, back y) }
    where
      there : (y : Due) → Among y new
          → (w : Visit) × IsDueAfter S core window (front ++ (c.skipped ++ c.visit ∷ [])) c.behind w × (due_of w ≡ y)
      there y a = ⊎_elim follows before ((members y).0 a)
        where
          before : Among y old → (w : Visit) × IsDueAfter S core window (front ++ (c.skipped ++ c.visit ∷ [])) c.behind w × (due_of w ≡ y)
          before o =
              let m = (h.members y).0 o in
              (m.0, (due-now m.0).1 (inl (m.1.0, m.1.1)), m.2)

          follows : Follows y → (w : Visit) × IsDueAfter S core window (front ++ (c.skipped ++ c.visit ∷ [])) c.behind w × (due_of w ≡ y)
          follows f =
              let n = next-visited S is c.visit y v-among f.0 in
              let p = follower-predecessor S is c.visit n.0 v-among (f.0 ∙ ap Some (sym n.2)) in
              let at : n.0.pipe ≡ pipe_of S y = visit-pipe S (journal_of S) n.0 (meets S is).made n.1 ∙ ap (pipe_of S) n.2 in (
                n.0,
                (due-now n.0).1
                    (inr (n.1, ap (owner_of S) at ∙ f.1, predecessor-is S is c.visit n.0 p)),
                n.2,
              )

      back : (y : Due) → (w : Visit) × IsDueAfter S core window (front ++ (c.skipped ++ c.visit ∷ [])) c.behind w × (due_of w ≡ y)
          → Among y new
      back y m =
          (members y).1
          (⊎_elim before follows ((due-now m.0).0 m.1))
        where
          before : IsDueAfter S core window front rest m.0 × (c.visit ≢ m.0) → Follows y ⊎ Among y old
          before b = inr ((h.members y).1 (m.0, (b.0, b.1), m.2))

          follows : Among m.0 (journal_of S) × (owner_of S m.0.pipe ≡ core) × (predecessor S m.0 ≡ Some c.visit) → Follows y ⊎ Among y old
          follows f =
              let p = predecessor-of S c.visit m.0 f.2 in
              let at : m.0.pipe ≡ pipe_of S y = visit-pipe S (journal_of S) m.0 (meets S is).made f.0 ∙ ap (pipe_of S) m.2 in
              inl (predecessor-follows S is c.visit m.0 p f.0 ∙ ap Some m.2, sym (ap (owner_of S) at) ∙ f.1)

  run_is : is_run S core window c.visit ≡ true
  run_is = and_from _ _ (eq-eqb _ _ c.next.owner) (eq-eqb _ _ c.here)

  skipped_is : (u : Visit) → Among u c.skipped → is_run S core window u ≡ false
  skipped_is u a = ap (λ (b : Bool). b && (window_of S u.tick == window)) (ne_eqb _ _ (c.next.others u a))

  runs-then : filter (is_run S core window) (front ++ (c.skipped ++ c.visit ∷ [])) ≡ filter (is_run S core window) front ++ c.visit ∷ []
  runs-then =
      ap (filter (is_run S core window)) (sym (append_assoc front c.skipped (c.visit ∷ [])))
      ∙ filter-last (is_run S core window) (front ++ c.skipped) c.visit run_is
      ∙ ap (λ (l : List Visit). l ++ c.visit ∷ []) (filter-skip (is_run S core window) front c.skipped skipped_is)

  -- what is to be told has the note of this visit, where it is left to be told
  told-both : told_in S core window (front ++ (c.skipped ++ c.visit ∷ []))
      ≡ told_in S core window front ++ filter (is_left_to_tell core) (told_by S c.visit ∷ [])
  told-both =
      ap (λ (l : List Visit). filter (is_left_to_tell core) (map (told_by S) l)) runs-then
      ∙ ap (filter (is_left_to_tell core)) (map-append (told_by S) (filter (is_run S core window) front) (c.visit ∷ []))
      ∙ filter-append (is_left_to_tell core) (map (told_by S) (filter (is_run S core window) front)) (told_by S c.visit ∷ [])

  pub told-then : is_left_to_tell core (told_by S c.visit) ≡ true
      → told_in S core window (front ++ (c.skipped ++ c.visit ∷ [])) ≡ told_in S core window front ++ told_by S c.visit ∷ []
  told-then kept =
      told-both
      ∙ ap (λ (b : Bool). told_in S core window front ++ cond b (told_by S c.visit ∷ []) []) kept

  pub told-still : is_left_to_tell core (told_by S c.visit) ≡ false
      → told_in S core window (front ++ (c.skipped ++ c.visit ∷ [])) ≡ told_in S core window front
  told-still left =
      told-both
      ∙ ap (λ (b : Bool). told_in S core window front ++ cond b (told_by S c.visit ∷ []) []) left
      ∙ append-nil (told_in S core window front)
