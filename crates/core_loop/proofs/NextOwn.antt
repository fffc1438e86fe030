-- In a window, what is taken out of the heap first is the next visit that the core makes.
use Rattle.std.proofs.Common.{◌≡◌, ◌≢◌, ◌⊎◌, inl, inr, ⊎_elim, ℕ, ◌+◌, ◌<◌, ◌≤◌, List, [], ◌∷◌, refl, sym, ap, ◌∙◌, subst, arith}
use Rattle.std.proofs.lemmas.Bool.{cases_eq}
use Rattle.std.specs.Prelude.{◌↔◌}
use Rattle.mn_base.specs.Among.{Among}
use Rattle.mn_base.specs.declared.due.Due.{Due}
use Rattle.mn_base.specs.Canonical.{Before}
use Rattle.journal.specs.declared.visit.Visit.{Visit}
use Rattle.journal.specs.SetupView.{SetupView}
use Rattle.journal.specs.Hops.{due_of}
use Rattle.journal.specs.Journal.{journal_of}
use Rattle.parcel.specs.Owners.{owner_of}
use Rattle.parcel.specs.Lookahead.{lookahead_of}
use Rattle.parcel.specs.Windows.{window_of}
use Rattle.parcel.specs.Laws.{Starts}
use Rattle.parcel.specs.DueAt.{IsDueAfter}
use Rattle.deadline_heap.specs.Canonical.{HasNoneOf}
use Rattle.core_loop.specs.Work.{IsSplit, IsHeapAfter, IsHeapWithout, IsChosen}
use Rattle.pipe.proofs.CanonicalOrder.{before-asymmetric, before-tick}
use Rattle.journal.proofs.Ends.{hops_differ}
use Rattle.mn_base.proofs.Members.{Among-append-right}
use Rattle.parcel.proofs.WindowLaws.{window-rises}
use Rattle.parcel.proofs.Due.{window-here}
use Rattle.parcel.proofs.Running.{IsNextOwn, next-due, next-first}

-- a list with a visit of the core has a first one
abbrev pub HasNextOwn : SetupView → ℕ → List Visit → Type 0
HasNextOwn S core rest = (skipped : List Visit) × (v : Visit) × (behind : List Visit) × IsNextOwn S core rest skipped v behind

pub first_own : (S : SetupView) (core : ℕ) (rest : List Visit) (w : Visit) → Among w rest → owner_of S w.pipe ≡ core → HasNextOwn S core rest
first_own S core [] w a own = absurd a
first_own S core (u ∷ rest) w a own = go (cases_eq (owner_of S u.pipe) core) (λ b. first_own S core rest w b own)
  where
    go : (owner_of S u.pipe ≡ core) ⊎ (owner_of S u.pipe ≢ core) → (Among w rest → HasNextOwn S core rest) → HasNextOwn S core (u ∷ rest)
    go (inl mine) deeper = ([], u, rest, record { split = refl; others = λ x n. absurd n; owner = mine })
    go (inr other) deeper = more (deeper (in-rest a))
      where
        in-rest : (u ≡ w) ⊎ Among w rest → Among w rest
        in-rest (inl e) = absurd (other (ap (λ (x : Visit). owner_of S x.pipe) e ∙ own))
        in-rest (inr b) = b

        more : HasNextOwn S core rest → HasNextOwn S core (u ∷ rest)
        more n = (
          u ∷ n.0,
          n.1,
          n.2,
          record { split = ap (λ (l : List Visit). u ∷ l) n.3.split; others = others; owner = n.3.owner },
        )
          where
            others : (x : Visit) → Among x (u ∷ n.0) → owner_of S x.pipe ≢ core
            others x (inl e) same = other (ap (λ (y : Visit). owner_of S y.pipe) e ∙ same)
            others x (inr b) same = n.3.others x b same

module _ {S : SetupView} {core window : ℕ} {front rest : List Visit} (split : IsSplit S core window front rest) where
  in-journal : (v : Visit) → Among v rest → Among v (journal_of S)
  in-journal v a = subst (Among v) split.whole (Among-append-right v front rest a)

  pub chosen : {start : ℕ} → Starts S window start → {x : Due} {heap : List Due} → IsHeapAfter S core window front rest (x ∷ heap)
      → x.tick < start + lookahead_of S
      → IsChosen S core window rest x
  chosen {start} s {x} {heap} h below = go ((h.members x).0 (inl refl))
    where
      go : (w : Visit) × IsDueAfter S core window front rest w × (due_of w ≡ x) → IsChosen S core window rest x
      go m = with_next (first_own S core rest m.0 m.1.among m.1.owner)
        where
          with_next : HasNextOwn S core rest → IsChosen S core window rest x
          with_next n = record { skipped = n.0; visit = n.1; behind = n.2; next = n.3; is_due = due; here = here }
            where
              v-among : Among n.1 rest
              v-among = subst (Among n.1) (sym n.3.split) (Among-append-right n.1 n.0 (n.1 ∷ n.2) (inl refl))

              first : (n.1 ≡ m.0) ⊎ Before (due_of n.1) (due_of m.0)
              first = next-first S split.is_setup core window front rest split.whole n.0 n.1 n.2 n.3 m.0 m.1

              tick : m.0.tick ≡ x.tick
              tick = ap (λ (d : Due). d.tick) m.2

              by : n.1.tick ≤ m.0.tick
              by = ⊎_elim (λ e. let t : n.1.tick ≡ m.0.tick = ap (λ (v : Visit). v.tick) e in omega (arith, t))
                  (λ b. before-tick (due_of n.1) (due_of m.0) b) first

              at : window_of S m.0.tick ≡ window
              at = window-here S split.is_setup window start m.0 s (in-journal m.0 m.1.among) (split.late m.0 m.1.among m.1.owner) (omega (arith, tick, below))

              here : window_of S n.1.tick ≡ window
              here =
                  let up : window_of S n.1.tick ≤ window_of S m.0.tick = window-rises S n.1.tick m.0.tick by in
                  let low : window ≤ window_of S n.1.tick = split.late n.1 v-among n.3.owner in
                  omega (arith, up, low, at)

              in-heap : (x ≡ due_of n.1) ⊎ Among (due_of n.1) heap
              in-heap = (h.members (due_of n.1)).1 (n.1, next-due S split.is_setup core window front rest split.whole n.0 n.1 n.2 n.3 here, refl)

              due : due_of n.1 ≡ x
              due = ⊎_elim (λ e. ap due_of e ∙ m.2) earlier first
                where
                  earlier : Before (due_of n.1) (due_of m.0) → due_of n.1 ≡ x
                  earlier b = ⊎_elim (λ e. sym e) clash in-heap
                    where
                      clash : Among (due_of n.1) heap → due_of n.1 ≡ x
                      clash a =
                          absurd (before-asymmetric x (due_of n.1) (h.canonical.0 (due_of n.1) a) (subst (Before (due_of n.1)) m.2 b))

  -- with it out of the heap, what is due and isn't it is left there
  left : {x : Due} {heap : List Due} → IsHeapAfter S core window front rest (x ∷ heap) → (c : IsChosen S core window rest x)
      → (y : Due) → Among y heap ↔ ((w : Visit) × (IsDueAfter S core window front rest w × (c.visit ≢ w)) × (due_of w ≡ y))
  left {x} {heap} h c y = (there, back)
    where
      v-among : Among c.visit rest
      v-among = subst (Among c.visit) (sym c.next.split) (Among-append-right c.visit c.skipped (c.visit ∷ c.behind) (inl refl))

      there : Among y heap → (w : Visit) × (IsDueAfter S core window front rest w × (c.visit ≢ w)) × (due_of w ≡ y)
      there a = go ((h.members y).0 (inr a))
        where
          go : (w : Visit) × IsDueAfter S core window front rest w × (due_of w ≡ y)
              → (w : Visit) × (IsDueAfter S core window front rest w × (c.visit ≢ w)) × (due_of w ≡ y)
          go m = (m.0, (m.1, apart), m.2)
            where
              apart : c.visit ≢ m.0
              apart e = h.canonical.1 y a (ap (λ (d : Due). d.packet) (sym m.2 ∙ ap due_of (sym e) ∙ c.is_due))

      back : (w : Visit) × (IsDueAfter S core window front rest w × (c.visit ≢ w)) × (due_of w ≡ y) → Among y heap
      back m = ⊎_elim same (λ a. a) ((h.members y).1 (m.0, m.1.0, m.2))
        where
          same : x ≡ y → Among y heap
          same e =
              let d : due_of c.visit ≡ due_of m.0 = c.is_due ∙ e ∙ sym m.2 in
              absurd (m.1.1 (hops_differ S split.is_setup c.visit m.0 (in-journal c.visit v-among) (in-journal m.0 m.1.0.among)
              (ap (λ (z : Due). z.packet) d) (ap (λ (z : Due). z.hop) d)))

  -- so that is what the heap has now
  pub heap-without : {x : Due} {heap : List Due} → IsHeapAfter S core window front rest (x ∷ heap) → (c : IsChosen S core window rest x)
      → IsHeapWithout S core window front rest c.visit heap
  heap-without {x} {heap} h c = record {
    canonical = h.canonical.2;
    alone = subst (λ (packet : ℕ). HasNoneOf packet heap) (sym (ap (λ (d : Due). d.packet) c.is_due)) h.canonical.1;
    members = left h c;
  }
