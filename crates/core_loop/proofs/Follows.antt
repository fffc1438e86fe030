-- What comes of a visit is noted: the next one on the packet's way is due here, or its owner is to be told; or the packet's fate is.
use Rattle.std.proofs.Common.{◌≡◌, ◌≢◌, ◌⊎◌, inl, inr, ⊎_elim, ℕ, ◌+◌, ◌<◌, true, false, not, List, [], ◌∷◌, ◌++◌, length, Option, Some, None, eq-eqb, refl, sym, ap, ◌∙◌, subst, arith}
use Rattle.std.proofs.lemmas.Bool.{ne_eqb}
use Rattle.std.specs.Prelude.{◌↔◌}
use Rattle.std.specs.Option.{option_map_or}
use Rattle.mn_base.specs.Among.{Among}
use Rattle.mn_base.specs.declared.due.Due.{Due}
use Rattle.pipe.specs.declared.step.Step.{Step}
use Rattle.journal.specs.declared.setup.PacketPlan.{PacketPlan}
use Rattle.journal.specs.SetupView.{packet_of, route_of}
use Rattle.journal.specs.Hops.{pipe_of, hop_after, next_hop}
use Rattle.journal.specs.Fates.{fate_of_step}
use Rattle.parcel.specs.declared.note.Note.TheVariants.{Settle}
use Rattle.parcel.specs.Owners.{owner_of, entry_core}
use Rattle.parcel.specs.Told.{Told, told_due, told_after, told_by}
use Rattle.deadline_heap.specs.Canonical.{HasNoneOf, IsCanonical, placed}
use Rattle.core_loop.specs.Work.{WorkView, Makes, Runs, Announces, IsDueHere, IsDueElsewhere, Tells, is_left_to_tell, told_in}
use Rattle.journal.proofs.Delays.{IsNext, next_parts}
use Rattle.journal.proofs.Orderly.{visit-pipe}
use Rattle.journal.proofs.Meets.{meets}
use Rattle.deadline_heap.proofs.Orders.{canonical-placed}
use Rattle.core_loop.proofs.Following.{v-among, split-then, heap-then, told-then, told-still}

-- a visit that comes to be due next is due where its packet's route has a pipe
pub record IsAhead (w : WorkView) (x y : Due) : Type 0 where
  pub packet : y.packet ≡ x.packet
  pub within : y.hop < length (route_of w.setup y.packet)
  pub alone : HasNoneOf y.packet w.heap

module _ (v : WorkView) (x : Due) (step : Step) (m : Makes v x step) where
  -- what follows the visit, by what was decided
  next_is : next_hop v.setup m.chosen.visit ≡ hop_after v.setup x.packet x.hop step
  next_is =
      ap (λ (d : Due). hop_after v.setup d.packet d.hop m.chosen.visit.step) m.chosen.is_due
      ∙ ap (hop_after v.setup x.packet x.hop) (sym m.step_is)

  packet_is : m.chosen.visit.packet ≡ x.packet
  packet_is = ap (λ (d : Due). d.packet) m.chosen.is_due

  pub ahead : (y : Due) → Some y ≡ hop_after v.setup x.packet x.hop step → IsAhead v x y
  ahead y e =
      let n : IsNext v.setup m.chosen.visit y = next_parts v.setup m.chosen.visit y (next_is ∙ sym e) in
      let p : y.packet ≡ m.chosen.visit.packet = ap (λ (d : Due). d.packet) n.is in
      let h : y.hop ≡ m.chosen.visit.hop + 1 = ap (λ (d : Due). d.hop) n.is in
      record {
        packet = p ∙ packet_is;
        within = (let l : m.chosen.visit.hop + 1 < length (route_of v.setup y.packet) =
            subst (λ (k : ℕ). m.chosen.visit.hop + 1 < length (route_of v.setup k)) (sym p) n.within in
            omega (arith, l, h));
        alone = subst (λ (k : ℕ). HasNoneOf k v.heap) (sym p) m.heap_is.alone;
      }

  -- what the visit has to tell
  told_is : (o : Option Due) → o ≡ hop_after v.setup x.packet x.hop step → told_by v.setup m.chosen.visit ≡ told_after v.setup m.chosen.visit o
  told_is o e = ap (told_after v.setup m.chosen.visit) (next_is ∙ sym e)

  -- the visit that is made and what is due after it, in a heap with this change
  runs-with : (heap : List Due) (told : List Told) → IsCanonical heap
      → ((y : Due) → Among y heap
      ↔ (((next_hop v.setup m.chosen.visit ≡ Some y) × (owner_of v.setup (pipe_of v.setup y) ≡ v.number)) ⊎ Among y v.heap))
      → told ≡ told_in v.setup v.number v.counts.windows (m.front ++ (m.chosen.skipped ++ m.chosen.visit ∷ []))
      → Runs (record v { heap = heap; told = told })
  runs-with heap told canonical members tells = record {
    front = m.front ++ (m.chosen.skipped ++ m.chosen.visit ∷ []);
    rest = m.chosen.behind;
    split = split-then m.split m.chosen;
    heap_is = heap-then m.split m.chosen m.heap_is canonical members;
    have_left = record { pipes_have_run = m.pipes_have_run; visits = m.visits; told_is = tells };
  }

  here : (y : Due) (w : WorkView) → Some y ≡ hop_after v.setup x.packet x.hop step → IsDueHere v y w → Runs w
  here y w e h = subst Runs (sym h.same)
      (runs-with (placed y v.heap) v.told (canonical-placed y v.heap (ahead y e).alone m.heap_is.canonical) members still)
    where
      is_next : next_hop v.setup m.chosen.visit ≡ Some y
      is_next = next_is ∙ sym e

      heap_is : w.heap ≡ placed y v.heap
      heap_is = ap (λ (u : WorkView). u.heap) h.same

      members : (z : Due) → Among z (placed y v.heap)
          ↔ (((next_hop v.setup m.chosen.visit ≡ Some z) × (owner_of v.setup (pipe_of v.setup z) ≡ v.number)) ⊎ Among z v.heap)
      members z = (
        (λ a. ⊎_elim
            (λ (s : y ≡ z). inl (is_next ∙ ap Some s, ap (λ (d : Due). owner_of v.setup (pipe_of v.setup d)) (sym s) ∙ h.own))
            inr ((h.members z).0 (subst (Among z) (sym heap_is) a))),
        λ o. subst (Among z) heap_is ((h.members z).1 (⊎_elim (λ f. inl (same f.0)) inr o)),
      )
        where
          same : next_hop v.setup m.chosen.visit ≡ Some z → y ≡ z
          same f = let g : Some y ≡ Some z = sym is_next ∙ f in cc

      left : is_left_to_tell v.number (told_by v.setup m.chosen.visit) ≡ false
      left =
          ap (is_left_to_tell v.number) (told_is (Some y) e)
          ∙ ap not (eq-eqb _ _ h.own)

      still : v.told ≡ told_in v.setup v.number v.counts.windows (m.front ++ (m.chosen.skipped ++ m.chosen.visit ∷ []))
      still = m.told_is ∙ sym (told-still m.split m.chosen left)

  -- nothing that is due next is due here
  elsewhere-members : ((y : Due) → next_hop v.setup m.chosen.visit ≡ Some y → owner_of v.setup (pipe_of v.setup y) ≢ v.number)
      → (z : Due) → Among z v.heap
      ↔ (((next_hop v.setup m.chosen.visit ≡ Some z) × (owner_of v.setup (pipe_of v.setup z) ≡ v.number)) ⊎ Among z v.heap)
  elsewhere-members other z = (inr, λ o. ⊎_elim (λ f. absurd (other z f.0 f.1)) (λ a. a) o)

  tells-more : (t : Told) → told_by v.setup m.chosen.visit ≡ t → is_left_to_tell v.number t ≡ true
      → v.told ++ t ∷ [] ≡ told_in v.setup v.number v.counts.windows (m.front ++ (m.chosen.skipped ++ m.chosen.visit ∷ []))
  tells-more t e left =
      ap (λ (l : List Told). l ++ t ∷ []) m.told_is
      ∙ ap (λ (s : Told). told_in v.setup v.number v.counts.windows m.front ++ s ∷ []) (sym e)
      ∙ sym (told-then m.split m.chosen (ap (is_left_to_tell v.number) e ∙ left))

  elsewhere : (y : Due) (w : WorkView) → Some y ≡ hop_after v.setup x.packet x.hop step → IsDueElsewhere v y w → Runs w
  elsewhere y w e h = subst Runs (sym h.tells)
      (runs-with v.heap (v.told ++ told_due v.setup y ∷ []) m.heap_is.canonical (elsewhere-members other)
      (tells-more (told_due v.setup y) (told_is (Some y) e) (ap not (ne_eqb _ _ h.other))))
    where
      other : (z : Due) → next_hop v.setup m.chosen.visit ≡ Some z → owner_of v.setup (pipe_of v.setup z) ≢ v.number
      other z f own =
          let g : Some y ≡ Some z = e ∙ sym next_is ∙ f in
          let s : y ≡ z = cc in
          h.other (ap (λ (d : Due). owner_of v.setup (pipe_of v.setup d)) s ∙ own)

  -- with the next visit noted
  pub announced : (y : Due) (w : WorkView) → Some y ≡ hop_after v.setup x.packet x.hop step → Announces v y w → Runs w
  announced y w e a = ⊎_elim (here y w e) (elsewhere y w e) a

  -- with the packet's fate noted
  pub settled : (w : WorkView) (pipe : ℕ) (plan : PacketPlan) → None ≡ hop_after v.setup x.packet x.hop step
      → pipe ≡ pipe_of v.setup x → packet_of v.setup x.packet ≡ Some plan
      → Tells v plan.core (Settle x.packet (fate_of_step pipe x.tick step)) w → Runs w
  settled w pipe plan e at known h = subst Runs (sym h)
      (runs-with v.heap (v.told ++ record { receiver = plan.core; note = Settle x.packet (fate_of_step pipe x.tick step) } ∷ [])
      m.heap_is.canonical (elsewhere-members other)
      (tells-more (record { receiver = plan.core; note = Settle x.packet (fate_of_step pipe x.tick step) }) tells refl))
    where
      other : (z : Due) → next_hop v.setup m.chosen.visit ≡ Some z → owner_of v.setup (pipe_of v.setup z) ≢ v.number
      other z f = let g : None ≡ Some z = e ∙ sym next_is ∙ f in cc

      pipe_is : m.chosen.visit.pipe ≡ pipe
      pipe_is =
          visit-pipe v.setup _ m.chosen.visit (meets v.setup m.split.is_setup).made
          (v-among m.split m.chosen)
          ∙ ap (pipe_of v.setup) m.chosen.is_due
          ∙ sym at

      core_is : entry_core v.setup m.chosen.visit.packet ≡ plan.core
      core_is =
          ap (entry_core v.setup) packet_is
          ∙ ap (λ (o : Option PacketPlan). option_map_or (λ p. p.core) o 0) known

      tick_is : m.chosen.visit.tick ≡ x.tick
      tick_is = ap (λ (d : Due). d.tick) m.chosen.is_due

      tells : told_by v.setup m.chosen.visit ≡ record { receiver = plan.core; note = Settle x.packet (fate_of_step pipe x.tick step) }
      tells = told_is None e ∙ cc (m.step_is, pipe_is, core_is, packet_is, tick_is)
