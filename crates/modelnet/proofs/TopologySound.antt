-- A command that reads a topology and writes one text of its distilled topology is sound: a topology has one first fault, or one
-- distilled topology, which has too many pipes or few enough.
use Rattle.std.proofs.Common.{◌≡◌, ◌⊎◌, inl, inr, ℕ, List, [], ◌∷◌, ◌++◌, length, refl, sym, ◌∙◌, ap, subst, arith}
use Rattle.topo.specs.TopologyView.{TopologyView}
use Rattle.gml_reader.specs.declared.faults.GmlFault.{GmlFault}
use Rattle.gml_reader.specs.Texts.{IsFirstFault}
use Rattle.gml_reader.proofs.OneAnswer.{never_both, one_reading, one_fault}
use Rattle.distill.specs.declared.modes.Mode.{Mode}
use Rattle.distill.specs.Distilled.{DistilledView, IsDistilled}
use Rattle.distill.specs.PipeCount.{HasPipeCount}
use Rattle.distill.proofs.OneDistilled.{one_distilled}
use Rattle.distill.proofs.PipeCounts.{one_pipe_count, pipes_are_counted}
use Rattle.plan.specs.declared.faults.PlanFault.TheVariants.{TooManyPipes}
use Rattle.modelnet.specs.declared.status.Status.{Status}
use Rattle.modelnet.specs.declared.status.Status.TheVariants.{BadTopology, BadPlan}
use Rattle.modelnet.specs.Distilling.{Distils, HasTooManyPipes}
use Rattle.modelnet.specs.Exact.{IsRefusal}
use Rattle.modelnet.specs.TheCommands.{topology_refuses, writes_one}

pub refusals : (mode : Mode) (read : List (List ℕ)) (status : Status) → topology_refuses mode read status → IsRefusal status
refusals mode (topology ∷ []) (BadTopology fault) is = tt
refusals mode (topology ∷ []) (BadPlan (TooManyPipes count)) is = tt
refusals mode read status is = absurd is

-- what refuses a topology is its first fault, or its number of pipes
refused_by : (mode : Mode) (text : List ℕ) (status : Status) → topology_refuses mode (text ∷ []) status
    → ((fault : GmlFault) × (status ≡ BadTopology fault) × IsFirstFault text fault)
    ⊎ ((count : ℕ) × (status ≡ BadPlan (TooManyPipes count)) × HasTooManyPipes mode text count)
refused_by mode text (BadTopology fault) is = inl (fault, refl, is)
refused_by mode text (BadPlan (TooManyPipes count)) is = inr (count, refl, is)
refused_by mode text status is = absurd is

-- a text reads to one topology, which has one number of pipes
one_count : (mode : Mode) (text : List ℕ) (count other : ℕ) → HasTooManyPipes mode text count → HasTooManyPipes mode text other
    → count ≡ other
one_count mode text count other is also =
    let same = one_reading text is.topology also.topology is.reads also.reads in
    one_pipe_count also.topology mode count other (subst (λ t. HasPipeCount t mode count) same is.count_is) also.count_is

pub one_refusal : (mode : Mode) (read : List (List ℕ)) (one other : Status) → topology_refuses mode read one
    → topology_refuses mode read other → one ≡ other
one_refusal mode [] one other is also = absurd is
one_refusal mode (text ∷ more ∷ read) one other is also = absurd is
one_refusal mode (text ∷ []) one other is also =
    elim (refused_by mode text one is) [
      | inl f ↦
          elim (refused_by mode text other also) [
            | inl g ↦ f.1 ∙ ap (λ x. BadTopology x) (one_fault text f.0 g.0 f.2 g.2) ∙ sym g.1
            | inr n ↦ absurd (never_both text n.2.topology f.0 n.2.reads f.2)
          ]
      | inr m ↦
          elim (refused_by mode text other also) [
            | inl g ↦ absurd (never_both text m.2.topology g.0 m.2.reads g.2)
            | inr n ↦ m.1 ∙ ap (λ x. BadPlan (TooManyPipes x)) (one_count mode text m.0 n.0 m.2 n.2) ∙ sym n.1
          ]
    ]

-- a topology that is distilled has no fault, and few enough pipes
distilled_is_fine : (mode : Mode) (tick_ns : ℕ) (text : List ℕ) (status : Status) (topology : TopologyView) (distilled : DistilledView)
    → topology_refuses mode (text ∷ []) status → Distils mode tick_ns text topology distilled → ⊥
distilled_is_fine mode tick_ns text (BadTopology fault) topology distilled is d = never_both text topology fault d.reads is
distilled_is_fine mode tick_ns text (BadPlan (TooManyPipes count)) topology distilled is d =
    let same = one_reading text is.topology topology is.reads d.reads in
    let counted = subst (λ t. HasPipeCount t mode count) same is.count_is in
    let long : length distilled.pipes ≡ count = pipes_are_counted topology mode tick_ns count distilled d.distilled_is counted in
    let many = is.too_many in
    let few = d.few in
    omega (arith, long, many, few)
distilled_is_fine mode tick_ns text status topology distilled is d = absurd is

-- a text is distilled in one way
pub one_topology : (mode : Mode) (tick_ns : ℕ) (text : List ℕ) (topology other : TopologyView) (distilled others : DistilledView)
    → Distils mode tick_ns text topology distilled → Distils mode tick_ns text other others → topology ≡ other
one_topology mode tick_ns text topology other distilled others is also = one_reading text topology other is.reads also.reads

pub one_distilling : (mode : Mode) (tick_ns : ℕ) (text : List ℕ) (topology other : TopologyView) (distilled others : DistilledView)
    → Distils mode tick_ns text topology distilled → Distils mode tick_ns text other others → distilled ≡ others
one_distilling mode tick_ns text topology other distilled others is also =
    one_distilled other mode tick_ns distilled others
    (subst (λ t. IsDistilled t mode tick_ns distilled) (one_reading text topology other is.reads also.reads) is.distilled_is) also.distilled_is

-- what is said of the bytes of a topology: they were distilled, and there is one text
pub record IsToldOnce (mode : Mode) (tick_ns : ℕ) (Says : List ℕ → List ℕ → Type 0) : Type 0 where
  pub distils : (text screen : List ℕ) → Says text screen
      → (topology : TopologyView) × (distilled : DistilledView) × Distils mode tick_ns text topology distilled
  pub one_screen : (text screen other : List ℕ) → Says text screen → Says text other → screen ≡ other

-- what is refused isn't told
pub refused_or_told : (mode : Mode) (tick_ns : ℕ) (Says : List ℕ → List ℕ → Type 0) → IsToldOnce mode tick_ns Says
    → (front back written : List (List ℕ)) (status : Status) → topology_refuses mode front status
    → writes_one Says (front ++ back) written → ⊥
refused_or_told mode tick_ns Says told [] back written status refused says = absurd refused
refused_or_told mode tick_ns Says told (text ∷ more ∷ front) back written status refused says = absurd refused
refused_or_told mode tick_ns Says told (text ∷ []) (more ∷ back) written status refused says = absurd says
refused_or_told mode tick_ns Says told (text ∷ []) [] [] status refused says = absurd says
refused_or_told mode tick_ns Says told (text ∷ []) [] (screen ∷ more ∷ written) status refused says = absurd says
refused_or_told mode tick_ns Says told (text ∷ []) [] (screen ∷ []) status refused says =
    let of = told.distils text screen says in distilled_is_fine mode tick_ns text status of.0 of.1 refused of.2

pub told_once : (mode : Mode) (tick_ns : ℕ) (Says : List ℕ → List ℕ → Type 0) → IsToldOnce mode tick_ns Says
    → (read written others : List (List ℕ)) → writes_one Says read written → writes_one Says read others → written ≡ others
told_once mode tick_ns Says told (text ∷ []) (screen ∷ []) (other ∷ []) says also =
    ap (λ s. s ∷ []) (told.one_screen text screen other says also)
told_once mode tick_ns Says told (text ∷ []) (screen ∷ []) [] says also = absurd also
told_once mode tick_ns Says told (text ∷ []) (screen ∷ []) (other ∷ more ∷ others) says also = absurd also
told_once mode tick_ns Says told read written others says also = absurd says
