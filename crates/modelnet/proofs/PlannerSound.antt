-- A command that plans a run is sound: its inputs have one first fault, or one plan, which is refused for one reason, or of which it
-- writes one text to each output.
use Rattle.std.proofs.Common.{◌≡◌, ◌⊎◌, inl, inr, ℕ, List, [], ◌∷◌, ◌++◌, Option, Some, None, refl, sym, ◌∙◌, ap, subst}
use Rattle.std.proofs.lemmas.List.{append-nil}
use Rattle.mn_base.specs.declared.refusal.Refusal.TheVariants.{Fault}
use Rattle.gml_reader.specs.declared.faults.GmlFault.{GmlFault}
use Rattle.gml_reader.specs.Texts.{IsFirstFault}
use Rattle.gml_reader.proofs.OneAnswer as topologies
use Rattle.pcapng_in.specs.declared.fault.CaptureFault.{CaptureFault}
use Rattle.pcapng_in.specs.declared.fault.CaptureFault.TheVariants.{Pcap, Ng}
use Rattle.pcapng_in.specs.CaptureFile.{CaptureFirst}
use Rattle.pcapng_in.proofs.ByFormat.{never_capture_both, one_capture_fault}
use Rattle.plan.specs.declared.faults.PlanFault.{PlanFault}
use Rattle.plan.specs.declared.options.Options.{Options}
use Rattle.plan.specs.PlannedView.{PlannedView}
use Rattle.modelnet.specs.declared.status.Status.{Status}
use Rattle.modelnet.specs.declared.status.Status.TheVariants.{BadTopology, BadPlan}
use Rattle.modelnet.specs.Commands.{Command}
use Rattle.modelnet.specs.Exact.{IsRefusal, IsSoundCommand}
use Rattle.modelnet.specs.Planning.{IsDirectoryRead}
use Rattle.modelnet.specs.Running.{Plans, HasPlanFault}
use Rattle.modelnet.specs.Statuses.{trace_refusal}
use Rattle.modelnet.proofs.OnePlanned.{plans_or_fault, one_plan_fault, one_planned}

-- the directory that was read is one, also where no more than it can be read
pub one_directory : (named : Option (List ℕ)) (front back : List (List ℕ)) (given other : Option (List ℕ)) → IsDirectoryRead named front given
    → IsDirectoryRead named (front ++ back) other → given ≡ other
one_directory None [] [] None None is also = refl
one_directory (Some name) (text ∷ []) [] (Some given) (Some other) is also = ap Some (is ∙ sym also)
one_directory None [] [] None (Some other) is also = absurd also
one_directory None [] [] (Some given) other is also = absurd is
one_directory None [] (text ∷ back) given other is also = absurd also
one_directory None (text ∷ front) back given other is also = absurd is
one_directory (Some name) [] back given other is also = absurd is
one_directory (Some name) (text ∷ []) [] None other is also = absurd is
one_directory (Some name) (text ∷ []) [] (Some given) None is also = absurd also
one_directory (Some name) (text ∷ []) (more ∷ back) given other is also = absurd also
one_directory (Some name) (text ∷ more ∷ front) back given other is also = absurd is

-- What a command that plans asks of its plan, what it reads after the trace, and what it refuses and writes of these.
pub record Planner : Type 1 where
  pub Behind : Type 0
  pub options : Options
  pub is_behind : List (List ℕ) → Behind → Type 0
  pub directory : Behind → Option (List ℕ)
  pub refuses : Behind → PlannedView → Status → Type 0
  pub writes : Behind → PlannedView → List (List ℕ) → Type 0

-- these inputs have this plan, with what was read after the trace
pub record HasPlanned (p : Planner) (topology trace : List ℕ) (rest : List (List ℕ)) (behind : p.Behind) (planned : PlannedView) : Type 0 where
  pub given : p.is_behind rest behind
  pub plans : Plans p.options topology trace (p.directory behind) planned

-- the inputs are refused by the trace
abbrev pub ByTrace : List ℕ → List (List ℕ) → Status → Type 0
ByTrace trace rest status = (fault : CaptureFault) × (status ≡ trace_refusal (Fault fault)) × CaptureFirst trace fault

-- or since they have no plan
pub record ByFault (p : Planner) (topology trace : List ℕ) (rest : List (List ℕ)) (status : Status) : Type 0 where
  pub behind : p.Behind
  pub given : p.is_behind rest behind
  pub fault : PlanFault
  pub status_is : status ≡ BadPlan fault
  pub has : HasPlanFault p.options topology trace (p.directory behind) fault

-- or by their plan
pub record ByPlan (p : Planner) (topology trace : List ℕ) (rest : List (List ℕ)) (status : Status) : Type 0 where
  pub behind : p.Behind
  pub planned : PlannedView
  pub has : HasPlanned p topology trace rest behind planned
  pub refused : p.refuses behind planned status

abbrev pub Cause : Planner → List ℕ → List ℕ → List (List ℕ) → Status → Type 0
Cause p topology trace rest status =
    ByTrace trace rest status ⊎ (ByFault p topology trace rest status ⊎ ByPlan p topology trace rest status)

-- this is written of their plan
pub record IsWritten (p : Planner) (topology trace : List ℕ) (rest : List (List ℕ)) (outs : List (List ℕ)) : Type 0 where
  pub behind : p.Behind
  pub planned : PlannedView
  pub has : HasPlanned p topology trace rest behind planned
  pub written : p.writes behind planned outs

-- c is a command that plans so
pub record IsPlannerOf (c : Command) (p : Planner) : Type 0 where
  pub nothing_refused : (status : Status) → c.refuses [] status → ⊥
  pub by_topology : (topology : List ℕ) (status : Status) → c.refuses (topology ∷ []) status
      → (fault : GmlFault) × (status ≡ BadTopology fault) × IsFirstFault topology fault
  pub cause : (topology trace : List ℕ) (rest : List (List ℕ)) (status : Status) → c.refuses (topology ∷ trace ∷ rest) status
      → Cause p topology trace rest status
  pub nothing_written : (outs : List (List ℕ)) → c.writes [] outs → ⊥
  pub no_trace_written : (topology : List ℕ) (outs : List (List ℕ)) → c.writes (topology ∷ []) outs → ⊥
  pub written : (topology trace : List ℕ) (rest outs : List (List ℕ)) → c.writes (topology ∷ trace ∷ rest) outs
      → IsWritten p topology trace rest outs
  pub one_behind : (front back : List (List ℕ)) (one other : p.Behind) → p.is_behind front one → p.is_behind (front ++ back) other
      → one ≡ other
  pub refusals : (behind : p.Behind) (planned : PlannedView) (status : Status) → p.refuses behind planned status → IsRefusal status
  pub one_refusal : (behind : p.Behind) (planned : PlannedView) (one other : Status) → p.refuses behind planned one
      → p.refuses behind planned other → one ≡ other
  pub never_both : (behind : p.Behind) (planned : PlannedView) (status : Status) (outs : List (List ℕ)) → p.refuses behind planned status
      → p.writes behind planned outs → ⊥
  pub one_output : (behind : p.Behind) (planned : PlannedView) (outs others : List (List ℕ)) → p.writes behind planned outs
      → p.writes behind planned others → outs ≡ others

is_trace_refusal : (fault : CaptureFault) → IsRefusal (trace_refusal (Fault fault))
is_trace_refusal (Pcap fault) = tt
is_trace_refusal (Ng fault) = tt

module _ (c : Command) (p : Planner) (is : IsPlannerOf c p) (topology trace : List ℕ) where
  one_is_behind : (rest : List (List ℕ)) (one other : p.Behind) → p.is_behind rest one → p.is_behind rest other → one ≡ other
  one_is_behind rest one other given also =
      is.one_behind rest [] one other given (subst (λ read. p.is_behind read other) (sym (append-nil rest)) also)

  -- a trace that is read has no fault
  trace_or_plan : (rest : List (List ℕ)) (status : Status) (behind : p.Behind) (planned : PlannedView) → ByTrace trace rest status
      → HasPlanned p topology trace rest behind planned → ⊥
  trace_or_plan rest status behind planned f has = let plans = has.plans in never_capture_both trace plans.capture f.0 plans.says f.2

  trace_or_fault : (rest : List (List ℕ)) (one other : Status) → ByTrace trace rest one → ByFault p topology trace rest other → ⊥
  trace_or_fault rest one other f g = let has = g.has in never_capture_both trace has.capture f.0 has.says f.2

  -- and what has a plan has none, where no more is read
  plan_or_fault : (front back : List (List ℕ)) (status : Status) (behind : p.Behind) (planned : PlannedView)
      → ByFault p topology trace front status → HasPlanned p topology trace (front ++ back) behind planned → ⊥
  plan_or_fault front back status behind planned f has =
      let same = is.one_behind front back f.behind behind f.given has.given in
      plans_or_fault p.options topology trace (p.directory behind) planned f.fault has.plans
      (subst (λ b. HasPlanFault p.options topology trace (p.directory b) f.fault) same f.has)

  whole : (rest : List (List ℕ)) (behind : p.Behind) (planned : PlannedView) → HasPlanned p topology trace rest behind planned
      → HasPlanned p topology trace (rest ++ []) behind planned
  whole rest behind planned has = subst (λ read. HasPlanned p topology trace read behind planned) (sym (append-nil rest)) has

  one_fault : (rest : List (List ℕ)) (one other : Status) → ByFault p topology trace rest one → ByFault p topology trace rest other
      → one ≡ other
  one_fault rest one other f g =
      let same = one_is_behind rest f.behind g.behind f.given g.given in
      let fault = one_plan_fault p.options topology trace (p.directory g.behind) f.fault g.fault
      (subst (λ b. HasPlanFault p.options topology trace (p.directory b) f.fault) same f.has) g.has in
      f.status_is ∙ ap (λ x. BadPlan x) fault ∙ sym g.status_is

  one_plan : (rest : List (List ℕ)) (behind other : p.Behind) (planned others : PlannedView) → behind ≡ other
      → HasPlanned p topology trace rest behind planned → HasPlanned p topology trace rest other others → planned ≡ others
  one_plan rest behind other planned others same has also =
      one_planned p.options topology trace (p.directory other) planned others
      (subst (λ b. Plans p.options topology trace (p.directory b) planned) same has.plans) also.plans

  by_one_plan : (rest : List (List ℕ)) (one other : Status) → ByPlan p topology trace rest one → ByPlan p topology trace rest other
      → one ≡ other
  by_one_plan rest one other f g =
      let behind = one_is_behind rest f.behind g.behind f.has.given g.has.given in
      let planned = one_plan rest f.behind g.behind f.planned g.planned behind f.has g.has in
      is.one_refusal g.behind g.planned one other
      (subst (λ q. p.refuses g.behind q one) planned (subst (λ b. p.refuses b f.planned one) behind f.refused)) g.refused

  one_cause : (rest : List (List ℕ)) (one other : Status) → Cause p topology trace rest one → Cause p topology trace rest other → one ≡ other
  one_cause rest one other (inl f) (inl g) = f.1 ∙ ap (λ x. trace_refusal (Fault x)) (one_capture_fault trace f.0 g.0 f.2 g.2) ∙ sym g.1
  one_cause rest one other (inl f) (inr (inl g)) = absurd (trace_or_fault rest one other f g)
  one_cause rest one other (inl f) (inr (inr g)) = absurd (trace_or_plan rest one g.behind g.planned f g.has)
  one_cause rest one other (inr (inl f)) (inl g) = absurd (trace_or_fault rest other one g f)
  one_cause rest one other (inr (inl f)) (inr (inl g)) = one_fault rest one other f g
  one_cause rest one other (inr (inl f)) (inr (inr g)) =
      absurd (plan_or_fault rest [] one g.behind g.planned f (whole rest g.behind g.planned g.has))
  one_cause rest one other (inr (inr f)) (inl g) = absurd (trace_or_plan rest other f.behind f.planned g f.has)
  one_cause rest one other (inr (inr f)) (inr (inl g)) =
      absurd (plan_or_fault rest [] other f.behind f.planned g (whole rest f.behind f.planned f.has))
  one_cause rest one other (inr (inr f)) (inr (inr g)) = by_one_plan rest one other f g

  -- a plan that is refused isn't written
  refused_or_written : (front back outs : List (List ℕ)) (status : Status) → ByPlan p topology trace front status
      → IsWritten p topology trace (front ++ back) outs → ⊥
  refused_or_written front back outs status f w =
      let behind = is.one_behind front back f.behind w.behind f.has.given w.has.given in
      let plans = subst (λ b. Plans p.options topology trace (p.directory b) f.planned) behind f.has.plans in
      let planned = one_planned p.options topology trace (p.directory w.behind) f.planned w.planned plans w.has.plans in
      is.never_both w.behind w.planned status outs
      (subst (λ q. p.refuses w.behind q status) planned (subst (λ b. p.refuses b f.planned status) behind f.refused)) w.written

  cause_or_written : (front back outs : List (List ℕ)) (status : Status) → Cause p topology trace front status
      → IsWritten p topology trace (front ++ back) outs → ⊥
  cause_or_written front back outs status (inl f) w = trace_or_plan (front ++ back) status w.behind w.planned f w.has
  cause_or_written front back outs status (inr (inl f)) w = plan_or_fault front back status w.behind w.planned f w.has
  cause_or_written front back outs status (inr (inr f)) w = refused_or_written front back outs status f w

  one_writing : (rest outs others : List (List ℕ)) → IsWritten p topology trace rest outs → IsWritten p topology trace rest others
      → outs ≡ others
  one_writing rest outs others v w =
      let behind = one_is_behind rest v.behind w.behind v.has.given w.has.given in
      let planned = one_plan rest v.behind w.behind v.planned w.planned behind v.has w.has in
      is.one_output w.behind w.planned outs others
      (subst (λ q. p.writes w.behind q outs) planned (subst (λ b. p.writes b v.planned outs) behind v.written)) w.written

  is_refusal : (rest : List (List ℕ)) (status : Status) → Cause p topology trace rest status → IsRefusal status
  is_refusal rest status (inl f) = subst IsRefusal (sym f.1) (is_trace_refusal f.0)
  is_refusal rest status (inr (inl f)) = subst IsRefusal (sym f.status_is) tt
  is_refusal rest status (inr (inr f)) = is.refusals f.behind f.planned status f.refused

module _ (c : Command) (p : Planner) (is : IsPlannerOf c p) where
  planner_refusals : (read : List (List ℕ)) (status : Status) → c.refuses read status → IsRefusal status
  planner_refusals [] status refused = absurd (is.nothing_refused status refused)
  planner_refusals (topology ∷ []) status refused =
      let f = is.by_topology topology status refused in subst IsRefusal (sym f.1) tt
  planner_refusals (topology ∷ trace ∷ rest) status refused =
      is_refusal c p is topology trace rest status (is.cause topology trace rest status refused)

  planner_one_refusal : (read : List (List ℕ)) (one other : Status) → c.refuses read one → c.refuses read other → one ≡ other
  planner_one_refusal [] one other refused also = absurd (is.nothing_refused one refused)
  planner_one_refusal (topology ∷ []) one other refused also =
      let f = is.by_topology topology one refused in
      let g = is.by_topology topology other also in
      f.1 ∙ ap (λ x. BadTopology x) (topologies.one_fault topology f.0 g.0 f.2 g.2) ∙ sym g.1
  planner_one_refusal (topology ∷ trace ∷ rest) one other refused also =
      one_cause c p is topology trace rest one other (is.cause topology trace rest one refused) (is.cause topology trace rest other also)

  planner_never_both : (front back outs : List (List ℕ)) (status : Status) → c.refuses front status → c.writes (front ++ back) outs → ⊥
  planner_never_both [] back outs status refused says = is.nothing_refused status refused
  planner_never_both (topology ∷ []) [] outs status refused says = is.no_trace_written topology outs says
  planner_never_both (topology ∷ []) (trace ∷ rest) outs status refused says =
      let f = is.by_topology topology status refused in
      let w = is.written topology trace rest outs says in
      let plans = w.has.plans in
      topologies.never_both topology plans.target f.0 plans.reads f.2
  planner_never_both (topology ∷ trace ∷ rest) back outs status refused says =
      cause_or_written c p is topology trace rest back outs status (is.cause topology trace rest status refused)
      (is.written topology trace (rest ++ back) outs says)

  planner_one_output : (read outs others : List (List ℕ)) → c.writes read outs → c.writes read others → outs ≡ others
  planner_one_output [] outs others says also = absurd (is.nothing_written outs says)
  planner_one_output (topology ∷ []) outs others says also = absurd (is.no_trace_written topology outs says)
  planner_one_output (topology ∷ trace ∷ rest) outs others says also =
      one_writing c p is topology trace rest outs others (is.written topology trace rest outs says)
      (is.written topology trace rest others also)

  pub planner_is_sound : IsSoundCommand c
  planner_is_sound = record {
    refusals = planner_refusals;
    one_refusal = planner_one_refusal;
    never_both = planner_never_both;
    one_output = planner_one_output;
  }
