-- What stands after each input of a plan, and after the plan.
use Rattle.std.proofs.Common.{◌≡◌, ◌≢◌, ◌⊎◌, ◌<◌, ◌≤◌, ℕ, List, [], ◌∷◌, length, Option, Some, None, Ok, Err, refl, sym, ◌∙◌, ap, subst, inl, inr, arith}
use Rattle.std.proofs.lemmas.List.{append-nil}
use Rattle.mn_base.specs.declared.refusal.Refusal.{Refusal}
use Rattle.mn_base.specs.declared.refusal.Refusal.TheVariants as refusal
use Rattle.mn_base.specs.Refused.{IfFault}
use Rattle.mn_edge.specs.declared.role.Role.{Role}
use Rattle.mn_edge.specs.declared.role.Role.TheVariants.{Topology, Trace, Directory}
use Rattle.mn_edge.specs.Part.{Part}
use Rattle.topo.specs.TopologyView.{TopologyView}
use Rattle.gml_reader.specs.declared.faults.GmlFault.{GmlFault}
use Rattle.gml_reader.specs.Texts.{Reads, IsFirstFault}
use Rattle.gml_reader.proofs.OneAnswer.{never_both}
use Rattle.pcap_io.specs.Capture.{Capture}
use Rattle.pcapng_in.specs.declared.fault.CaptureFault.{CaptureFault}
use Rattle.pcapng_in.specs.declared.fault.CaptureFault.TheVariants.{Pcap, Ng}
use Rattle.pcapng_in.specs.CaptureFile.{SaysTrace, CaptureFirst}
use Rattle.pcapng_in.proofs.ByFormat.{never_capture_both}
use Rattle.plan.specs.declared.faults.PlanFault.{PlanFault}
use Rattle.plan.specs.Setups.{IsPlan}
use Rattle.plan.specs.Faults.{PlanFirst}
use Rattle.plan.specs.PlannedView.{PlannedView}
use Rattle.modelnet.specs.declared.read_limits.ReadLimits.{ReadLimits}
use Rattle.modelnet.specs.declared.status.Status.{Status}
use Rattle.modelnet.specs.declared.status.Status.TheVariants.{Done, NoMemory, BadTopology, BadTrace, BadPlan, BadCapture}
use Rattle.modelnet.specs.Roles.{Input, input, ReadsInput}
use Rattle.modelnet.specs.Commands.{Host, Command, ReadInputs, ReadsNot, inputs_of, bytes_read}
use Rattle.modelnet.specs.Exact.{IsRefusal, NoMemoryOrRefuses}
use Rattle.modelnet.specs.Progress.{HasRead, HasJustRead, HasStopped}
use Rattle.modelnet.specs.Planning.{PlanningView, topology_input, trace_input, directory_inputs, planning_inputs, IsDirectoryRead, HasNoPlan, reading_refuses, planning_refuses, reading_command, planning_command}
use Rattle.modelnet.specs.PlanSteps.{HasTopology, HasTrace, HasInputs, HasPlan}
use Rattle.modelnet.specs.Statuses.{topology_refusal, trace_refusal, plan_refusal}
use Rattle.modelnet.proofs.Halves.{IsFrontOf, stops_in_front, front_is_read}
use Rattle.modelnet.proofs.OneAfterAnother.{Others, has_begun, just_read, accepted, stops_reading, refused}
use Rattle.modelnet.proofs.OneToOne.{HasInput, named_input}

-- what refuses the inputs is a refusal
pub reading_refusals : (read : List (List ℕ)) (status : Status) → reading_refuses read status → IsRefusal status
reading_refusals (topology ∷ []) (BadTopology fault) is = tt
reading_refusals (topology ∷ trace ∷ []) (BadTrace fault) is = tt
reading_refusals (topology ∷ trace ∷ []) (BadCapture fault) is = tt
reading_refusals read status is = absurd is

planning_refusals : (asked : PlanningView) (read : List (List ℕ)) (status : Status) → planning_refuses asked read status → IsRefusal status
planning_refusals asked (topology ∷ trace ∷ rest) (BadPlan fault) is = tt
planning_refusals asked read status is = reading_refusals read status is

-- nothing is refused before the topology is read
nothing_refused : (status : Status) → reading_refuses [] status → ⊥
nothing_refused status is = is

-- a topology that is read isn't refused
topology_is_fine : (text : List ℕ) (topology : TopologyView) → Reads text topology → (status : Status) → reading_refuses (text ∷ []) status → ⊥
topology_is_fine text topology reads (BadTopology fault) is = never_both text topology fault reads is
topology_is_fine text topology reads status is = absurd is

-- nor is a trace that is read
pub trace_is_fine : (text trace_text : List ℕ) (trace : Capture) → SaysTrace trace_text trace
    → (status : Status) → reading_refuses (text ∷ trace_text ∷ []) status → ⊥
trace_is_fine text trace_text trace says (BadTrace fault) is = never_capture_both trace_text trace (Pcap fault) says is
trace_is_fine text trace_text trace says (BadCapture fault) is = never_capture_both trace_text trace (Ng fault) says is
trace_is_fine text trace_text trace says status is = absurd is

-- nor is what is read after it
pub reading_is_fine : (text trace_text : List ℕ) (rest : List (List ℕ)) (trace : Capture) → SaysTrace trace_text trace
    → (status : Status) → reading_refuses (text ∷ trace_text ∷ rest) status → ⊥
reading_is_fine text trace_text [] trace says status is = trace_is_fine text trace_text trace says status is
reading_is_fine text trace_text (more ∷ rest) trace says status is = is

-- the directory is read where one is named, and nothing else
pub directory_length : (limits : ReadLimits) (named : Option (List ℕ)) (rest : List (List ℕ)) (given : Option (List ℕ))
    → IsDirectoryRead named rest given → length rest ≡ length (directory_inputs limits named)
directory_length limits None [] None given = refl
directory_length limits (Some name) (text ∷ []) (Some read) given = refl
directory_length limits named rest read given = absurd given

abbrev the_directory : ReadLimits → List ℕ → Input
the_directory limits name = input Directory name limits.directory

-- an input that can't be read whole isn't the end of all
read_is_early : (at : Input) (old new : Part) (status : Status) → ReadsInput at old new (Err status) → status ≢ Done
read_is_early at old new status own is = subst (λ s. ReadsInput at old new (Err s)) is own

-- nor is a refusal
topology_is_early : (refusal : Refusal GmlFault) → topology_refusal refusal ≢ Done
topology_is_early refusal.NoMemory is = cc
topology_is_early (refusal.Fault fault) is = cc

trace_is_early : (refusal : Refusal CaptureFault) → trace_refusal refusal ≢ Done
trace_is_early refusal.NoMemory is = cc
trace_is_early (refusal.Fault (Pcap fault)) is = cc
trace_is_early (refusal.Fault (Ng fault)) is = cc

plan_is_early : (refusal : Refusal PlanFault) → plan_refusal refusal ≢ Done
plan_is_early refusal.NoMemory is = cc
plan_is_early (refusal.Fault fault) is = cc

directory_no_topology : Directory ≢ Topology
directory_no_topology is = cc

directory_no_trace : Directory ≢ Trace
directory_no_trace is = cc

-- what was read before the directory
abbrev two_read : ReadLimits → PlanningView → List ℕ → List ℕ → ReadInputs
two_read limits asked text trace_text = (topology_input limits asked, text) ∷ (trace_input limits asked, trace_text) ∷ []

module _ (limits : ReadLimits) (asked : PlanningView) where
  begun : (host : Host) → HasRead (reading_command limits asked) [] (reading_command limits asked).inputs host host
  begun host = has_begun (reading_command limits asked) host nothing_refused

  -- the topology can't be read whole
  pub topology_stops : (old new : Host) (status : Status) (name : List ℕ) → name ≡ asked.topology
      → ReadsInput (input Topology name limits.topology) (old Topology) (new Topology) (Err status) → Others Topology old new
      → HasStopped (reading_command limits asked) old new status
  topology_stops old new status name named own others = record {
    early = read_is_early (input Topology name limits.topology) (old Topology) (new Topology) status own;
    answered = stops_reading (reading_command limits asked) [] (topology_input limits asked)
        (trace_input limits asked ∷ directory_inputs limits asked.directory) status old old new (begun old) tt
        (subst (λ n. ReadsInput (input Topology n limits.topology) (old Topology) (new Topology) (Err status)) named own) others;
  }

  topology_was_read : (old new : Host) (text : List ℕ) → HasInput (topology_input limits asked) text old new
      → HasJustRead (reading_command limits asked) ((topology_input limits asked, text) ∷ [])
      (trace_input limits asked ∷ directory_inputs limits asked.directory) old new
  topology_was_read old new text read =
      just_read (reading_command limits asked) [] (topology_input limits asked)
      (trace_input limits asked ∷ directory_inputs limits asked.directory) text old old new (begun old) tt
      (named_input (topology_input limits asked) text old new read) read.others

  topology_refuses : (text : List ℕ) (refusal : Refusal GmlFault) → IfFault refusal (IsFirstFault text)
      → NoMemoryOrRefuses reading_refuses (text ∷ []) (topology_refusal refusal)
  topology_refuses text refusal.NoMemory is = inl refl
  topology_refuses text (refusal.Fault fault) is = inr is

  -- it was read whole, and is refused
  pub topology_refused : (old new : Host) (text bytes : List ℕ) (refusal : Refusal GmlFault)
      → HasInput (topology_input limits asked) text old new → bytes ≡ text
      → IfFault refusal (IsFirstFault bytes) → HasStopped (reading_command limits asked) old new (topology_refusal refusal)
  topology_refused old new text bytes refusal read same first = record {
    early = topology_is_early refusal;
    answered = refused (reading_command limits asked) ((topology_input limits asked, text) ∷ [])
        (trace_input limits asked ∷ directory_inputs limits asked.directory) (topology_refusal refusal) old new reading_refusals
        (topology_was_read old new text read)
        (topology_refuses text refusal (subst (λ t. IfFault refusal (IsFirstFault t)) same first));
  }

  -- it was read whole, and is accepted
  pub has_topology : (old new : Host) (text bytes : List ℕ) (topology : TopologyView)
      → HasInput (topology_input limits asked) text old new → bytes ≡ text
      → Reads bytes topology → HasTopology limits asked topology old new
  has_topology old new text bytes topology read same says = let reads = subst (λ t. Reads t topology) same says in record {
    text = text;
    reads = reads;
    so_far = accepted (reading_command limits asked) ((topology_input limits asked, text) ∷ [])
        (trace_input limits asked ∷ directory_inputs limits asked.directory) old new
        (topology_was_read old new text read) (topology_is_fine text topology reads);
  }

  trace_apart : Trace ≢ Topology
  trace_apart is = cc

  -- the trace can't be read whole
  pub trace_stops : (old mid new : Host) (topology : TopologyView) (status : Status) (name : List ℕ)
      → HasTopology limits asked topology old mid → name ≡ asked.trace
      → ReadsInput (input Trace name limits.trace) (mid Trace) (new Trace) (Err status) → Others Trace mid new
      → HasStopped (reading_command limits asked) old new status
  trace_stops old mid new topology status name has named own others = record {
    early = read_is_early (input Trace name limits.trace) (mid Trace) (new Trace) status own;
    answered = stops_reading (reading_command limits asked) ((topology_input limits asked, has.text) ∷ []) (trace_input limits asked)
        (directory_inputs limits asked.directory) status old mid new has.so_far (trace_apart, tt)
        (subst (λ n. ReadsInput (input Trace n limits.trace) (mid Trace) (new Trace) (Err status)) named own) others;
  }

  trace_was_read : (old mid new : Host) (topology : TopologyView) (text : List ℕ) (has : HasTopology limits asked topology old mid)
      → HasInput (trace_input limits asked) text mid new
      → HasJustRead (reading_command limits asked)
      (two_read limits asked has.text text)
      (directory_inputs limits asked.directory) old new
  trace_was_read old mid new topology text has read =
      just_read (reading_command limits asked) ((topology_input limits asked, has.text) ∷ []) (trace_input limits asked)
      (directory_inputs limits asked.directory) text old mid new has.so_far (trace_apart, tt)
      (named_input (trace_input limits asked) text mid new read) read.others

  trace_refuses : (topology text : List ℕ) (refusal : Refusal CaptureFault) → IfFault refusal (CaptureFirst text)
      → NoMemoryOrRefuses reading_refuses (topology ∷ text ∷ []) (trace_refusal refusal)
  trace_refuses topology text refusal.NoMemory is = inl refl
  trace_refuses topology text (refusal.Fault (Pcap fault)) is = inr is
  trace_refuses topology text (refusal.Fault (Ng fault)) is = inr is

  -- it was read whole, and is refused
  pub trace_refused : (old mid new : Host) (topology : TopologyView) (text bytes : List ℕ) (refusal : Refusal CaptureFault)
      → HasTopology limits asked topology old mid → HasInput (trace_input limits asked) text mid new → bytes ≡ text
      → IfFault refusal (CaptureFirst bytes) → HasStopped (reading_command limits asked) old new (trace_refusal refusal)
  trace_refused old mid new topology text bytes refusal has read same first = record {
    early = trace_is_early refusal;
    answered = refused (reading_command limits asked) (two_read limits asked has.text text) (directory_inputs limits asked.directory)
        (trace_refusal refusal) old new reading_refusals
        (trace_was_read old mid new topology text has read)
        (trace_refuses has.text text refusal (subst (λ t. IfFault refusal (CaptureFirst t)) same first));
  }

  -- it was read whole, and says a trace
  pub has_trace : (old mid new : Host) (topology : TopologyView) (trace : Capture) (text bytes : List ℕ)
      → HasTopology limits asked topology old mid → HasInput (trace_input limits asked) text mid new → bytes ≡ text
      → SaysTrace bytes trace → HasTrace limits asked topology trace old new
  has_trace old mid new topology trace text bytes has read same says = record {
    text = has.text;
    trace_text = text;
    reads = has.reads;
    says = subst (λ t. SaysTrace t trace) same says;
    so_far = trace_was_read old mid new topology text has read;
  }

  -- no directory is to be read
  pub has_no_directory : (old new : Host) (topology : TopologyView) (trace : Capture) → HasTrace limits asked topology trace old new
      → asked.directory ≡ None → HasInputs limits asked topology trace None old new
  has_no_directory old new topology trace has none = record {
    text = has.text;
    trace_text = has.trace_text;
    rest = [];
    reads = has.reads;
    says = has.says;
    given = subst (λ d. IsDirectoryRead d [] None) (sym none) tt;
    read = two_read limits asked has.text has.trace_text;
    bytes_are = refl;
    so_far = subst (λ d. HasJustRead (reading_command limits asked)
        (two_read limits asked has.text has.trace_text) (directory_inputs limits d) old new)
        none has.so_far;
  }

  directory_is_next : (old new : Host) (topology : TopologyView) (trace : Capture) (name : List ℕ)
      (has : HasTrace limits asked topology trace old new) → asked.directory ≡ Some name
      → HasRead (reading_command limits asked) (two_read limits asked has.text has.trace_text) (the_directory limits name ∷ []) old new
  directory_is_next old new topology trace name has named =
      accepted (reading_command limits asked) (two_read limits asked has.text has.trace_text) (the_directory limits name ∷ []) old new
      (subst (λ d. HasJustRead (reading_command limits asked) (two_read limits asked has.text has.trace_text) (directory_inputs limits d) old new)
      named has.so_far)
      (trace_is_fine has.text has.trace_text trace has.says)

  directory_apart : (text trace_text : List ℕ) → ReadsNot (inputs_of (two_read limits asked text trace_text)) Directory
  directory_apart text trace_text = (directory_no_topology, (directory_no_trace, tt))

  -- the directory can't be read whole
  pub directory_stops : {old mid : Host} (new : Host) {topology : TopologyView} {trace : Capture} (status : Status) {name : List ℕ}
      → HasTrace limits asked topology trace old mid → asked.directory ≡ Some name
      → ReadsInput (the_directory limits name) (mid Directory) (new Directory) (Err status) → Others Directory mid new
      → HasStopped (reading_command limits asked) old new status
  directory_stops {old} {mid} new {topology} {trace} status {name} has named own others = record {
    early = read_is_early (the_directory limits name) (mid Directory) (new Directory) status own;
    answered = stops_reading (reading_command limits asked) (two_read limits asked has.text has.trace_text) (the_directory limits name) []
        status old mid new (directory_is_next old mid topology trace name has named) (directory_apart has.text has.trace_text) own others;
  }

  -- it was read whole
  pub has_directory : {old mid : Host} (new : Host) {topology : TopologyView} {trace : Capture} {name : List ℕ} (text : List ℕ)
      → HasTrace limits asked topology trace old mid → asked.directory ≡ Some name
      → ReadsInput (the_directory limits name) (mid Directory) (new Directory) (Ok text) → Others Directory mid new
      → HasInputs limits asked topology trace (Some text) old new
  has_directory {old} {mid} new {topology} {trace} {name} text has named own others = record {
    text = has.text;
    trace_text = has.trace_text;
    rest = text ∷ [];
    reads = has.reads;
    says = has.says;
    given = subst (λ d. IsDirectoryRead d (text ∷ []) (Some text)) (sym named) refl;
    read = (topology_input limits asked, has.text) ∷ (trace_input limits asked, has.trace_text) ∷ (the_directory limits name, text) ∷ [];
    bytes_are = refl;
    so_far = just_read (reading_command limits asked) (two_read limits asked has.text has.trace_text) (the_directory limits name) [] text old mid new
        (directory_is_next old mid topology trace name has named) (directory_apart has.text has.trace_text) own others;
  }

  -- planning reads what reading reads
  reading_refused : (bytes : List (List ℕ)) (status : Status) → reading_refuses bytes status → planning_refuses asked bytes status
  reading_refused (topology ∷ []) (BadTopology fault) is = is
  reading_refused (topology ∷ trace ∷ []) (BadTrace fault) is = is
  reading_refused (topology ∷ trace ∷ []) (BadCapture fault) is = is
  reading_refused bytes status is = absurd is

  -- what has no plan was read whole
  nothing_planned : (topology trace : List ℕ) (rest : List (List ℕ)) (fault : PlanFault) → HasNoPlan asked topology trace rest fault
      → length rest ≡ length (directory_inputs limits asked.directory)
  nothing_planned topology trace rest fault has = directory_length limits asked.directory rest has.directory has.given

  no_plan_yet : (bytes : List (List ℕ)) (status : Status) → length bytes < length (planning_inputs limits asked)
      → planning_refuses asked bytes status → reading_refuses bytes status
  no_plan_yet (topology ∷ trace ∷ rest) (BadPlan fault) short has =
      let whole = nothing_planned topology trace rest fault has in absurd (omega (arith, short, whole))
  no_plan_yet bytes status short is = is

  abbrev planning_begins : IsFrontOf (reading_command limits asked) (planning_command limits asked)
  planning_begins = record {
    later = [];
    inputs = sym (append-nil (planning_inputs limits asked));
    outputs = refl;
    also = reading_refused;
    fewer = no_plan_yet;
  }

  -- the inputs can't all be read
  pub reading_stops : (old new : Host) (status : Status) → HasStopped (reading_command limits asked) old new status
      → HasStopped (planning_command limits asked) old new status
  reading_stops old new status stopped =
      stops_in_front (reading_command limits asked) (planning_command limits asked) planning_begins old new status stopped

  plan_refuses : (topology : TopologyView) (trace : Capture) (directory : Option (List ℕ)) (old new : Host) (refusal : Refusal PlanFault)
      (has : HasInputs limits asked topology trace directory old new) → IfFault refusal (PlanFirst topology asked.options directory)
      → NoMemoryOrRefuses (planning_refuses asked) (has.text ∷ has.trace_text ∷ has.rest) (plan_refusal refusal)
  plan_refuses topology trace directory old new refusal.NoMemory has first = inl refl
  plan_refuses topology trace directory old new (refusal.Fault fault) has first = inr (record {
    directory = directory;
    given = has.given;
    has = record { target = topology; capture = trace; reads = has.reads; says = has.says; first = first };
  })

  -- the inputs have no plan
  pub plan_refused : (topology : TopologyView) (trace : Capture) (directory : Option (List ℕ)) (old new : Host) (refusal : Refusal PlanFault)
      → HasInputs limits asked topology trace directory old new → IfFault refusal (PlanFirst topology asked.options directory)
      → HasStopped (planning_command limits asked) old new (plan_refusal refusal)
  plan_refused topology trace directory old new refusal has first = record {
    early = plan_is_early refusal;
    answered = refused (planning_command limits asked) has.read [] (plan_refusal refusal) old new (planning_refusals asked)
        (front_is_read (reading_command limits asked) (planning_command limits asked) planning_begins has.read old new has.so_far)
        (subst (λ bytes. NoMemoryOrRefuses (planning_refuses asked) bytes (plan_refusal refusal)) (sym has.bytes_are)
        (plan_refuses topology trace directory old new refusal has first));
  }

  -- they have this plan
  pub has_plan : (topology : TopologyView) (trace : Capture) (directory : Option (List ℕ)) (planned : PlannedView) (old new : Host)
      → HasInputs limits asked topology trace directory old new → IsPlan topology trace asked.options directory planned
      → HasPlan limits asked old new planned
  has_plan topology trace directory planned old new has plan = record {
    reads = has.read;
    topology = has.text;
    trace = has.trace_text;
    rest = has.rest;
    bytes_are = has.bytes_are;
    plans = record {
      directory = directory;
      given = has.given;
      plans = record { target = topology; capture = trace; reads = has.reads; says = has.says; plan = plan };
    };
    so_far = front_is_read (reading_command limits asked) (planning_command limits asked) planning_begins has.read old new has.so_far;
  }

  pub plan_inputs : (old new : Host) (planned : PlannedView) (has : HasPlan limits asked old new planned)
      → planning_inputs limits asked ≡ inputs_of has.reads
  plan_inputs old new planned has = has.so_far.inputs ∙ append-nil (inputs_of has.reads)

  -- a command that reads no more than its plan does
  abbrev pub whole_front : (c : Command) → c.inputs ≡ planning_inputs limits asked
      → ((bytes : List (List ℕ)) (status : Status) → planning_refuses asked bytes status → c.refuses bytes status)
      → ((bytes : List (List ℕ)) (status : Status) → length bytes < length (planning_inputs limits asked) → c.refuses bytes status
      → planning_refuses asked bytes status)
      → IsFrontOf (planning_command limits asked) c
  whole_front c inputs also fewer = record {
    later = [];
    inputs = inputs ∙ sym (append-nil (planning_inputs limits asked));
    outputs = refl;
    also = also;
    fewer = fewer;
  }
