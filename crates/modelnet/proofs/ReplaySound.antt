-- A command that replays a trace through pipes in a row is sound: a trace has one first fault, or is replayed in one way.
use Rattle.std.proofs.Common.{◌≡◌, ℕ, List, [], ◌∷◌, ◌++◌, refl, sym, ◌∙◌, ap}
use Rattle.mn_base.specs.declared.refusal.Refusal.TheVariants.{Fault}
use Rattle.mn_words.specs.Order.{ChainView}
use Rattle.pcap_io.specs.Capture.{Capture}
use Rattle.pcapng_in.specs.declared.fault.CaptureFault.{CaptureFault}
use Rattle.pcapng_in.specs.declared.fault.CaptureFault.TheVariants.{Pcap, Ng}
use Rattle.pcapng_in.specs.CaptureFile.{SaysTrace, CaptureFirst}
use Rattle.pcapng_in.proofs.ByFormat.{never_capture_both, one_capture_fault}
use Rattle.modelnet.specs.declared.read_limits.ReadLimits.{ReadLimits}
use Rattle.modelnet.specs.declared.status.Status.{Status}
use Rattle.modelnet.specs.declared.status.Status.TheVariants.{BadTrace, BadCapture}
use Rattle.modelnet.specs.Exact.{IsRefusal, IsSoundCommand}
use Rattle.modelnet.specs.Run.{SaysRun}
use Rattle.modelnet.specs.Statuses.{trace_refusal}
use Rattle.modelnet.specs.TheCommands.{trace_refuses, replay_writes, replay_command, chain_command}
use Rattle.modelnet.proofs.OneRun.{one_run}

-- what is said of the bytes of a trace: they say one, and there is one output trace and one report
pub record IsReplay (Says : List ℕ → List ℕ → List ℕ → Type 0) : Type 0 where
  pub says_trace : (text out report : List ℕ) → Says text out report → (trace : Capture) × SaysTrace text trace
  pub one_run : (text out report out' report' : List ℕ) → Says text out report → Says text out' report'
      → (out ≡ out') × (report ≡ report')

pub refusals : (read : List (List ℕ)) (status : Status) → trace_refuses read status → IsRefusal status
refusals (trace ∷ []) (BadTrace fault) is = tt
refusals (trace ∷ []) (BadCapture fault) is = tt
refusals read status is = absurd is

-- what refuses a trace is its first fault
refused_by : (trace : List ℕ) (status : Status) → trace_refuses (trace ∷ []) status
    → (fault : CaptureFault) × (status ≡ trace_refusal (Fault fault)) × CaptureFirst trace fault
refused_by trace (BadTrace fault) is = (Pcap fault, refl, is)
refused_by trace (BadCapture fault) is = (Ng fault, refl, is)
refused_by trace status is = absurd is

one_refusal : (read : List (List ℕ)) (one other : Status) → trace_refuses read one → trace_refuses read other → one ≡ other
one_refusal [] one other is also = absurd is
one_refusal (trace ∷ more ∷ read) one other is also = absurd is
one_refusal (trace ∷ []) one other is also =
    let first = refused_by trace one is in
    let second = refused_by trace other also in
    first.1 ∙ ap (λ f. trace_refusal (Fault f)) (one_capture_fault trace first.0 second.0 first.2 second.2) ∙ sym second.1

module _ (Says : List ℕ → List ℕ → List ℕ → Type 0) (replay : IsReplay Says) where
  -- a trace that is replayed has no fault
  never_both : (front back written : List (List ℕ)) (status : Status) → trace_refuses front status
      → replay_writes Says (front ++ back) written → ⊥
  never_both [] back written status refused says = refused
  never_both (trace ∷ more ∷ front) back written status refused says = refused
  never_both (trace ∷ []) (more ∷ back) written status refused says = says
  never_both (trace ∷ []) [] [] status refused says = says
  never_both (trace ∷ []) [] (out ∷ []) status refused says = says
  never_both (trace ∷ []) [] (out ∷ report ∷ more ∷ written) status refused says = says
  never_both (trace ∷ []) [] (out ∷ report ∷ []) status refused says =
      let first = refused_by trace status refused in
      let of = replay.says_trace trace out report says in
      never_capture_both trace of.0 first.0 of.1 first.2

  one_output : (read written others : List (List ℕ)) → replay_writes Says read written → replay_writes Says read others → written ≡ others
  one_output [] written others says also = absurd says
  one_output (trace ∷ more ∷ read) written others says also = absurd says
  one_output (trace ∷ []) [] others says also = absurd says
  one_output (trace ∷ []) (out ∷ []) others says also = absurd says
  one_output (trace ∷ []) (out ∷ report ∷ more ∷ written) others says also = absurd says
  one_output (trace ∷ []) (out ∷ report ∷ []) [] says also = absurd also
  one_output (trace ∷ []) (out ∷ report ∷ []) (out' ∷ []) says also = absurd also
  one_output (trace ∷ []) (out ∷ report ∷ []) (out' ∷ report' ∷ more ∷ others) says also = absurd also
  one_output (trace ∷ []) (out ∷ report ∷ []) (out' ∷ report' ∷ []) says also =
      let same = replay.one_run trace out report out' report' says also in
      ap (λ o. o ∷ report ∷ []) same.0 ∙ ap (λ r. out' ∷ r ∷ []) same.1

  pub replay_is_sound : (limits : ReadLimits) (trace out report : List ℕ) → IsSoundCommand (replay_command limits trace out report Says)
  replay_is_sound limits trace out report = record {
    refusals = refusals;
    one_refusal = one_refusal;
    never_both = never_both;
    one_output = one_output;
  }

pub chain_is_replay : (order : ChainView) → IsReplay (SaysRun order)
chain_is_replay order = record {
  says_trace = λ text out report says. (says.trace, says.says);
  one_run = one_run order;
}

pub chain_is_sound : (limits : ReadLimits) (order : ChainView) → IsSoundCommand (chain_command limits order)
chain_is_sound limits order = replay_is_sound (SaysRun order) (chain_is_replay order) limits order.trace order.out order.report
