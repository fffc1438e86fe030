-- What stands after each half of a command that replays a trace through pipes in a row.
use Rattle.std.proofs.Common.{◌≡◌, ◌⊎◌, ℕ, List, [], ◌∷◌, None, Ok, Err, refl, subst, inl, inr}
use Rattle.mn_base.specs.declared.refusal.Refusal.{Refusal}
use Rattle.mn_base.specs.declared.refusal.Refusal.TheVariants as refusal
use Rattle.mn_base.specs.Refused.{IfFault}
use Rattle.mn_edge.specs.declared.role.Role.TheVariants.{Trace, Out, Report}
use Rattle.pcapng_in.specs.declared.fault.CaptureFault.{CaptureFault}
use Rattle.pcapng_in.specs.declared.fault.CaptureFault.TheVariants.{Pcap, Ng}
use Rattle.pcapng_in.specs.CaptureFile.{CaptureFirst}
use Rattle.modelnet.specs.declared.read_limits.ReadLimits.{ReadLimits}
use Rattle.modelnet.specs.declared.status.Status.{Status}
use Rattle.modelnet.specs.Exact.{NoMemoryOrRefuses}
use Rattle.modelnet.specs.Roles.{Input, input, ReadsInput}
use Rattle.modelnet.specs.Commands.{Host, Command, Answered}
use Rattle.modelnet.specs.Progress.{HasJustRead}
use Rattle.modelnet.specs.Statuses.{trace_refusal}
use Rattle.modelnet.specs.TheCommands.{trace_refuses, replay_command}
use Rattle.modelnet.specs.Writing.{writing_command, run_writings}
use Rattle.modelnet.proofs.Halves.{ends_as_it_writes}
use Rattle.modelnet.proofs.OneAfterAnother.{Others, has_begun, just_read, stops_reading, refused}
use Rattle.modelnet.proofs.OneToOne.{HasInput, named_input}
use Rattle.modelnet.proofs.ReplaySound.{refusals}

-- nothing is refused before the trace is read
nothing_refused : (status : Status) → trace_refuses [] status → ⊥
nothing_refused status is = is

-- what the reader answers is out of memory or the first fault
refused_trace : (trace : List ℕ) (refusal : Refusal CaptureFault) → IfFault refusal (CaptureFirst trace)
    → NoMemoryOrRefuses trace_refuses (trace ∷ []) (trace_refusal refusal)
refused_trace trace refusal.NoMemory is = inl refl
refused_trace trace (refusal.Fault (Pcap fault)) is = inr is
refused_trace trace (refusal.Fault (Ng fault)) is = inr is

module _ (limits : ReadLimits) (trace out_name report_name : List ℕ) (Says : List ℕ → List ℕ → List ℕ → Type 0) where
  abbrev command : Command
  command = replay_command limits trace out_name report_name Says

  abbrev the_trace : Input
  the_trace = input Trace trace limits.trace

  -- the trace can't be read whole
  pub trace_stops : (old new : Host) (status : Status) (name : List ℕ) → name ≡ trace
      → ReadsInput (input Trace name limits.trace) (old Trace) (new Trace) (Err status) → Others Trace old new
      → Answered command old new status
  trace_stops old new status name named own others =
      stops_reading command [] the_trace [] status old old new (has_begun command old nothing_refused) tt
      (subst (λ n. ReadsInput (input Trace n limits.trace) (old Trace) (new Trace) (Err status)) named own) others

  trace_was_read : (bytes : List ℕ) (old new : Host) → HasInput the_trace bytes old new
      → HasJustRead command ((the_trace, bytes) ∷ []) [] old new
  trace_was_read bytes old new read =
      just_read command [] the_trace [] bytes old old new (has_begun command old nothing_refused) tt
      (named_input the_trace bytes old new read) read.others

  -- it was read whole, and is refused
  pub trace_refused : (bytes : List ℕ) (old new : Host) (refusal : Refusal CaptureFault) → HasInput the_trace bytes old new
      → IfFault refusal (CaptureFirst bytes) → Answered command old new (trace_refusal refusal)
  trace_refused bytes old new refusal read first =
      refused command ((the_trace, bytes) ∷ []) [] (trace_refusal refusal) old new refusals (trace_was_read bytes old new read)
      (refused_trace bytes refusal first)

  -- it was read whole, and the texts that were made of it are written
  pub replay_ends : (bytes out report : List ℕ) (old mid new : Host) (status : Status) → HasInput the_trace bytes old mid
      → Says bytes out report → Answered (writing_command (run_writings out_name report_name out report None)) mid new status
      → Answered command old new status
  replay_ends bytes out report old mid new status read says written =
      let was = trace_was_read bytes old mid read in
      ends_as_it_writes command ((the_trace, bytes) ∷ []) (run_writings out_name report_name out report None) old mid new (record {
        inputs = refl;
        outputs = refl;
        apart = ((λ is. cc, tt), ((λ is. cc, tt), tt));
        says = says;
        stands = was.stands;
      }) status written
