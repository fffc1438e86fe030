-- The numbers of the statuses, and which status a refusal of the bytes is.
use Rattle.std.specs.Prelude.{ℕ}
use Rattle.mn_base.specs.declared.refusal.Refusal.{Refusal}
use Rattle.mn_base.specs.declared.refusal.Refusal.TheVariants.{Fault}
use Rattle.mn_base.specs.declared.refusal.Refusal.TheVariants as refusal
use Rattle.pcapng_in.specs.declared.fault.CaptureFault.{CaptureFault}
use Rattle.pcapng_in.specs.declared.fault.CaptureFault.TheVariants.{Pcap, Ng}
use Rattle.gml_reader.specs.declared.faults.GmlFault.{GmlFault}
use Rattle.journal_check.specs.declared.fault.JournalFault.{JournalFault}
use Rattle.distill.specs.declared.pipes.TooManyPipes.{TooManyPipes}
use Rattle.plan.specs.declared.faults.PlanFault.{PlanFault}
use Rattle.plan.specs.declared.faults.PlanFault.TheVariants as plan
use Rattle.modelnet.specs.declared.status.Status.{Status}
use Rattle.modelnet.specs.declared.status.Status.TheVariants.{Done, NoMemory, BadWords, BadTopology, BadTrace, BadPlan, ReadFault, WriteFault, TooLarge, BadJournal, BadMove, BadCapture}

-- the number of a status
abbrev pub status_number : Status → ℕ
status_number Done = 0
status_number NoMemory = 1
status_number (BadWords fault) = 2
status_number (BadTopology fault) = 3
status_number (BadTrace fault) = 4
status_number (BadPlan fault) = 5
status_number (ReadFault role) = 6
status_number (WriteFault role) = 7
status_number (TooLarge role) = 8
status_number (BadJournal fault) = 9
status_number (BadMove number) = 10
status_number (BadCapture fault) = 11

-- out of memory, or the fault of a trace by its format
abbrev pub trace_refusal : Refusal CaptureFault → Status
trace_refusal refusal.NoMemory = NoMemory
trace_refusal (Fault (Pcap fault)) = BadTrace fault
trace_refusal (Fault (Ng fault)) = BadCapture fault

-- out of memory, or the fault of a topology
abbrev pub topology_refusal : Refusal GmlFault → Status
topology_refusal refusal.NoMemory = NoMemory
topology_refusal (Fault fault) = BadTopology fault

-- out of memory, or too many pipes
abbrev pub pipes_refusal : Refusal TooManyPipes → Status
pipes_refusal refusal.NoMemory = NoMemory
pipes_refusal (Fault too_many) = BadPlan (plan.TooManyPipes too_many.count)

-- out of memory, or the fault of a plan
abbrev pub plan_refusal : Refusal PlanFault → Status
plan_refusal refusal.NoMemory = NoMemory
plan_refusal (Fault fault) = BadPlan fault

-- out of memory, or the fault of a journal
abbrev pub journal_refusal : Refusal JournalFault → Status
journal_refusal refusal.NoMemory = NoMemory
journal_refusal (Fault fault) = BadJournal fault
