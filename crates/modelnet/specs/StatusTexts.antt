-- The lines that tell how a command ended. All are ASCII; a line ends with a line feed, 10.
use Rattle.std.specs.Prelude.{ℕ, List, [], ◌∷◌, ◌++◌, codes}
use Rattle.std.specs.Fmt.{decimal}
use Rattle.mn_edge.specs.declared.role.Role.{Role}
use Rattle.mn_edge.specs.declared.role.Role.TheVariants as role
use Rattle.pcap_io.specs.FaultTexts.{pcap_fault_text}
use Rattle.pcapng_in.specs.FaultTexts.{ng_fault_text}
use Rattle.gml_reader.specs.FaultTexts.{gml_fault_text}
use Rattle.mn_words.specs.declared.opt.Opt.{Opt}
use Rattle.mn_words.specs.declared.opt.Opt.TheVariants as opt
use Rattle.mn_words.specs.declared.opt.WordsFault.{WordsFault}
use Rattle.mn_words.specs.declared.opt.WordsFault.TheVariants.{Command, Form, Value}
use Rattle.changes.specs.declared.faults.ChangesFault.{ChangesFault}
use Rattle.changes.specs.declared.faults.ChangesFault.TheVariants as changes
use Rattle.journal_check.specs.declared.fault.JournalFault.{JournalFault}
use Rattle.journal_check.specs.declared.fault.JournalFault.TheVariants as differs
use Rattle.ownership.specs.declared.faults.AssignFault.{AssignFault}
use Rattle.ownership.specs.declared.faults.AssignFault.TheVariants as assign
use Rattle.plan.specs.declared.faults.PlanFault.{PlanFault}
use Rattle.plan.specs.declared.faults.PlanFault.TheVariants.{TooManyPipes, Changes, Assign}
use Rattle.modelnet.specs.declared.status.Status.{Status}
use Rattle.modelnet.specs.declared.status.Status.TheVariants.{Done, NoMemory, BadWords, BadTopology, BadTrace, BadPlan, ReadFault, WriteFault, TooLarge, BadJournal, BadMove, BadCapture}

-- the program's name, a text, and a line feed
abbrev pub program_line : List ℕ → List ℕ
program_line text = codes "modelnet: " ++ text ++ 10 ∷ []

abbrev pub opt_name : Opt → List ℕ
opt_name opt.Mode = codes "--mode"
opt_name opt.Cores = codes "--cores"
opt_name opt.Seed = codes "--seed"
opt_name opt.TickNs = codes "--tick-ns"
opt_name opt.ClusterReport = codes "--cluster-report"
opt_name opt.Order = codes "--order"
opt_name opt.Turns = codes "--turns"
opt_name opt.Number = codes "--number"
opt_name opt.Packets = codes "--packets"
opt_name opt.Pipe = codes "PIPE"
opt_name opt.Loss = codes "--loss"
opt_name opt.Move = codes "MOVE"

abbrev pub role_name : Role → List ℕ
role_name role.Topology = codes "topology"
role_name role.Trace = codes "trace"
role_name role.Directory = codes "directory"
role_name role.Journal = codes "journal"
role_name role.Out = codes "out"
role_name role.Report = codes "report"
role_name role.Screen = codes "screen"

unfoldable pub words_fault_text : WordsFault → List ℕ
words_fault_text Command = codes "no such command"
words_fault_text Form = codes "bad words"
words_fault_text (Value opt) = codes "bad value of " ++ opt_name opt

unfoldable pub changes_fault_text : ChangesFault → List ℕ
changes_fault_text changes.Head = codes "bad head"
changes_fault_text changes.Count = codes "wrong number of lines"
changes_fault_text (changes.Line n) = codes "bad line " ++ decimal n
changes_fault_text (changes.Range n) = codes "range in line " ++ decimal n
changes_fault_text (changes.Order n) = codes "order in line " ++ decimal n

unfoldable pub assign_fault_text : AssignFault → List ℕ
assign_fault_text assign.Head = codes "bad head"
assign_fault_text (assign.Line n) = codes "bad line " ++ decimal n
assign_fault_text (assign.Core n) = codes "bad core in line " ++ decimal n
assign_fault_text (assign.Twice n) = codes "second owner in line " ++ decimal n
assign_fault_text (assign.Missing pipe) = codes "no owner of pipe " ++ decimal pipe

unfoldable pub plan_fault_text : PlanFault → List ℕ
plan_fault_text (TooManyPipes count) = codes "plan: " ++ decimal count ++ codes " pipes"
plan_fault_text (Changes fault) = codes "directory: " ++ changes_fault_text fault
plan_fault_text (Assign fault) = codes "directory: " ++ assign_fault_text fault

unfoldable pub journal_fault_text : JournalFault → List ℕ
journal_fault_text (differs.Line n) = codes "line " ++ decimal n ++ codes " differs"
journal_fault_text (differs.Short n) = codes "ends after " ++ decimal n ++ codes " lines"

-- the line of a status; done has none
unfoldable pub status_text : Status → List ℕ
status_text Done = []
status_text NoMemory = program_line (codes "no memory")
status_text (BadWords fault) = program_line (words_fault_text fault)
status_text (BadTopology fault) = program_line (codes "topology: " ++ gml_fault_text fault)
status_text (BadTrace fault) = program_line (codes "trace: " ++ pcap_fault_text fault)
status_text (BadPlan fault) = program_line (plan_fault_text fault)
status_text (ReadFault role) = program_line (codes "cannot read " ++ role_name role)
status_text (WriteFault role) = program_line (codes "cannot write " ++ role_name role)
status_text (TooLarge role) = program_line (role_name role ++ codes " is too large")
status_text (BadJournal fault) = program_line (codes "journal: " ++ journal_fault_text fault)
status_text (BadMove number) = program_line (codes "no pipe of move " ++ decimal number)
status_text (BadCapture fault) = program_line (codes "trace: " ++ ng_fault_text fault)
