-- The table of the options that may be left out: of each its name, its value without it, and what its text may say. The number of
-- cores without the option is the command's. A word is the list of its bytes.
use Rattle.std.specs.Prelude.{ℕ, Bool, false, List, [], Option, Some, None, Result, ok_or, codes}
use Rattle.mn_base.specs.declared.limits.TheConstants.{TICK_NS_DEFAULT}
use Rattle.mn_base.specs.Decimal.{decimal_of}
use Rattle.distill.specs.declared.modes.Mode.{Mode}
use Rattle.distill.specs.declared.modes.Mode.TheVariants.{Hop}
use Rattle.journal.specs.declared.setup.LossBy.{LossBy}
use Rattle.journal.specs.declared.setup.LossBy.TheVariants.{Packet}
use Rattle.mn_words.specs.declared.opt.Opt.{Opt}
use Rattle.mn_words.specs.declared.opt.Opt.TheVariants as opt
use Rattle.mn_words.specs.declared.opt.WordsFault.{WordsFault}
use Rattle.mn_words.specs.declared.opt.WordsFault.TheVariants.{Value}
use Rattle.mn_words.specs.Form.{value_of}
use Rattle.mn_words.specs.Items.{Item}
use Rattle.mn_words.specs.Values.{tick_of, cores_of, turns_of, packets_of, yes_or_no, mode_of, loss_of}

-- what the text of an option says, and a default where the option is left out
abbrev pub read_or : {A : Type 0} → A → (List ℕ → Option A) → Option (List ℕ) → Option A
read_or default read None = Some default
read_or default read (Some text) = read text

-- the value of an option, or where its text is none that it allows that fault
abbrev pub option_or : {A : Type 0} → Opt → List ℕ → A → (List ℕ → Option A) → List Item → Result A WordsFault
option_or opt name default read items = ok_or (read_or default read (value_of name items)) (Value opt)

abbrev pub mode_in : List Item → Result Mode WordsFault
mode_in items = option_or opt.Mode (codes "--mode") Hop mode_of items

abbrev pub cores_in : ℕ → List Item → Result ℕ WordsFault
cores_in default items = option_or opt.Cores (codes "--cores") default cores_of items

abbrev pub seed_in : List Item → Result ℕ WordsFault
seed_in items = option_or opt.Seed (codes "--seed") 0 decimal_of items

abbrev pub tick_in : List Item → Result ℕ WordsFault
tick_in items = option_or opt.TickNs (codes "--tick-ns") TICK_NS_DEFAULT tick_of items

abbrev pub cluster_report_in : List Item → Result Bool WordsFault
cluster_report_in items = option_or opt.ClusterReport (codes "--cluster-report") false yes_or_no items

abbrev pub order_in : List Item → Result ℕ WordsFault
order_in items = option_or opt.Order (codes "--order") 0 decimal_of items

abbrev pub turns_in : List Item → Result ℕ WordsFault
turns_in items = option_or opt.Turns (codes "--turns") 0 turns_of items

abbrev pub packets_in : List Item → Result ℕ WordsFault
packets_in items = option_or opt.Packets (codes "--packets") 20000 packets_of items

abbrev pub loss_in : List Item → Result LossBy WordsFault
loss_in items = option_or opt.Loss (codes "--loss") Packet loss_of items

-- the text of a required option, which stands in words of the form
abbrev pub text_or_empty : Option (List ℕ) → List ℕ
text_or_empty None = []
text_or_empty (Some text) = text

abbrev pub text_in : List ℕ → List Item → List ℕ
text_in name items = text_or_empty (value_of name items)

-- the number of a workload, which stands, too
abbrev pub workload_number_in : List Item → Result ℕ WordsFault
workload_number_in items = ok_or (decimal_of (text_in (codes "--number") items)) (Value opt.Number)
