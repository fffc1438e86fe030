-- The table of the commands: the options of each, which of them are required, and what it makes of its items. A further command is
-- a row in each part. A word is the list of its bytes.
use Rattle.std.specs.Prelude.{ℕ, true, false, List, [], ◌∷◌, Option, Some, None, Result, Ok, Err, ok_or, bytes_eq, codes, if◌then◌else◌}
use Rattle.mn_base.specs.declared.limits.TheConstants.{CHAIN_PIPES_MAX}
use Rattle.mn_words.specs.declared.command.Command.{Command}
use Rattle.mn_words.specs.declared.command.Command.TheVariants as command
use Rattle.mn_words.specs.declared.order.Order.{Order}
use Rattle.mn_words.specs.declared.order.Order.TheVariants.{Chain, Distill, Assign, Rehearse, Emulate, Workload, Journal, Check, Red, Migrate}
use Rattle.mn_words.specs.declared.order.MoveSpec.{MoveSpec}
use Rattle.mn_words.specs.declared.order.PipeSpec.{PipeSpec}
use Rattle.mn_words.specs.declared.order.PlanOptions.{PlanOptions}
use Rattle.mn_words.specs.declared.order.RedSpec.{RedSpec}
use Rattle.mn_words.specs.declared.order.WorkloadOrder.{WorkloadOrder}
use Rattle.mn_words.specs.declared.opt.Opt.TheVariants.{Pipe, Move}
use Rattle.mn_words.specs.declared.opt.WordsFault.{WordsFault}
use Rattle.mn_words.specs.declared.opt.WordsFault.TheVariants.{Value}
use Rattle.mn_words.specs.Form.{Form, value_of, bare_words}
use Rattle.mn_words.specs.Items.{Item}
use Rattle.mn_words.specs.Options.{mode_in, cores_in, seed_in, tick_in, cluster_report_in, order_in, turns_in, workload_number_in, packets_in, loss_in, text_in}
use Rattle.mn_words.specs.Order.{ChainView, DistillView, AssignView, RunView, JournalView, CheckView, RedView, MigrateView}
use Rattle.mn_words.specs.Moves.{moves_of}
use Rattle.mn_words.specs.Pipes.{few_of, pipe_spec_of, red_spec_of}

infixl 10 ◌>>=◌
abbrev pub ◌>>=◌ : {A B F : Type 0} → Result A F → (A → Result B F) → Result B F
Ok x >>= f = f x
Err fault >>= f = Err fault

-- the command of a word
unfoldable pub command_of : List ℕ → Option Command
command_of word =
    if bytes_eq word (codes "chain") then Some command.Chain else
    if bytes_eq word (codes "distill") then Some command.Distill else
    if bytes_eq word (codes "assign") then Some command.Assign else
    if bytes_eq word (codes "rehearse") then Some command.Rehearse else
    if bytes_eq word (codes "emulate") then Some command.Emulate else
    if bytes_eq word (codes "workload") then Some command.Workload else
    if bytes_eq word (codes "journal") then Some command.Journal else
    if bytes_eq word (codes "check") then Some command.Check else
    if bytes_eq word (codes "red") then Some command.Red else
    if bytes_eq word (codes "migrate") then Some command.Migrate else
    None

-- the options that a run of a trace over a topology needs, and those that it may have, too
abbrev pub run_needs : List (List ℕ)
run_needs = codes "--topology" ∷ codes "--trace" ∷ codes "--out" ∷ codes "--report" ∷ []

abbrev pub plan_may_have : List (List ℕ)
plan_may_have = codes "--mode" ∷ codes "--cores" ∷ codes "--seed" ∷ codes "--tick-ns" ∷ codes "--directory" ∷ codes "--loss" ∷ []

abbrev pub run_may_have : List (List ℕ)
run_may_have = codes "--cluster-report" ∷ plan_may_have

-- a row for each command: the options that are required, those that may stand, too, and whether there are PIPEs or MOVEs
unfoldable pub form_of : Command → Form
form_of command.Chain = record {
  needs = codes "--trace" ∷ codes "--out" ∷ codes "--report" ∷ [];
  may_have = codes "--tick-ns" ∷ codes "--seed" ∷ codes "--loss" ∷ [];
  takes_bare = true;
}
form_of command.Distill = record {
  needs = codes "--topology" ∷ [];
  may_have = codes "--mode" ∷ codes "--tick-ns" ∷ [];
  takes_bare = false;
}
form_of command.Assign = record {
  needs = codes "--topology" ∷ [];
  may_have = codes "--mode" ∷ codes "--cores" ∷ [];
  takes_bare = false;
}
form_of command.Rehearse = record {
  needs = run_needs;
  may_have = codes "--order" ∷ codes "--turns" ∷ run_may_have;
  takes_bare = false;
}
form_of command.Emulate = record {
  needs = run_needs;
  may_have = run_may_have;
  takes_bare = false;
}
form_of command.Workload = record {
  needs = codes "--number" ∷ [];
  may_have = codes "--packets" ∷ codes "--cores" ∷ [];
  takes_bare = false;
}
form_of command.Journal = record {
  needs = codes "--topology" ∷ codes "--trace" ∷ codes "--out" ∷ [];
  may_have = plan_may_have;
  takes_bare = false;
}
form_of command.Check = record {
  needs = codes "--topology" ∷ codes "--trace" ∷ codes "--journal" ∷ [];
  may_have = plan_may_have;
  takes_bare = false;
}
form_of command.Red = record {
  needs = codes "--trace" ∷ codes "--out" ∷ codes "--report" ∷ [];
  may_have = codes "--tick-ns" ∷ codes "--seed" ∷ [];
  takes_bare = true;
}
form_of command.Migrate = record {
  needs = run_needs;
  may_have = plan_may_have;
  takes_bare = true;
}

-- the pipes of the PIPEs, of which there are at most `CHAIN_PIPES_MAX`
abbrev pub pipes_in : List Item → Result (List PipeSpec) WordsFault
pipes_in items = ok_or (few_of CHAIN_PIPES_MAX pipe_spec_of (bare_words items)) (Value Pipe)

abbrev pub red_pipes_in : List Item → Result (List RedSpec) WordsFault
red_pipes_in items = ok_or (few_of CHAIN_PIPES_MAX red_spec_of (bare_words items)) (Value Pipe)

-- the moves of the MOVEs, to so many cores
abbrev pub moves_in : ℕ → List Item → Result (List MoveSpec) WordsFault
moves_in cores items = ok_or (moves_of cores (bare_words items)) (Value Move)

-- the options on which a plan depends, beside its files
unfoldable pub plan_options_in : List Item → Result PlanOptions WordsFault
plan_options_in items = do
  mode ← mode_in items
  cores ← cores_in 1 items
  seed ← seed_in items
  tick_ns ← tick_in items
  loss ← loss_in items
  Ok (record { mode = mode; cores = cores; seed = seed; tick_ns = tick_ns; loss = loss })

-- what the items after `chain` ask for, or the first option in the order of `Opt` whose value is out of its range
unfoldable pub chain_of : List Item → Result ChainView WordsFault
chain_of items = do
  seed ← seed_in items
  tick_ns ← tick_in items
  pipes ← pipes_in items
  loss ← loss_in items
  Ok (record {
    trace = text_in (codes "--trace") items;
    out = text_in (codes "--out") items;
    report = text_in (codes "--report") items;
    tick_ns = tick_ns;
    seed = seed;
    pipes = pipes;
    loss = loss;
  })

-- the same of the items after `distill`
unfoldable pub distill_of : List Item → Result DistillView WordsFault
distill_of items = do
  mode ← mode_in items
  tick_ns ← tick_in items
  Ok (record { topology = text_in (codes "--topology") items; mode = mode; tick_ns = tick_ns })

-- the same of the items after `assign`
unfoldable pub assign_of : List Item → Result AssignView WordsFault
assign_of items = do
  mode ← mode_in items
  cores ← cores_in 1 items
  Ok (record { topology = text_in (codes "--topology") items; mode = mode; cores = cores })

-- the same of the items after `rehearse` or `emulate`
unfoldable pub run_of : List Item → Result RunView WordsFault
run_of items = do
  mode ← mode_in items
  cores ← cores_in 1 items
  seed ← seed_in items
  tick_ns ← tick_in items
  cluster_report ← cluster_report_in items
  order ← order_in items
  turns ← turns_in items
  loss ← loss_in items
  Ok (record {
    topology = text_in (codes "--topology") items;
    trace = text_in (codes "--trace") items;
    out = text_in (codes "--out") items;
    report = text_in (codes "--report") items;
    mode = mode;
    cores = cores;
    seed = seed;
    tick_ns = tick_ns;
    directory = value_of (codes "--directory") items;
    cluster_report = cluster_report;
    order = order;
    turns = turns;
    loss = loss;
  })

-- the same of the items after `workload`
unfoldable pub workload_of : List Item → Result WorkloadOrder WordsFault
workload_of items = do
  cores ← cores_in 4 items
  number ← workload_number_in items
  packets ← packets_in items
  Ok (record { number = number; packets = packets; cores = cores })

-- the same of the items after `journal`
unfoldable pub journal_of : List Item → Result JournalView WordsFault
journal_of items = do
  options ← plan_options_in items
  Ok (record {
    topology = text_in (codes "--topology") items;
    trace = text_in (codes "--trace") items;
    out = text_in (codes "--out") items;
    mode = options.mode;
    cores = options.cores;
    seed = options.seed;
    tick_ns = options.tick_ns;
    directory = value_of (codes "--directory") items;
    loss = options.loss;
  })

-- the same of the items after `check`
unfoldable pub check_of : List Item → Result CheckView WordsFault
check_of items = do
  options ← plan_options_in items
  Ok (record {
    topology = text_in (codes "--topology") items;
    trace = text_in (codes "--trace") items;
    journal = text_in (codes "--journal") items;
    mode = options.mode;
    cores = options.cores;
    seed = options.seed;
    tick_ns = options.tick_ns;
    directory = value_of (codes "--directory") items;
    loss = options.loss;
  })

-- the same of the items after `red`
unfoldable pub red_of : List Item → Result RedView WordsFault
red_of items = do
  seed ← seed_in items
  tick_ns ← tick_in items
  pipes ← red_pipes_in items
  Ok (record {
    trace = text_in (codes "--trace") items;
    out = text_in (codes "--out") items;
    report = text_in (codes "--report") items;
    tick_ns = tick_ns;
    seed = seed;
    pipes = pipes;
  })

-- the same of the items after `migrate`
unfoldable pub migrate_of : List Item → Result MigrateView WordsFault
migrate_of items = do
  options ← plan_options_in items
  moves ← moves_in options.cores items
  Ok (record {
    topology = text_in (codes "--topology") items;
    trace = text_in (codes "--trace") items;
    out = text_in (codes "--out") items;
    report = text_in (codes "--report") items;
    mode = options.mode;
    cores = options.cores;
    seed = options.seed;
    tick_ns = options.tick_ns;
    directory = value_of (codes "--directory") items;
    loss = options.loss;
    moves = moves;
  })

-- an arm for each command
unfoldable pub order_of : Command → List Item → Result Order WordsFault
order_of command.Chain items = do
  order ← chain_of items
  Ok (Chain order)
order_of command.Distill items = do
  order ← distill_of items
  Ok (Distill order)
order_of command.Assign items = do
  order ← assign_of items
  Ok (Assign order)
order_of command.Rehearse items = do
  order ← run_of items
  Ok (Rehearse order)
order_of command.Emulate items = do
  order ← run_of items
  Ok (Emulate order)
order_of command.Workload items = do
  order ← workload_of items
  Ok (Workload order)
order_of command.Journal items = do
  order ← journal_of items
  Ok (Journal order)
order_of command.Check items = do
  order ← check_of items
  Ok (Check order)
order_of command.Red items = do
  order ← red_of items
  Ok (Red order)
order_of command.Migrate items = do
  order ← migrate_of items
  Ok (Migrate order)
