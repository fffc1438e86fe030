-- A pcapng file and the classic copy of its trace say one trace, so what a command makes of them is one.
use Rattle.std.proofs.Common.{◌≡◌, ◌≢◌, ℕ, List, [], ◌∷◌, ◌++◌, Option, Some, None, sym, ap, subst, ◌∙◌, inl}
use Rattle.mn_edge.specs.declared.role.Role.TheVariants.{Topology, Trace, Directory}
use Rattle.mn_edge.specs.declared.role.Role.TheVariants as role
use Rattle.pcap_io.specs.Capture.{Capture}
use Rattle.pcap_io.specs.Writing.{pcap_text}
use Rattle.pcapng_in.specs.CaptureFile.{SaysTrace}
use Rattle.pcapng_in.proofs.ByFormat.{same_as_pcap, one_capture_reading}
use Rattle.plan.specs.declared.options.Options.{Options}
use Rattle.plan.specs.PlannedView.{PlannedView}
use Rattle.mn_words.specs.declared.order.Order.{Order}
use Rattle.mn_words.specs.declared.order.Order.TheVariants.{Chain, Distill, Assign, Rehearse, Emulate, Workload, Journal, Check, Red, Migrate}
use Rattle.mn_words.specs.Order.{ChainView, RunView, JournalView, CheckView, RedView, MigrateView}
use Rattle.modelnet.specs.declared.read_limits.ReadLimits.{ReadLimits}
use Rattle.modelnet.specs.Roles.{Input}
use Rattle.modelnet.specs.Commands.{ReadInputs, ReadsNot, inputs_of, bytes_read}
use Rattle.modelnet.specs.Journals.{check_planning, journal_planning, journal_writes, check_writes}
use Rattle.modelnet.specs.Moving.{migrate_planning, migrate_writes}
use Rattle.modelnet.specs.Run.{SaysRun}
use Rattle.modelnet.specs.RedRun.{SaysRed}
use Rattle.modelnet.specs.Running.{Plans}
use Rattle.modelnet.specs.Planning.{PlanningView, PlansAsked, topology_input, trace_input, directory_inputs}
use Rattle.modelnet.specs.TheCommands.{row_of, journal_input, replay_writes, run_planning, run_writes}
use Rattle.modelnet.specs.Copies.{PcapngIsReplayedAsItsCopy}

-- what one text says, the other says
abbrev SaysAsMuch : List ℕ → List ℕ → Type 0
SaysAsMuch text other = (t : Capture) → SaysTrace text t → SaysTrace other t

says_as_much : (text other : List ℕ) (trace : Capture) → SaysTrace text trace → SaysTrace other trace → SaysAsMuch text other
says_as_much text other trace says also t reads =
    subst (λ (u : Capture). SaysTrace other u) (one_capture_reading text trace t says reads) also

-- ---- where the trace stands among the inputs

-- none of these inputs is a trace
unread : (inputs xs ys : List Input) (at : Input) → ReadsNot inputs Trace → inputs ≡ xs ++ at ∷ ys → at.role ≡ Trace → ⊥
unread [] [] ys at not is trace = cc
unread [] (x ∷ xs) ys at not is trace = cc
unread (i ∷ inputs) [] ys at not is trace =
    let same : i ≡ at = cc in not.0 (sym (ap (λ (j : Input). j.role) same ∙ trace))
unread (i ∷ inputs) (x ∷ xs) ys at not is trace =
    let rest : inputs ≡ xs ++ at ∷ ys = cc in unread inputs xs ys at not.1 rest trace

no_topology : Trace ≢ Topology
no_topology is = cc

no_directory : Trace ≢ Directory
no_directory is = cc

no_journal : Trace ≢ role.Journal
no_journal is = cc

module _ (limits : ReadLimits) where
  directory_is_no_trace : (named : Option (List ℕ)) → ReadsNot (directory_inputs limits named) Trace
  directory_is_no_trace None = tt
  directory_is_no_trace (Some name) = (no_directory, tt)

  rest_is_no_trace : (named : Option (List ℕ)) (order : CheckView)
      → ReadsNot (directory_inputs limits named ++ journal_input limits order ∷ []) Trace
  rest_is_no_trace None order = (no_journal, tt)
  rest_is_no_trace (Some name) order = (no_directory, (no_journal, tt))

-- ---- what is written of the one is written of the other

module _ (text other : List ℕ) (same : SaysAsMuch text other) where
  plans_too : (options : Options) (topology : List ℕ) (directory : Option (List ℕ)) (planned : PlannedView)
      → Plans options topology text directory planned → Plans options topology other directory planned
  plans_too options topology directory planned p = record {
    target = p.target;
    capture = p.capture;
    reads = p.reads;
    says = same p.capture p.says;
    plan = p.plan;
  }

  asked_too : (asked : PlanningView) (topology : List ℕ) (rest : List (List ℕ)) (planned : PlannedView)
      → PlansAsked asked topology text rest planned → PlansAsked asked topology other rest planned
  asked_too asked topology rest planned p = record {
    directory = p.directory;
    given = p.given;
    plans = plans_too asked.options topology p.directory planned p.plans;
  }

  chain_too : (order : ChainView) (front back : ReadInputs) (written : List (List ℕ))
      → replay_writes (SaysRun order) (bytes_read front ++ text ∷ bytes_read back) written
      → replay_writes (SaysRun order) (bytes_read front ++ other ∷ bytes_read back) written
  chain_too order [] [] (out ∷ report ∷ []) w = record { trace = w.trace; says = same w.trace w.says; run = w.run }
  chain_too order [] [] [] w = w
  chain_too order [] [] (out ∷ []) w = w
  chain_too order [] [] (out ∷ report ∷ more ∷ written) w = w
  chain_too order [] (b ∷ back) written w = w
  chain_too order (f ∷ []) back written w = w
  chain_too order (f ∷ g ∷ front) back written w = w

  red_too : (order : RedView) (front back : ReadInputs) (written : List (List ℕ))
      → replay_writes (SaysRed order) (bytes_read front ++ text ∷ bytes_read back) written
      → replay_writes (SaysRed order) (bytes_read front ++ other ∷ bytes_read back) written
  red_too order [] [] (out ∷ report ∷ []) w = record { trace = w.trace; says = same w.trace w.says; run = w.run }
  red_too order [] [] [] w = w
  red_too order [] [] (out ∷ []) w = w
  red_too order [] [] (out ∷ report ∷ more ∷ written) w = w
  red_too order [] (b ∷ back) written w = w
  red_too order (f ∷ []) back written w = w
  red_too order (f ∷ g ∷ front) back written w = w

  run_too : (order : RunView) (topology : List ℕ) (rest written : List (List ℕ))
      → run_writes order (topology ∷ text ∷ rest) written → run_writes order (topology ∷ other ∷ rest) written
  run_too order topology rest [] w = w
  run_too order topology rest (out ∷ []) w = w
  run_too order topology rest (out ∷ report ∷ screens) w = record {
    planned = w.planned;
    plans = asked_too (run_planning order) topology rest w.planned w.plans;
    run = w.run;
    screens_are = w.screens_are;
  }

  journal_too : (order : JournalView) (topology : List ℕ) (rest written : List (List ℕ))
      → journal_writes order (topology ∷ text ∷ rest) written → journal_writes order (topology ∷ other ∷ rest) written
  journal_too order topology rest [] w = w
  journal_too order topology rest (out ∷ []) w = record {
    planned = w.planned;
    plans = asked_too (journal_planning order) topology rest w.planned w.plans;
    text_is = w.text_is;
  }
  journal_too order topology rest (out ∷ more ∷ written) w = w

  check_too : (order : CheckView) (topology : List ℕ) (rest written : List (List ℕ))
      → check_writes order (topology ∷ text ∷ rest) written → check_writes order (topology ∷ other ∷ rest) written
  check_too order topology rest [] w = w
  check_too order topology rest (screen ∷ []) w = record {
    planned = w.planned;
    journal = w.journal;
    checked = record {
      directory = w.checked.directory;
      given = w.checked.given;
      plans = plans_too (check_planning order).options topology w.checked.directory w.planned w.checked.plans;
    };
    right = w.right;
    screen_is = w.screen_is;
  }
  check_too order topology rest (screen ∷ more ∷ written) w = w

  migrate_too : (order : MigrateView) (topology : List ℕ) (rest written : List (List ℕ))
      → migrate_writes order (topology ∷ text ∷ rest) written → migrate_writes order (topology ∷ other ∷ rest) written
  migrate_too order topology rest [] w = w
  migrate_too order topology rest (out ∷ []) w = w
  migrate_too order topology rest (out ∷ report ∷ []) w = w
  migrate_too order topology rest (out ∷ report ∷ screen ∷ []) w = record {
    planned = w.planned;
    plans = asked_too (migrate_planning order) topology rest w.planned w.plans;
    run = w.run;
  }
  migrate_too order topology rest (out ∷ report ∷ screen ∷ more ∷ written) w = w

  -- of a command that plans the trace is the second input, and there is no other
  second_too : (writes : List (List ℕ) → List (List ℕ) → Type 0) (limits : ReadLimits) (asked : PlanningView) (more : List Input)
      → ReadsNot more Trace
      → ((topology : List ℕ) (rest written : List (List ℕ)) → writes (topology ∷ text ∷ rest) written → writes (topology ∷ other ∷ rest) written)
      → (front back : ReadInputs) (at : Input) → at.role ≡ Trace
      → topology_input limits asked ∷ trace_input limits asked ∷ more ≡ inputs_of front ++ at ∷ inputs_of back
      → (written : List (List ℕ)) → writes (bytes_read front ++ text ∷ bytes_read back) written
      → writes (bytes_read front ++ other ∷ bytes_read back) written
  second_too writes limits asked more not too [] back at trace is written w =
      let same_input : topology_input limits asked ≡ at = cc in
      absurd (no_topology (sym (ap (λ (j : Input). j.role) same_input ∙ trace)))
  second_too writes limits asked more not too (f ∷ []) back at trace is written w = too f.1 (bytes_read back) written w
  second_too writes limits asked more not too (f ∷ g ∷ front) back at trace is written w =
      let rest : more ≡ inputs_of front ++ at ∷ inputs_of back = cc in
      absurd (unread more (inputs_of front) (inputs_of back) at not rest trace)

  -- whatever is asked for
  each_too : (limits : ReadLimits) (order : Order) (front back : ReadInputs) (at : Input) → at.role ≡ Trace
      → (row_of limits order).inputs ≡ inputs_of front ++ at ∷ inputs_of back
      → (written : List (List ℕ)) → (row_of limits order).writes (bytes_read front ++ text ∷ bytes_read back) written
      → (row_of limits order).writes (bytes_read front ++ other ∷ bytes_read back) written
  each_too limits (Chain order) front back at trace is written w = chain_too order front back written w
  each_too limits (Red order) front back at trace is written w = red_too order front back written w
  each_too limits (Distill order) front back at trace is written w =
      absurd (unread _ (inputs_of front) (inputs_of back) at (no_topology, tt) is trace)
  each_too limits (Assign order) front back at trace is written w =
      absurd (unread _ (inputs_of front) (inputs_of back) at (no_topology, tt) is trace)
  each_too limits (Workload order) front back at trace is written w =
      absurd (unread [] (inputs_of front) (inputs_of back) at tt is trace)
  each_too limits (Rehearse order) front back at trace is written w =
      second_too (run_writes order) limits (run_planning order) _ (directory_is_no_trace limits order.directory) (run_too order)
      front back at trace is written w
  each_too limits (Emulate order) front back at trace is written w =
      second_too (run_writes order) limits (run_planning order) _ (directory_is_no_trace limits order.directory) (run_too order)
      front back at trace is written w
  each_too limits (Journal order) front back at trace is written w =
      second_too (journal_writes order) limits (journal_planning order) _ (directory_is_no_trace limits order.directory) (journal_too order)
      front back at trace is written w
  each_too limits (Migrate order) front back at trace is written w =
      second_too (migrate_writes order) limits (migrate_planning order) _ (directory_is_no_trace limits order.directory) (migrate_too order)
      front back at trace is written w
  each_too limits (Check order) front back at trace is written w =
      second_too (check_writes order) limits (check_planning order) _ (rest_is_no_trace limits order.directory order) (check_too order)
      front back at trace is written w

pub pcapng_is_replayed_as_its_copy : PcapngIsReplayedAsItsCopy
pcapng_is_replayed_as_its_copy limits order text trace front back at begins says role inputs = λ written.
    let here : SaysTrace text trace = inl (begins, says) in
    let copied = same_as_pcap text trace says in
    let copy = pcap_text trace in (
      each_too text copy (says_as_much text copy trace here copied) limits order front back at role inputs written,
      each_too copy text (says_as_much copy text trace copied here) limits order front back at role inputs written,
    )
