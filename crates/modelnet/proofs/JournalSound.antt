-- `journal` is sound: a plan has one journal, and it has one text.
use Rattle.std.proofs.Common.{◌≡◌, ℕ, List, [], ◌∷◌, Option, sym, ◌∙◌, ap}
use Rattle.journal.specs.Journal.{journal_of}
use Rattle.journal_check.specs.Texts.{journal_out}
use Rattle.plan.specs.PlannedView.{PlannedView}
use Rattle.mn_words.specs.Order.{JournalView}
use Rattle.modelnet.specs.declared.read_limits.ReadLimits.{ReadLimits}
use Rattle.modelnet.specs.Exact.{IsSoundCommand}
use Rattle.modelnet.specs.Journals.{journal_planning, journal_writes}
use Rattle.modelnet.specs.TheCommands.{journal_command}
use Rattle.modelnet.proofs.PlainPlanner.{plain_planner, topology_alone, plain_cause}
use Rattle.modelnet.proofs.PlannerSound.{IsWritten, one_directory, planner_is_sound}

-- what is written of a plan
abbrev journal_says : Option (List ℕ) → PlannedView → List (List ℕ) → Type 0
journal_says directory planned (text ∷ []) = text ≡ journal_out (journal_of planned.setup)
journal_says directory planned written = ⊥

journal_written : (order : JournalView) (topology trace : List ℕ) (rest outs : List (List ℕ))
    → journal_writes order (topology ∷ trace ∷ rest) outs
    → IsWritten (plain_planner (journal_planning order) journal_says) topology trace rest outs
journal_written order topology trace rest [] says = absurd says
journal_written order topology trace rest (text ∷ more ∷ outs) says = absurd says
journal_written order topology trace rest (text ∷ []) says = record {
  behind = says.plans.directory;
  planned = says.planned;
  has = record { given = says.plans.given; plans = says.plans.plans };
  written = says.text_is;
}

journal_one_output : (directory : Option (List ℕ)) (planned : PlannedView) (outs others : List (List ℕ))
    → journal_says directory planned outs → journal_says directory planned others → outs ≡ others
journal_one_output directory planned (text ∷ []) (other ∷ []) says also = ap (λ t. t ∷ []) (says ∙ sym also)
journal_one_output directory planned [] others says also = absurd says
journal_one_output directory planned (text ∷ more ∷ outs) others says also = absurd says
journal_one_output directory planned (text ∷ []) [] says also = absurd also
journal_one_output directory planned (text ∷ []) (other ∷ more ∷ others) says also = absurd also

pub journal_is_sound : (limits : ReadLimits) (order : JournalView) → IsSoundCommand (journal_command limits order)
journal_is_sound limits order =
    planner_is_sound (journal_command limits order) (plain_planner (journal_planning order) journal_says) (record {
      nothing_refused = λ status refused. refused;
      by_topology = topology_alone (journal_planning order);
      cause = plain_cause (journal_planning order) journal_says;
      nothing_written = λ outs says. says;
      no_trace_written = λ topology outs says. says;
      written = journal_written order;
      one_behind = one_directory order.directory;
      refusals = λ behind planned status refused. absurd refused;
      one_refusal = λ behind planned one other refused also. absurd refused;
      never_both = λ behind planned status outs refused says. refused;
      one_output = journal_one_output;
    })
