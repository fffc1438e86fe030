use Rattle.std.proofs.Common.{◌∙◌, ap}
use Rattle.modelnet.specs.Writing.{shown}
use Rattle.modelnet.proofs.running.run_texts.Goals as goal

pub merge-requires : goal.merge-requires
merge-requires c = record { results = (c.requires.bytes, c.requires.results_are) }

pub outcome_texts-requires : goal.outcome_texts-requires
outcome_texts-requires c = record {
  bytes = c.requires.bytes;
  outcome_is = c.in_ok-outcome.ensures.outcome c.requires.bytes c.requires.results_are;
  short = c.requires.short;
}

pub returns-clause-run : goal.returns-clause-run
returns-clause-run c = λ bytes are. c.in_ok-texts.ensures.run bytes (c.in_ok-outcome.ensures.outcome bytes are)

pub returns-clause-cluster : goal.returns-clause-cluster
returns-clause-cluster c = ap (λ s. shown s) c.in_ok-texts.ensures.screen ∙ c.in_ok-screen.ensures
