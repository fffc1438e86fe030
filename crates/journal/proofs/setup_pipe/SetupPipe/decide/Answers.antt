use Rattle.std.proofs.Common.{◌≡◌, ap, ◌∙◌}
use Rattle.journal.specs.SetupView.{len_of}
use Rattle.journal.specs.IsPipe.{SetupPipeView}
use Rattle.journal.proofs.AtWork.{Decides, decided-step, decided-stands}
use Rattle.journal.proofs.setup_pipe.SetupPipe.decide.Goals as goal

same : (c : goal.In_ok-step) → c.self.inside.pipe ≡ c.args.self.now.memory
same c = ap (λ (m : SetupPipeView). m.memory) (c.self.view_is ∙ c.in_ok-lost.ensures.same)

decides : (c : goal.In_ok-step) → Decides c.args.setup.now c.args.self.now c.args.due c.in_ok-step.step c.visit.new.self
decides c = record {
  of_setup = c.requires.of_setup;
  len = c.packet_len-len.result;
  len_is = c.packet_len-len.ensures.len ∙ ap (len_of c.args.setup.now) c.requires.packet;
  lost = c.in_ok-lost.lost;
  lost_is = c.in_ok-lost.ensures.lost;
  memory = c.self.inside.pipe;
  same = same c;
  step_is = c.in_ok-step.ensures.step;
  stands_is = c.in_ok-step.ensures.stands;
}

pub returns-clause-step : goal.returns-clause-step
returns-clause-step c = decided-step (decides c)

pub returns-clause-stands : goal.returns-clause-stands
returns-clause-stands c = decided-stands (decides c)
