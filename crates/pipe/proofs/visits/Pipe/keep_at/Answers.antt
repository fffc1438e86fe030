use Rattle.std.proofs.Common.{ap, ◌∙◌}
use Rattle.mn_base.specs.declared.params.PipeParams.{PipeParams}
use Rattle.pipe.specs.PipeView.{PipeView, params_at}
use Rattle.pipe.proofs.Coming.{Comes, comes}
use Rattle.pipe.proofs.visits.Pipe.keep_at.Goals as goal

here : (c : goal.After-in_force_at) → Comes c.self.inside c.args.tick c.in_force_at.result
here c =
    comes c.self.invariant c.self.view_is c.requires c.deref.result.now c.deref.ensures.value
    (record { within = c.in_force_at.ensures.within; params = c.in_force_at.ensures.params; ahead = c.in_force_at.ensures.ahead })

pub returns : goal.returns
returns c =
    ap (λ (p : PipeParams). p.keep) (here c).params
    ∙ ap (λ (m : PipeView). (params_at m c.args.tick).keep) c.self.view_is
