use Rattle.std.proofs.Common.{◌==◌, sym, ◌∙◌, eqb-true}
use Rattle.journal.specs.declared.setup.PacketPlan.{PacketPlan}
use Rattle.mn_base.proofs.Members.{Among-find}
use Rattle.migrate.proofs.window.plan_of.Goals as goal

pub returns-clause-number : goal.returns-clause-number
returns-clause-number c =
    eqb-true c.in-Some.plan.number c.args.due.packet
    (Among-find (λ (p : PacketPlan). p.number == c.args.due.packet) c.in-Some.plan c.args.setup.now.packets
    (sym c.find.ensures ∙ c.in-Some.is)).1
