use Rattle.std.proofs.Common.{◌<◌, ℕ, sym, ◌∙◌, subst, arith}
use Rattle.journal.specs.declared.setup.PacketPlan.{PacketPlan}
use Rattle.deadline_heap.specs.Canonical.{HasNoneOf}
use Rattle.mn_base.proofs.Members.{All-Among}
use Rattle.migrate.proofs.Started.{entry-packet, first-fits}
use Rattle.migrate.proofs.starting.enter.Goals as goal

pub put_due-requires-clause-alone : goal.put_due-requires-clause-alone
put_due-requires-clause-alone c =
    let packet = entry-packet c.args.setup.now c.args.plan c.in-Some.due c.requires.among (sym c.first_due.ensures ∙ c.in-Some.is) in
    λ core s e. subst (λ (n : ℕ). HasNoneOf n s.due) (sym packet) (c.requires.alone core s e)

pub put_due-requires-clause-tick : goal.put_due-requires-clause-tick
put_due-requires-clause-tick c =
    first-fits c.args.setup.now c.parts-parts.ensures.kept c.args.plan c.in-Some.due c.requires.among
    (sym c.first_due.ensures ∙ c.in-Some.is)

pub settle-requires-clause-core : goal.settle-requires-clause-core
settle-requires-clause-core c =
    let core =
    All-Among (λ (p : PacketPlan). p.core < c.args.setup.now.cores) c.args.plan c.args.setup.now.packets
    c.parts-parts.ensures.kept.packet_cores c.requires.among in
    omega (arith, core, c.requires.one_a_core)
