use Rattle.std.proofs.Common.{◌≡◌, Some, sym, ap, ◌∙◌, subst}
use Rattle.mn_base.specs.declared.due.Due.{Due}
use Rattle.journal.specs.SetupView.{SetupView, packet_of}
use Rattle.deadline_heap.specs.Canonical.{HasNoneOf}
use Rattle.journal.proofs.Delays.{entry_parts}
use Rattle.core_loop.proofs.entering.enter.Goals as goal

pub announce-requires-clause-known : goal.announce-requires-clause-known
announce-requires-clause-known c =
    let e = entry_parts c.args.setup.now c.args.plan c.in-Some.due c.requires.among (sym c.in-Some.ensures) in
    subst (λ (T : SetupView). packet_of T c.in-Some.due.packet ≡ Some c.args.plan) (sym c.requires.setup)
    (ap (packet_of c.args.setup.now) (ap (λ (x : Due). x.packet) e.is) ∙ c.requires.known)

pub announce-requires-clause-alone : goal.announce-requires-clause-alone
announce-requires-clause-alone c =
    let e = entry_parts c.args.setup.now c.args.plan c.in-Some.due c.requires.among (sym c.in-Some.ensures) in
    subst (λ k. HasNoneOf k c.args.work.now.heap) (sym (ap (λ (x : Due). x.packet) e.is)) c.requires.can.alone
