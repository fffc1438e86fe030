use Rattle.std.proofs.Common.{◌≡◌, ◌<◌, ◌==◌, ℕ, length, slice_index, sym, ap, ◌∙◌, subst, eqb-true}
use Rattle.journal.specs.declared.setup.PacketPlan.{PacketPlan}
use Rattle.journal.specs.SetupView.{packet_of, route_of}
use Rattle.mn_base.proofs.Members.{Among-find}
use Rattle.migrate.proofs.moving.is_to.Goals as goal

number-is : (c : goal.In-Some) → c.in-Some.plan.number ≡ c.args.due.packet
number-is c =
    eqb-true c.in-Some.plan.number c.args.due.packet
    (Among-find (λ (p : PacketPlan). p.number == c.args.due.packet) c.in-Some.plan c.args.setup.now.packets
    (sym c.find.ensures ∙ c.in-Some.is)).1

pub pipe_at-requires-clause-known : goal.pipe_at-requires-clause-known
pipe_at-requires-clause-known c =
    ap (packet_of c.args.setup.now) (number-is c) ∙ sym c.find.ensures ∙ c.in-Some.is

pub pipe_at-requires-clause-within : goal.pipe_at-requires-clause-within
pipe_at-requires-clause-within c =
    subst (λ (n : ℕ). c.args.due.hop < length (route_of c.args.setup.now n)) (sym (number-is c)) c.requires.1

pub returns : goal.returns
returns c =
    let number : c.in-Some.plan.number ≡ c.args.due.packet =
    eqb-true c.in-Some.plan.number c.args.due.packet
    (Among-find (λ (p : PacketPlan). p.number == c.args.due.packet) c.in-Some.plan c.args.setup.now.packets
    (sym c.find.ensures ∙ c.in-Some.is)).1 in
    ap (λ (n : ℕ). n == c.args.pipe)
    (c.pipe_at.ensures.pipe ∙ ap (λ (n : ℕ). slice_index (route_of c.args.setup.now n) c.args.due.hop) number)
