use Rattle.std.proofs.Common.{ap, ◌∙◌, sym, slice_index}
use Rattle.journal.specs.SetupView.{route_of}
use Rattle.parcel.specs.Owners.{owner_of}
use Rattle.core_loop.specs.Work.{WorkView}
use Rattle.core_loop.proofs.Announcing.{due-here, due-elsewhere}
use Rattle.core_loop.proofs.work.Work.announce.Goals as goal

pub returns-then-owner-self-clause-announces : goal.returns-then-owner-self-clause-announces
returns-then-owner-self-clause-announces c =
    due-here _ c.args.self.now c.insert.new.self c.args.due c.owner_at-owner.result
    (c.owner_at-owner.ensures c.args.due.tick
    ∙ ap (λ n. owner_of c.args.self.now.setup (slice_index (route_of c.args.self.now.setup n) c.args.due.hop)) c.requires.number)
    (c.if-owner-self.true ∙ ap (λ (w : WorkView). w.number) c.self.view_is)
    c.insert.ensures.members c.insert.ensures.same

pub returns-clause-announces : goal.returns-clause-announces
returns-clause-announces c =
    due-elsewhere _ c.args.self.now c.tell.new.self c.args.due c.owner_at-owner.result
    (c.owner_at-owner.ensures c.args.due.tick
    ∙ ap (λ n. owner_of c.args.self.now.setup (slice_index (route_of c.args.self.now.setup n) c.args.due.hop)) c.requires.number)
    (λ own. c.if-owner-self.false (own ∙ ap (λ (w : WorkView). w.number) (sym c.self.view_is)))
    c.tell.ensures.tells
