use Rattle.std.proofs.Common.{ap, ◌∙◌, sym, subst}
use Rattle.std.proofs.lemmas.Result.{on_ok_weaker}
use Rattle.journal.specs.declared.fate.Fate.{Fate}
use Rattle.journal.specs.Hops.{hop_after}
use Rattle.parcel.specs.declared.note.Note.TheVariants.{Settle}
use Rattle.core_loop.specs.Work.{WorkView, Tells}
use Rattle.core_loop.proofs.Follows.{ahead, announced, settled}
use Rattle.core_loop.proofs.work.Work.follow.Goals as goal

pub announce-requires-clause-alone : goal.announce-requires-clause-alone
announce-requires-clause-alone c =
    (ahead c.args.self.now c.args.due c.args.step c.requires.made c.in-Some.next
    (sym c.in-Some.is
    ∙ c.next_due.ensures
    ∙ ap (λ n. hop_after c.self.inside.setup.now n c.args.due.hop c.args.step) c.requires.number
    ∙ ap (λ (w : WorkView). hop_after w.setup c.args.due.packet c.args.due.hop c.args.step) c.self.view_is)).alone

pub returns-in-Some-clause-runs : goal.returns-in-Some-clause-runs
returns-in-Some-clause-runs c =
    on_ok_weaker _
    (announced c.args.self.now c.args.due c.args.step c.requires.made c.in-Some.next c.announce.new.self
    (sym c.in-Some.is
    ∙ c.next_due.ensures
    ∙ ap (λ n. hop_after c.self.inside.setup.now n c.args.due.hop c.args.step) c.requires.number
    ∙ ap (λ (w : WorkView). hop_after w.setup c.args.due.packet c.args.due.hop c.args.step) c.self.view_is))
    c.announce.ensures.announces

pub returns-in-None-clause-runs : goal.returns-in-None-clause-runs
returns-in-None-clause-runs c =
    on_ok_weaker _
    (λ (t : Tells c.args.self.now c.args.plan.core (Settle c.args.due.packet c.fate_by.result) c.tell.new.self).
    settled c.args.self.now c.args.due c.args.step c.requires.made c.tell.new.self c.args.pipe c.args.plan
    (sym c.in-None.is
    ∙ c.next_due.ensures
    ∙ ap (λ n. hop_after c.self.inside.setup.now n c.args.due.hop c.args.step) c.requires.number
    ∙ ap (λ (w : WorkView). hop_after w.setup c.args.due.packet c.args.due.hop c.args.step) c.self.view_is)
    c.requires.pipe c.requires.known
    (subst (λ (f : Fate). Tells c.args.self.now c.args.plan.core (Settle c.args.due.packet f) c.tell.new.self) c.fate_by.ensures t))
    c.tell.ensures.tells
