use Rattle.std.proofs.Common.{sym, ap, ◌∙◌, refl}
use Rattle.journal.specs.Hops.{hop_after}
use Rattle.journal.proofs.HeldFirst.{on_ok}
use Rattle.pipe.proofs.HeldVisits.{puts-some, puts-none}
use Rattle.journal.proofs.Making.{follows-packet}
use Rattle.journal.proofs.maker.follow_up.Goals as goal

pub add-requires : goal.add-requires
add-requires c = λ w a same.
    c.requires.none w a
    (same ∙ follows-packet c.args.setup.now c.args.plan.number c.args.made.due.hop c.args.step c.in-Some.next c.in-Some.ensures ∙ c.requires.packet)

pub returns-in-Some : goal.returns-in-Some
returns-in-Some c =
    on_ok c.add.result
    (puts-some (sym (c.in-Some.ensures ∙ ap (λ n. hop_after c.args.setup.now n c.args.made.due.hop c.args.step) c.requires.packet)) refl)
    c.add.ensures.added

pub returns-in-None : goal.returns-in-None
returns-in-None c =
    puts-none (sym (c.in-None.ensures ∙ ap (λ n. hop_after c.args.setup.now n c.args.made.due.hop c.args.step) c.requires.packet))
