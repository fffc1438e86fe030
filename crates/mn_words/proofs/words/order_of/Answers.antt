use Rattle.std.proofs.Common.{◌≡◌, true, subst, refl}
use Rattle.mn_words.specs.declared.command.Command.TheVariants as command
use Rattle.mn_words.specs.Form.{has_form}
use Rattle.mn_words.specs.TheCommands.{form_of}
use Rattle.mn_words.proofs.Absent.{emulates}
use Rattle.mn_words.proofs.Finding.{asks_bare}
use Rattle.mn_words.proofs.words.order_of.Goals as goal

pub chain_of-requires : goal.chain_of-requires
unfolding form_of
chain_of-requires c =
    let of_form = subst (λ command. has_form (form_of command) c.args.words ≡ true) c.in-Chain.is c.requires in
    asks_bare (form_of command.Chain) c.args.words refl of_form

pub returns-in_ok-run_of-in-Emulate-clause-ranges : goal.returns-in_ok-run_of-in-Emulate-clause-ranges
returns-in_ok-run_of-in-Emulate-clause-ranges c =
    let of_form = subst (λ command. has_form (form_of command) c.args.words ≡ true) c.in-Emulate.is c.requires in
    emulates c.args.words c.in_ok-run_of-in-Emulate.field-0 of_form c.in_ok-run_of-in-Emulate.ensures.ranges
    c.in_ok-run_of-in-Emulate.ensures.number c.in_ok-run_of-in-Emulate.ensures.turns

pub red_of-requires : goal.red_of-requires
unfolding form_of
red_of-requires c =
    let of_form = subst (λ command. has_form (form_of command) c.args.words ≡ true) c.in-Red.is c.requires in
    asks_bare (form_of command.Red) c.args.words refl of_form

pub migrate_of-requires : goal.migrate_of-requires
unfolding form_of
migrate_of-requires c =
    let of_form = subst (λ command. has_form (form_of command) c.args.words ≡ true) c.in-Migrate.is c.requires in
    asks_bare (form_of command.Migrate) c.args.words refl of_form
