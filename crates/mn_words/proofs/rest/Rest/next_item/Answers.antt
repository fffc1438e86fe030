use Rattle.std.proofs.Common.{◌≡◌, true, false, rules, arith}
use Rattle.std.proofs.lemmas.Grind.{common_steps}
use Rattle.mn_words.specs.Items.{begins_option}
use Rattle.mn_words.proofs.Taking.{takes_bare, takes_at_once, takes_in_two, takes_none, takes_no_word}
use Rattle.mn_words.proofs.rest.Rest.next_item.Goals as goal

pub returns-then-not-starts_with : goal.returns-then-not-starts_with
returns-then-not-starts_with c =
    let plain : begins_option c.in-Some.word.now ≡ false = grind (arith, common_steps) in
    takes_bare c.args.self.now c.next.new.self c.in-Some.word.now c.in-Some.ensures plain

pub returns-in-Some-split_once : goal.returns-in-Some-split_once
returns-in-Some-split_once c =
    let begins : begins_option c.in-Some.word.now ≡ true = grind (arith, common_steps) in
    takes_at_once c.args.self.now c.next.new.self c.in-Some.word.now c.in-Some-split_once.name.now c.in-Some-split_once.value.now
    c.in-Some.ensures begins
    (search rules) (search rules) (search rules)

pub returns-in_default-next : goal.returns-in_default-next
returns-in_default-next c =
    let begins : begins_option c.in-Some.word.now ≡ true = grind (arith, common_steps) in
    takes_none c.args.self.now c.next.new.self c.in-Some.word.now c.in-Some.ensures (search rules) begins (search rules)

pub returns : goal.returns
returns c =
    let begins : begins_option c.in-Some.word.now ≡ true = grind (arith, common_steps) in
    takes_in_two c.args.self.now c.next.new.self c.next-2.new.self c.in-Some.word.now c.in-Some-next.value.now
    c.in-Some.ensures c.in-Some-next.ensures begins (search rules)

pub returns-in_default : goal.returns-in_default
returns-in_default c = takes_no_word c.args.self.now c.in_default.ensures.0
