use Rattle.std.proofs.Common.{refl, arith}
use Rattle.std.proofs.lemmas.Grind.{common_steps}
use Rattle.mn_words.specs.Items.{items_of}
use Rattle.mn_words.specs.Form.{bare_words}
use Rattle.mn_words.proofs.BareLists.{reads-none, reads-more, read-stop, read-too_many, read-end}
use Rattle.mn_words.proofs.bare.bare_in.Goals as goal

pub words-init : goal.words-init
words-init g c = record {
  read = rw c.new-all.ensures.items (reads-none g.T.BareWord.said (bare_words (items_of c.args.words)));
  few = rw c.new-all.ensures.items (omega arith);
  ranges = rw c.new-all.ensures.items (grind (arith, common_steps));
}

pub returns-then-len-most-clause-fault : goal.returns-then-len-most-clause-fault
returns-then-len-most-clause-fault g c = (
  refl,
  read-too_many c.args.most g.T.BareWord.said (bare_words (items_of c.args.words)) (bare_words (items_of c.words.words))
      (bare_words (items_of c.next_bare.new.self)) c.in-Some.word.now c.words.all.items c.words.invariant.read c.in-Some.ensures.0
      (omega arith),
)

pub returns-in_default-said_by-clause-fault : goal.returns-in_default-said_by-clause-fault
returns-in_default-said_by-clause-fault g c = (
  refl,
  read-stop c.args.most g.T.BareWord.said (bare_words (items_of c.args.words)) (bare_words (items_of c.words.words))
      (bare_words (items_of c.next_bare.new.self)) c.in-Some.word.now c.words.all.items c.words.invariant.read c.in-Some.ensures.0
      c.in_default-said_by.ensures.value,
)

pub words-preserved : goal.words-preserved
words-preserved g c = record {
  read = rw c.in_ok-push.ensures.items (reads-more g.T.BareWord.said (bare_words (items_of c.args.words))
      (bare_words (items_of c.words.words)) (bare_words (items_of c.next_bare.new.self)) c.in-Some.word.now c.words.all.items
      c.in-Some-said_by.one c.words.invariant.read c.in-Some.ensures.0 c.in-Some-said_by.ensures.value);
  few = grind (arith, common_steps, c.in_ok-push.ensures.items);
  ranges = rw c.in_ok-push.ensures.items (grind (arith, common_steps));
}

pub returns-clause-said : goal.returns-clause-said
returns-clause-said g c =
    let ended = read-end c.args.most g.T.BareWord.said (bare_words (items_of c.args.words)) (bare_words (items_of c.words.words))
    c.words.all.items c.words.invariant.read c.in_default.ensures c.words.invariant.few in
    ended.0

pub returns-clause-count : goal.returns-clause-count
returns-clause-count g c =
    let ended = read-end c.args.most g.T.BareWord.said (bare_words (items_of c.args.words)) (bare_words (items_of c.words.words))
    c.words.all.items c.words.invariant.read c.in_default.ensures c.words.invariant.few in
    ended.1
