use Rattle.std.proofs.Common.{◌≤◌, All, length}
use Rattle.mn_words.specs.Items.{items_of}
use Rattle.mn_words.specs.Form.{bare_words}
use Rattle.mn_words.proofs.BareLists.{HaveRead}
use Rattle.mn_words.proofs.bare.bare_in.Given as goal

abbrev pub invariant-words : goal.invariant-words
invariant-words g l = record {
  read : HaveRead g.T.BareWord.said (bare_words (items_of l.initial.words)) (bare_words (items_of l.words)) l.all.items;
  few : length l.all.items ≤ l.most;
  ranges : All g.T.BareWord.is_in_range l.all.items;
}

abbrev pub decreases-words : goal.decreases-words
decreases-words g l = length l.words
