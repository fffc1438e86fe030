use Rattle.std.proofs.Common.{◌≡◌, length}
use Rattle.mn_words.specs.Items.{items_of}
use Rattle.mn_words.specs.Form.{value_of}
use Rattle.mn_words.proofs.form.value_of.Given as goal

-- what is found among the items that are left is what is found among all
abbrev pub invariant-items : goal.invariant-items
invariant-items l = value_of l.name (items_of l.fn.words) ≡ value_of l.name (items_of l.rest)

abbrev pub decreases-items : goal.decreases-items
decreases-items l = length l.rest
