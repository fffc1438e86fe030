use Rattle.std.proofs.Common.{◌≡◌, ◌≤◌, length}
use Rattle.mn_words.specs.Items.{items_of}
use Rattle.mn_words.specs.Form.{bare_words}
use Rattle.mn_words.proofs.rest.Rest.next_bare.Given as goal

-- only options were passed over
abbrev pub invariant-items : goal.invariant-items
invariant-items l = record {
  bare : bare_words (items_of l.fn.self) ≡ bare_words (items_of l.self);
  length : length l.self ≤ length l.fn.self;
}

abbrev pub decreases-items : goal.decreases-items
decreases-items l = length l.self
