use Rattle.std.proofs.Common.{◌≡◌, ℕ, take}
use Rattle.std.specs.Ordering.{nat_cmp}
use Rattle.std.specs.BTreeMap.{get}
use Rattle.ip_bind.specs.Books.{node_with_address}
use Rattle.ip_bind.proofs.book.AddressBook.new.Given as goal

abbrev pub invariant-loop-n : goal.invariant-loop-n
invariant-loop-n l = (address : ℕ) → get nat_cmp l.nodes address ≡ node_with_address (take l.n l.node-items) address
