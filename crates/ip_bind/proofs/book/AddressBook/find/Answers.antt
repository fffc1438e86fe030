use Rattle.std.proofs.Common.{◌≡◌, sym, ap, ◌∙◌}
use Rattle.std.specs.Ordering.{nat_cmp}
use Rattle.std.specs.BTreeMap as tree
use Rattle.std.specs.FinMap as map
use Rattle.ip_bind.proofs.Books.{get-entries}
use Rattle.ip_bind.proofs.book.AddressBook.find.Goals as goal

pub returns : goal.returns
returns c =
    let found : c.copied.result ≡ tree.get nat_cmp c.self.inside.nodes c.args.address = c.copied.ensures ∙ c.get.ensures.value in
    found ∙ sym (get-entries c.self.inside.nodes c.args.address) ∙ ap (λ m. map.get m c.args.address) c.self.view_is
