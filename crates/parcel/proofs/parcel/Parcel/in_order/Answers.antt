use Rattle.std.proofs.Common.{rules}
use Rattle.std.proofs.lemmas.Fn.{always_returns_same}
use Rattle.parcel.specs.Parcels.{note_tick, note_packet}
use Rattle.parcel.proofs.InOrder.{permuted-differ, sorted-in_order}
use Rattle.parcel.proofs.parcel.Parcel.in_order.Goals as goal

pub returns-clause-rises : goal.returns-clause-rises
returns-clause-rises c =
    sorted-in_order note_tick note_packet c.sort_unstable_by_key.new.self.items
    (c.sort_unstable_by_key.ensures.sorted (λ n. (note_tick n, note_packet n)) (always_returns_same _ _ _ (λ a r f k. search rules)))
    (permuted-differ note_packet c.args.notes.items c.sort_unstable_by_key.new.self.items c.requires
    c.sort_unstable_by_key.ensures.permutation)
