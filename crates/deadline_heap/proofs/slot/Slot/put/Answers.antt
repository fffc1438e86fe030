use Rattle.std.proofs.Common.{sym, ap, ◌∙◌, subst}
use Rattle.deadline_heap.specs.Entries.{entered, HasNoEntry}
use Rattle.deadline_heap.proofs.Maps.{insert_entry-slot}
use Rattle.deadline_heap.proofs.slot.Slot.put.Goals as goal

pub returns-clause-ok : goal.returns-clause-ok
returns-clause-ok c =
    c.in_ok-insert.ensures.entries
    ∙ insert_entry-slot c.args.packet c.args.hop c.self.inside.hops.entries
    (subst (HasNoEntry c.args.packet) (sym c.self.view_is) c.requires)
    ∙ ap (entered (c.args.packet, c.args.hop)) c.self.view_is
