use Rattle.std.proofs.Common.{sym, ap, ◌∙◌, subst}
use Rattle.deadline_heap.specs.Canonical.{placed, HasNoneOf}
use Rattle.deadline_heap.specs.Entries.{visits_of_entries}
use Rattle.deadline_heap.proofs.Maps.{insert_entry-visit}
use Rattle.deadline_heap.proofs.later.Later.insert.Goals as goal

pub returns-clause-ok : goal.returns-clause-ok
returns-clause-ok c =
    ap visits_of_entries c.in_ok-insert.ensures.entries
    ∙ insert_entry-visit (c.args.due.tick, c.args.due.packet) c.args.due.hop c.self.inside.hops.entries
    (subst (HasNoneOf c.args.due.packet) (sym c.self.view_is) c.requires)
    ∙ ap (placed c.args.due) c.self.view_is
