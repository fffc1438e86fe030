use Rattle.std.proofs.Common.{◌≡◌, ◌⊎◌, ◌<◌, ◌^◌, ◌-◌, List, length, slice_index_or, rules, sym, ◌∙◌, subst}
use Rattle.std.specs.Prelude.{◌↔◌}
use Rattle.std.proofs.lemmas.List.{map-id}
use Rattle.std.proofs.lemmas.Iterator.Adapters.{YieldsList-from_vec}
use Rattle.std.proofs.lemmas.Iterator.Consumers.{YieldsList-turn, YieldsList-end}
use Rattle.mn_base.specs.Among.{Among}
use Rattle.mn_base.specs.declared.due.Due.{Due}
use Rattle.migrate.proofs.Inserting.{inserting-none, inserting-alone, inserting-more}
use Rattle.migrate.proofs.due_list.DueList.insert_all.Goals as goal
use Rattle.migrate.proofs.due_list.DueList.insert_all.Goals.{In-Some}

pub loop-due-init : goal.loop-due-init
loop-due-init c = inserting-none c.args.all.items c.args.self.now c.first-first.ensures.canonical

-- the visit that is put in is the next one of the list
next : (c : In-Some) → (length c.loop-due.yielded < length c.args.all.items)
    × (c.in-Some.due ≡ slice_index_or c.args.all.items (length c.loop-due.yielded) c.in-Some.due)
next c =
    let turn =
    YieldsList-turn (YieldsList-from_vec c.args.all.items (search rules) (search rules)) c.loop-due.yielded _ c.loop-due.yielded_by
    _ c.next.new.self c.in-Some.due c.in-Some.is c.next.ensures.steps in
    (turn.0, turn.1)

pub insert-requires-clause-alone : goal.insert-requires-clause-alone
insert-requires-clause-alone c =
    let n = next (goal.at.insert-requires-clause-alone c).In-Some in
    inserting-alone c.loop-due.invariant n.0 n.1 c.requires.apart c.requires.alone

pub insert-requires-clause-tick : goal.insert-requires-clause-tick
insert-requires-clause-tick c =
    let n = next (goal.at.insert-requires-clause-tick c).In-Some in
    let l = c.requires.ticks (length c.loop-due.yielded) c.in-Some.due n.0 in
    subst (λ (d : Due). d.tick < 2 ^ 64 - 1) (sym n.1) l

pub loop-due-preserved : goal.loop-due-preserved
loop-due-preserved c =
    let n = next (goal.at.loop-due-preserved c).In-Some in
    inserting-more c.loop-due.invariant n.0 n.1 c.in_ok-insert.ensures.members c.in_ok-insert.ensures.canonical

pub returns-clause-members : goal.returns-clause-members
returns-clause-members c = λ other.
    let ended =
    YieldsList-end (YieldsList-from_vec c.args.all.items (search rules) (search rules)) c.loop-due.yielded _ c.loop-due.yielded_by
    _ c.next.new.self c.in-None.is c.next.ensures.steps in
    subst (λ (l : List Due). Among other c.loop-due.self ↔ (Among other l ⊎ Among other c.args.self.now))
    (sym (map-id c.loop-due.yielded) ∙ ended.0) (c.loop-due.invariant.members other)

pub returns-clause-canonical : goal.returns-clause-canonical
returns-clause-canonical c = c.loop-due.invariant.canonical
