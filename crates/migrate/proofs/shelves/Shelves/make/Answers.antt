use Rattle.std.proofs.Common.{◌+◌, ℕ, List, slice_set, slice_index, length-set, sym, ◌∙◌, subst, arith}
use Rattle.journal.specs.declared.visit.Visit.{Visit}
use Rattle.journal.specs.Hops.{pipe_of}
use Rattle.migrate.specs.ShelvesView.{ShelfView, ShelvesView}
use Rattle.migrate.specs.Running.{ChangesAt, PutsDue, IsHeadOf, RunsOn, HasRunBefore}
use Rattle.migrate.specs.Inside.{shelves_view}
use Rattle.migrate.proofs.Made.{ToMake, IsMade, due-known, due-within, plan-core, core-within, made-room, first-here, few-here, comes-here}
use Rattle.migrate.proofs.Made.{count-within, count-room, next-tick, next-alone, runs-put, held-there, runs-settle}
use Rattle.migrate.proofs.shelves.Shelves.make.Goals as goal
use Rattle.migrate.proofs.shelves.Shelves.make.Goals.{After-plan_of-plan, After-count}

pub plan_of-plan-requires : goal.plan_of-plan-requires
plan_of-plan-requires c =
    let q = c.requires.runs in
    let r = subst (RunsOn q.0 q.1) (sym c.self.view_is) q.2 in
    due-known c.self.invariant.is_setup r.after
    (subst (λ (w : ShelvesView). IsHeadOf w.shelves c.args.head) (sym c.self.view_is) c.requires.first)

-- the visit that is to be made, after whatever visits the run has made
to-make : (c : After-plan_of-plan) → {bytes : List (List ℕ)} {J : List Visit} → RunsOn bytes J (shelves_view c.self.inside)
    → ToMake (shelves_view c.self.inside) bytes J c.args.head c.plan_of-plan.result
to-make c r = record {
  is = c.self.invariant.is_setup;
  runs = r;
  first = subst (λ (w : ShelvesView). IsHeadOf w.shelves c.args.head) (sym c.self.view_is) c.requires.first;
  known = c.plan_of-plan.ensures.known;
  number = c.plan_of-plan.ensures.number;
}

-- after those that it is known to have made
here : (c : After-plan_of-plan)
    → ToMake (shelves_view c.self.inside) c.requires.runs.0 c.requires.runs.1 c.args.head c.plan_of-plan.result
here c =
    let q = c.requires.runs in
    to-make c (subst (RunsOn q.0 q.1) (sym c.self.view_is) q.2)

pub pipe_at-pipe-requires-clause-within : goal.pipe_at-pipe-requires-clause-within
pipe_at-pipe-requires-clause-within c = due-within (here c)

pub index_mut-requires : goal.index_mut-requires
index_mut-requires c =
    let k = here (goal.at.index_mut-requires c).After-plan_of-plan in
    omega (arith, core-within k, c.self.inside.shelves.ok.0)

pub visit-requires-clause-first : goal.visit-requires-clause-first
visit-requires-clause-first c = first-here (here (goal.at.visit-requires-clause-first c).After-plan_of-plan) c.index_mut.ensures.value

pub visit-requires-clause-comes : goal.visit-requires-clause-comes
visit-requires-clause-comes c =
    let k = here (goal.at.visit-requires-clause-comes c).After-plan_of-plan in
    (c.requires.runs.1, comes-here k c.pipe_at-pipe.ensures.pipe c.index_mut.ensures.value)

pub visit-requires-clause-few : goal.visit-requires-clause-few
visit-requires-clause-few c = few-here (here (goal.at.visit-requires-clause-few c).After-plan_of-plan) c.index_mut.ensures.value

pub index_mut-requires-2 : goal.index_mut-requires-2
index_mut-requires-2 c =
    let k = here (goal.at.index_mut-requires-2 c).After-plan_of-plan in
    omega (arith, count-within k c.pipe_at-pipe.ensures.pipe, c.self.inside.counts.ok.0)

pub count-requires : goal.count-requires
count-requires c =
    let k = here (goal.at.count-requires c).After-plan_of-plan in
    count-room k c.pipe_at-pipe.ensures.pipe c.index_mut-2.ensures.value

pub overflow_add-self : goal.overflow_add-self
overflow_add-self c =
    let m = made-room (here (goal.at.overflow_add-self c).After-plan_of-plan) in
    omega (arith, m)

pub next_due-requires-clause-within : goal.next_due-requires-clause-within
next_due-requires-clause-within c = due-within (here (goal.at.next_due-requires-clause-within c).After-plan_of-plan)

-- the visit as it is made
made : (c : After-count)
    → IsMade (shelves_view c.self.inside) c.args.head c.plan_of-plan.result c.pipe_at-pipe.result c.visit.new.self c.in_ok-step.step
    c.count.new.counts
made c = record {
  pipe_is = c.pipe_at-pipe.ensures.pipe;
  shelf_was = c.index_mut.result.now;
  shelf_read = c.index_mut.ensures.value;
  visits = c.in_ok-step.ensures.visits;
  step_is = c.in_ok-step.ensures.step;
  count_was = c.index_mut-2.result.now;
  count_read = c.index_mut-2.ensures.value;
  count_is = c.count.ensures;
}

-- the run with it, once what follows it has changed the shelves, too
abbrev after : After-count → List ShelfView → ShelvesView
after c shelves = record (shelves_view c.self.inside) {
  counts = slice_set c.self.inside.counts.items c.pipe_at-pipe.result c.count.new.counts;
  shelves = shelves;
  made = c.self.inside.made + 1;
}

pub put_due-requires-clause-alone : goal.put_due-requires-clause-alone
put_due-requires-clause-alone c =
    let at = goal.at.put_due-requires-clause-alone c in
    next-alone (here at.After-plan_of-plan) (made at.After-count) (sym c.next_due.ensures ∙ c.in-Some.is)

pub put_due-requires-clause-tick : goal.put_due-requires-clause-tick
put_due-requires-clause-tick c =
    let at = goal.at.put_due-requires-clause-tick c in
    next-tick (here at.After-plan_of-plan) (made at.After-count) (sym c.next_due.ensures ∙ c.in-Some.is)

pub settle-requires-clause-core : goal.settle-requires-clause-core
settle-requires-clause-core c =
    let k = here (goal.at.settle-requires-clause-core c).After-plan_of-plan in
    omega (arith, plan-core k, length-set c.self.inside.shelves.items c.args.head.core c.visit.new.self)

pub settle-requires-clause-held : goal.settle-requires-clause-held
settle-requires-clause-held c =
    let at = goal.at.settle-requires-clause-held c in
    held-there (here at.After-plan_of-plan) (made at.After-count) (sym c.next_due.ensures ∙ c.in-None.is)

pub returns-in_ok-put_due-in-Some-clause-run : goal.returns-in_ok-put_due-in-Some-clause-run
returns-in_ok-put_due-in-Some-clause-run c =
    let at = goal.at.returns-in_ok-put_due-in-Some-clause-run c in
    let put =
    subst (λ (l : List ℕ). ChangesAt (slice_index l (pipe_of c.self.inside.setup.now c.in-Some.next)) (PutsDue c.in-Some.next)
    (slice_set c.self.inside.shelves.items c.args.head.core c.visit.new.self) c.put_due.new.shelves.items)
    c.deref.ensures.value c.in_ok-put_due-in-Some.ensures in
    subst (λ (w : ShelvesView). HasRunBefore (c.args.head.due.tick + 1) w (after at.After-count c.put_due.new.shelves.items))
    c.self.view_is
    (λ bytes J r. runs-put (to-make at.After-plan_of-plan r) (made at.After-count) (sym c.next_due.ensures ∙ c.in-Some.is) put)

pub returns-in_ok-settle-in-None-clause-run : goal.returns-in_ok-settle-in-None-clause-run
returns-in_ok-settle-in-None-clause-run c =
    let at = goal.at.returns-in_ok-settle-in-None-clause-run c in
    subst (λ (w : ShelvesView). HasRunBefore (c.args.head.due.tick + 1) w (after at.After-count c.settle.new.shelves.items))
    c.self.view_is
    (λ bytes J r. runs-settle (to-make at.After-plan_of-plan r) (made at.After-count) (sym c.next_due.ensures ∙ c.in-None.is)
    c.fate_by.ensures c.in_ok-settle-in-None.ensures)
