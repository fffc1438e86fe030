use Rattle.std.proofs.Common.{◌≡◌, sym, ◌∙◌, arith, rules}
use Rattle.std.proofs.lemmas.Result.{err_from_is_err_and}
use Rattle.journal.specs.Journal.{journal_of}
use Rattle.journal_check.specs.Texts.{journal_head, visit_line}
use Rattle.journal_check.proofs.Going.{at_some, at_none, none_left, some_left, head_refused, at_start, visit_refused, at_next, at_few, at_end, at_count, fault_behind_all}
use Rattle.journal_check.proofs.checking.compare.Goals as goal

pub returns-in_err-rest-clause-fault : goal.returns-in_err-rest-clause-fault
returns-in_err-rest-clause-fault c =
    let line : c.as_bytes.result.now ≡ journal_head = search rules in
    let p = err_from_is_err_and c.from_residual-in_err-rest.result c.from_residual-in_err-rest.ensures.1 in
    rw (p.1, p.2) (head_refused (journal_of c.args.setup.now) c.as_bytes.result.now c.args.text.now c.in_err-rest.field-0.0 line
    c.in_err-rest.ensures.fault)

pub loop-line-init : goal.loop-line-init
loop-line-init c =
    let line : c.as_bytes.result.now ≡ journal_head = search rules in
    at_start c.in_ok-visits.ensures.setup c.in_ok-visits.ensures.none_made line c.in_ok-rest.ensures.behind

pub overflow_add-count : goal.overflow_add-count
overflow_add-count c = omega (arith, at_few c.loop-line.invariant c.requires.bytes)

pub behind_line-requires-in-Some : goal.behind_line-requires-in-Some
behind_line-requires-in-Some c = at_few c.loop-line.invariant c.requires.bytes

pub overflow_add-count-in-Some : goal.overflow_add-count-in-Some
overflow_add-count-in-Some c = omega (arith, at_few c.loop-line.invariant c.requires.bytes)

pub overflow_add-result : goal.overflow_add-result
overflow_add-result c = omega (arith, at_few c.loop-line.invariant c.requires.bytes)

pub returns-in_err-rest-2-clause-fault : goal.returns-in_err-rest-2-clause-fault
returns-in_err-rest-2-clause-fault c =
    let line : c.as_bytes-in-Some.result.now ≡ visit_line c.in-Some.visit = search rules in
    let goes_on = at_some c.in_ok-visit.field-0 c.in-Some.visit _ c.in-Some.is c.in_ok-visit.ensures.goes_on in
    let p = err_from_is_err_and c.from_residual-in_err-rest-2.result c.from_residual-in_err-rest-2.ensures.1 in
    rw (p.1, p.2) (visit_refused c.loop-line.invariant c.in-Some.visit c.as_bytes-in-Some.result.now c.in_err-rest-2.field-0.0 goes_on line
    c.in_err-rest-2.ensures.fault)

pub loop-line-preserved : goal.loop-line-preserved
loop-line-preserved c =
    let line : c.as_bytes-in-Some.result.now ≡ visit_line c.in-Some.visit = search rules in
    let made = at_some c.in_ok-visit.field-0 c.in-Some.visit _ c.in-Some.is c.in_ok-visit.ensures.made in
    at_next c.loop-line.invariant c.in-Some.visit c.in_ok-visit.ensures.setup made line c.in_ok-rest-2.ensures.behind

pub returns-then-is_empty-clause-right : goal.returns-then-is_empty-clause-right
returns-then-is_empty-clause-right c =
    at_end c.loop-line.invariant (at_none c.in_ok-visit.field-0 _ c.in_default.is c.in_ok-visit.ensures.whole)
    (none_left c.loop-line.rest.now (sym c.is_empty.ensures ∙ c.if-is_empty.true))

pub returns-clause-fault : goal.returns-clause-fault
returns-clause-fault c =
    fault_behind_all c.loop-line.invariant (at_none c.in_ok-visit.field-0 _ c.in_default.is c.in_ok-visit.ensures.whole)
    (some_left c.loop-line.rest.now (sym c.is_empty.ensures ∙ c.if-is_empty.false))

pub returns-then-is_empty-clause-count : goal.returns-then-is_empty-clause-count
returns-then-is_empty-clause-count c =
    at_count c.loop-line.invariant (at_none c.in_ok-visit.field-0 _ c.in_default.is c.in_ok-visit.ensures.whole)
