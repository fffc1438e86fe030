use Rattle.gml_reader.proofs.Checked.{IsNext, IsRead-more, bad_at, deep_at, whole_file, cut_end, value_isnt_key}
use Rattle.gml_reader.proofs.grammar.check.Goals as goal

pub returns-in_default-clause-fault : goal.returns-in_default-clause-fault
returns-in_default-clause-fault c = bad_at _ c.loop-at-test.true c.loop-at.invariant c.in_default.ensures

pub returns-then-deeper-gt-DEPTH_MAX-clause-fault :
    goal.returns-then-deeper-gt-DEPTH_MAX-clause-fault
returns-then-deeper-gt-DEPTH_MAX-clause-fault c =
    let next : IsNext c.args.tokens.now c.loop-at.at _ c.loop-at.wanted c.loop-at.depth c.in-Some.next c.in-Some.deeper =
    record { inside = c.loop-at-test.true; read = c.loop-at.invariant; state = c.in-Some.ensures } in
    deep_at next c.if-deeper-gt-DEPTH_MAX.true

pub loop-at-preserved : goal.loop-at-preserved
loop-at-preserved c =
    let next : IsNext c.args.tokens.now c.loop-at.at _ c.loop-at.wanted c.loop-at.depth c.in-Some.next c.in-Some.deeper =
    record { inside = c.loop-at-test.true; read = c.loop-at.invariant; state = c.in-Some.ensures } in
    IsRead-more next c.if-deeper-gt-DEPTH_MAX.false

pub returns-in-KeyOrEnd-clause-file : goal.returns-in-KeyOrEnd-clause-file
returns-in-KeyOrEnd-clause-file c =
    whole_file c.loop-at-test.false c.loop-at.invariant c.in-KeyOrEnd.is c.if-depth-eq0.true

pub returns-in_default-wanted-clause-fault : goal.returns-in_default-wanted-clause-fault
returns-in_default-wanted-clause-fault c = cut_end c.loop-at-test.false c.loop-at.invariant (λ key none. c.if-depth-eq0.false none)

pub returns-in_default-wanted-2-clause-fault : goal.returns-in_default-wanted-2-clause-fault
returns-in_default-wanted-2-clause-fault c =
    cut_end c.loop-at-test.false c.loop-at.invariant (λ key none. value_isnt_key c.loop-at.wanted c.in_default-wanted.is key)
