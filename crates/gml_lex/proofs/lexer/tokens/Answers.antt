use Rattle.std.proofs.Common.{sym, ◌∙◌, ap, refl, subst, arith}
use Rattle.gml_lex.proofs.PieceLengths.{fits_at}
use Rattle.gml_lex.proofs.Lexed.{Lexed, Lexed-push, Lexed-end, Lexed-fault}
use Rattle.gml_lex.proofs.OneReading as readings
use Rattle.gml_lex.specs.declared.faults.LexFault.{LexFault}
use Rattle.gml_lex.proofs.lexer.tokens.Goals as goal

pub push_token-requires : goal.push_token-requires
push_token-requires c =
    let fits = fits_at c.loop-rest.rest.now c.in-Some.piece (sym c.in-Some.ensures) in
    omega (arith, fits.most, c.loop-rest.invariant.behind)

pub split_at-requires : goal.split_at-requires
split_at-requires c = (fits_at c.loop-rest.rest.now c.in-Some.piece (sym c.in-Some.ensures)).most

pub loop-rest-smaller : goal.loop-rest-smaller
loop-rest-smaller c =
    let fits = fits_at c.loop-rest.rest.now c.in-Some.piece (sym c.in-Some.ensures) in
    omega (arith, fits.least, c.split_at.ensures.back_len)

pub loop-rest-preserved : goal.loop-rest-preserved
loop-rest-preserved c =
    subst (λ r. Lexed c.args.text.now r c.push_token.new.tokens.items) (sym c.split_at.ensures.back)
    (Lexed-push c.push_token.new.tokens.items c.in-Some.piece _ c.loop-rest.invariant c.in-Some.ensures refl c.in_ok-push_token.ensures)

-- where a fault was met there are no tokens, and no other fault
pub returns-in_default-clause-only_tokens : goal.returns-in_default-clause-only_tokens
returns-in_default-clause-only_tokens c tokens are =
    let here =
    Lexed-fault c.loop-rest.invariant (sym c.is_empty.ensures ∙ c.loop-rest-test.true) (sym c.in_default.is ∙ c.at_front.ensures) in
    readings.never_both c.args.text.now tokens _ are here

pub returns-in_default-clause-only_fault : goal.returns-in_default-clause-only_fault
returns-in_default-clause-only_fault c fault there =
    let here =
    Lexed-fault c.loop-rest.invariant (sym c.is_empty.ensures ∙ c.loop-rest-test.true) (sym c.in_default.is ∙ c.at_front.ensures) in
    ap (λ place. let at : LexFault = record { place = place } in at) (readings.one_fault c.args.text.now _ fault.place here there)

-- where all tokens were read there are no others, and no fault
pub returns-clause-only_tokens : goal.returns-clause-only_tokens
returns-clause-only_tokens c tokens are =
    let read = Lexed-end c.loop-rest.invariant (sym c.is_empty.ensures ∙ c.loop-rest-test.false) in
    readings.one_reading c.args.text.now _ tokens read are

pub returns-clause-only_fault : goal.returns-clause-only_fault
returns-clause-only_fault c fault there =
    let read = Lexed-end c.loop-rest.invariant (sym c.is_empty.ensures ∙ c.loop-rest-test.false) in
    readings.never_both c.args.text.now _ fault.place read there
