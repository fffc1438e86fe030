use Rattle.std.proofs.Common.{length, sym, ◌∙◌, ap, arith}
use Rattle.gml_lex.specs.declared.kinds.TokenKind.TheVariants.{Key}
use Rattle.gml_lex.specs.declared.kinds.Token.{Token}
use Rattle.gml_reader.proofs.FirstPairs.{no_pair, Opens, closes}
use Rattle.gml_reader.proofs.walk.FirstPair.of.Goals as goal

no_token : Token
no_token = record { kind = Key; start = 0; end = 0 }

pub returns-then-tokens-lt2-clause-first : goal.returns-then-tokens-lt2-clause-first
returns-then-tokens-lt2-clause-first c = λ len t l same. no_pair t c.args.tokens.now same c.if-tokens-lt2.true

pub returns-in_err-rest-clause-first : goal.returns-in_err-rest-clause-first
unfolding no_token
returns-in_err-rest-clause-first c = λ len t l same.
    let open_list : Opens c.args.tokens.now no_token c.split_at.result.1.now c.list_end.result = record {
      some = c.if-tokens-lt2.false;
      opens = c.in-Left.is;
      behind_is = c.split_at.ensures.back;
      end_is = c.list_end.ensures.value;
    } in
    let closed = closes {len = len} {t = t} l same open_list in
    absurd (omega (arith, closed.closed, ap length c.split_at-2.ensures.back, c.in_err-rest.ensures.cases))

pub returns-clause-first : goal.returns-clause-first
unfolding no_token
returns-clause-first c = λ len t l same.
    let open_list : Opens c.args.tokens.now no_token c.split_at.result.1.now c.list_end.result = record {
      some = c.if-tokens-lt2.false;
      opens = c.in-Left.is;
      behind_is = c.split_at.ensures.back;
      end_is = c.list_end.ensures.value;
    } in
    let closed = closes {len = len} {t = t} l same open_list in
    closed.pair c.split_at-2.result.0 c.in_ok-rest.rest _ c.split_at-2.ensures.front
    (sym c.split_at-2.ensures.back ∙ c.in_ok-rest.ensures.cases.0)
