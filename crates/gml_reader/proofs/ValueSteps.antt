-- A token where a value is wanted: a plain value, or a Left, and no other.
use Rattle.std.proofs.Common.{◌≡◌, ℕ, suc, List, ◌∷◌, refl, sym, ◌∙◌, subst, inl, inr, Some, None}
use Rattle.gml_lex.specs.declared.kinds.TokenKind.{TokenKind}
use Rattle.gml_lex.specs.declared.kinds.TokenKind.TheVariants as kind
use Rattle.gml_lex.specs.declared.kinds.Token.{Token}
use Rattle.gml_reader.specs.declared.grammar.Wanted.{Wanted}
use Rattle.gml_reader.specs.declared.grammar.Wanted.TheVariants as wanted
use Rattle.gml_reader.specs.Grammar.{IsPlain}
use Rattle.gml_reader.specs.States.{after}
use Rattle.gml_reader.proofs.TokenLists.{head_is, tail_is}
use Rattle.gml_reader.proofs.Ends.{EndsList, EndsAfter, EndsValue}
use Rattle.gml_reader.proofs.ListSteps.{EndsAt, nothing, to_state, from_state}

-- the first token of such an end is the value
pub value_to : (d : ℕ) (k : Token) (rest : List Token) → EndsValue d (k ∷ rest) → EndsAfter d k rest
value_to d k rest ends =
    let token : ends.value ≡ k = sym (head_is k ends.value rest ends.back ends.rest_is) in
    let later : ends.back ≡ rest = sym (tail_is k ends.value rest ends.back ends.rest_is) in
    subst (λ ts. EndsAfter d k ts) later (subst (λ t. EndsAfter d t ends.back) token ends.after)

pub value_from : (d : ℕ) (k : Token) (rest : List Token) → EndsAfter d k rest → EndsValue d (k ∷ rest)
value_from d k rest ends = record { value = k; back = rest; rest_is = refl; after = ends }

-- a token that is no Left is a plain value
plain_of : (kd : TokenKind) (d : ℕ) (k : Token) (rest : List Token) → k.kind ≡ kd → (kd ≡ kind.Left → ⊥) → EndsAfter d k rest
    → IsPlain kd × EndsList d rest
plain_of kd d k rest is no_left ends =
    elim ends [ inl alone ↦ (subst IsPlain is alone.0, alone.1) | inr opened ↦ absurd (no_left (sym is ∙ opened.0)) ]

-- a Left opens a list
left_of : (d : ℕ) (k : Token) (rest : List Token) → k.kind ≡ kind.Left → EndsAfter d k rest → EndsList (suc d) rest
left_of d k rest is ends = elim ends [ inl alone ↦ absurd (subst IsPlain is alone.0) | inr opened ↦ opened.1 ]

-- and a token of a plain kind, before an end, is a plain value
plain_after : (kd : TokenKind) (d : ℕ) (k : Token) (rest : List Token) → k.kind ≡ kd → IsPlain kd → EndsList d rest
    → EndsAfter d k rest
plain_after kd d k rest is simple ends = inl (subst IsPlain (sym is) simple, ends)

-- ---- by the token's kind
-- what follows the value goes on as the state after it says
pub value_step : (kd : TokenKind) (d : ℕ) (k : Token) (p : Wanted × ℕ) (rest : List Token) → k.kind ≡ kd
    → after wanted.Value d kd ≡ Some p → EndsAfter d k rest → EndsAt p rest
value_step kind.Key d k p rest is e ends = nothing p e
value_step kind.Integer d k p rest is e ends =
    to_state (wanted.KeyOrEnd, d) p rest e (plain_of kind.Integer d k rest is (λ f. cc) ends).1
value_step kind.Real d k p rest is e ends =
    to_state (wanted.KeyOrEnd, d) p rest e (plain_of kind.Real d k rest is (λ f. cc) ends).1
value_step kind.Text d k p rest is e ends =
    to_state (wanted.KeyOrEnd, d) p rest e (plain_of kind.Text d k rest is (λ f. cc) ends).1
value_step kind.Left d k p rest is e ends = to_state (wanted.KeyOrEnd, suc d) p rest e (left_of d k rest is ends)
value_step kind.Right d k p rest is e ends = nothing p e

-- and what ends the file after the value ends it with the value before
pub value_back : (kd : TokenKind) (d : ℕ) (k : Token) (p : Wanted × ℕ) (rest : List Token) → k.kind ≡ kd
    → after wanted.Value d kd ≡ Some p → EndsAt p rest → EndsAfter d k rest
value_back kind.Key d k p rest is e ends = nothing p e
value_back kind.Integer d k p rest is e ends =
    plain_after kind.Integer d k rest is tt (from_state (wanted.KeyOrEnd, d) p rest e ends)
value_back kind.Real d k p rest is e ends = plain_after kind.Real d k rest is tt (from_state (wanted.KeyOrEnd, d) p rest e ends)
value_back kind.Text d k p rest is e ends = plain_after kind.Text d k rest is tt (from_state (wanted.KeyOrEnd, d) p rest e ends)
value_back kind.Left d k p rest is e ends = inr (is, from_state (wanted.KeyOrEnd, suc d) p rest e ends)
value_back kind.Right d k p rest is e ends = nothing p e

-- where no state is after the token, it is no value
pub value_dead : (kd : TokenKind) (d : ℕ) (k : Token) (rest : List Token) → k.kind ≡ kd → after wanted.Value d kd ≡ None
    → EndsAfter d k rest → ⊥
value_dead kind.Key d k rest is e ends = (plain_of kind.Key d k rest is (λ f. cc) ends).0
value_dead kind.Integer d k rest is e ends = nothing (wanted.KeyOrEnd, d) (sym e)
value_dead kind.Real d k rest is e ends = nothing (wanted.KeyOrEnd, d) (sym e)
value_dead kind.Text d k rest is e ends = nothing (wanted.KeyOrEnd, d) (sym e)
value_dead kind.Left d k rest is e ends = nothing (wanted.KeyOrEnd, suc d) (sym e)
value_dead kind.Right d k rest is e ends = (plain_of kind.Right d k rest is (λ f. cc) ends).0
