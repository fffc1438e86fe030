-- One token: what ends a file from it on is what ends the file after it, by the state there.
use Rattle.std.proofs.Common.{◌≡◌, ℕ, List, ◌∷◌, refl, Some, None}
use Rattle.gml_lex.specs.declared.kinds.Token.{Token}
use Rattle.gml_reader.specs.declared.grammar.Wanted.{Wanted}
use Rattle.gml_reader.specs.declared.grammar.Wanted.TheVariants as wanted
use Rattle.gml_reader.specs.States.{after}
use Rattle.gml_reader.proofs.Ends.{Ends}
use Rattle.gml_reader.proofs.ListSteps.{EndsAt, list_to, list_from, list_dead}
use Rattle.gml_reader.proofs.ValueSteps.{value_to, value_from, value_step, value_back, value_dead}

-- an end that begins with the token goes on as the state after it says
pub step_to : (w : Wanted) (d : ℕ) (k : Token) (p : Wanted × ℕ) (rest : List Token) → after w d k.kind ≡ Some p → Ends w d (k ∷ rest)
    → EndsAt p rest
step_to wanted.KeyOrEnd d k p rest e ends = list_to k.kind d k p rest refl e ends
step_to wanted.Value d k p rest e ends = value_step k.kind d k p rest refl e (value_to d k rest ends)

-- and an end after it is one with the token before
pub step_from : (w : Wanted) (d : ℕ) (k : Token) (p : Wanted × ℕ) (rest : List Token) → after w d k.kind ≡ Some p → EndsAt p rest
    → Ends w d (k ∷ rest)
step_from wanted.KeyOrEnd d k p rest e ends = list_from k.kind d k p rest refl e ends
step_from wanted.Value d k p rest e ends = value_from d k rest (value_back k.kind d k p rest refl e ends)

-- where no state is after the token, no end begins with it
pub dead : (w : Wanted) (d : ℕ) (k : Token) (rest : List Token) → after w d k.kind ≡ None → Ends w d (k ∷ rest) → ⊥
dead wanted.KeyOrEnd d k rest e ends = list_dead k.kind d k rest refl e ends
dead wanted.Value d k rest e ends = value_dead k.kind d k rest refl e (value_to d k rest ends)
