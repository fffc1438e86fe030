-- Lines of pipes have no fault if and only if they say owners, each of a pipe and a core that there are, and of no pipe twice.
use Rattle.std.proofs.Common.{◌≡◌, ◌≢◌, ◌<◌, ◌+◌, ℕ, Bool, true, false, cond, not, nat_lt, List, [], ◌∷◌, ◌++◌, length, All, AllPairs, Option, Some, None, refl, sym, ap, ◌∙◌, subst, subst₂, arith, append_assoc, append-nil, length-append}
use Rattle.std.specs.Option.{option_map_or, option_or}
use Rattle.std.specs.List.{AllZip}
use Rattle.std.proofs.lemmas.Bool.{ltb-true, lt-ltb}
use Rattle.std.proofs.lemmas.List.Elements.{All-push, All-nil}
use Rattle.std.proofs.lemmas.List.{get_or-append-add, get_or_append_left}
use Rattle.mn_base.specs.Lines.{first_line_fault}
use Rattle.changes.proofs.Lists.{AllPairs-push, AllZip-push}
use Rattle.ownership.specs.declared.faults.AssignFault.TheVariants.{Line, Core, Twice}
use Rattle.ownership.specs.Owned.{Owned, is_owned}
use Rattle.ownership.specs.Texts.{owned_of}
use Rattle.ownership.specs.Reading.{SaysOwner, AreOwnerLines}
use Rattle.ownership.specs.Faults.{fault_of_owned, owner_line_fault, said_by, owner_fault}
use Rattle.ownership.proofs.Finds.{each_other, not_owned}

-- what lines say, again
pub said_back : (lines : List (List ℕ)) (owned : List Owned) → AllZip SaysOwner lines owned → said_by lines ≡ owned
said_back [] [] all = refl
said_back [] (o ∷ os) all = absurd all
said_back (l ∷ ls) [] all = absurd all
said_back (l ∷ ls) (o ∷ os) all = rw (all.0, said_back ls os all.1) refl

-- ---- a line's three tests
pub record Passes (pipes cores : ℕ) (has_owner : ℕ → Bool) (o : Owned) : Type 0 where
  pub pipe : o.pipe < pipes
  pub core : o.core < cores
  pub free : has_owner o.pipe ≡ false

three : (n : ℕ) (a b c : Bool)
    → cond (not a) (Some (Line n)) (cond (not b) (Some (Core n)) (cond c (Some (Twice n)) None)) ≡ None
    → (a ≡ true) × (b ≡ true) × (c ≡ false)
three n true true false none = (refl, refl, refl)
three n true true true none = cc
three n true false c none = cc
three n false b c none = cc

pub passes_from_none : (pipes cores n : ℕ) (has_owner : ℕ → Bool) (o : Owned) → fault_of_owned pipes cores n has_owner o ≡ None
    → Passes pipes cores has_owner o
passes_from_none pipes cores n has_owner o none =
    let tests = three n (nat_lt o.pipe pipes) (nat_lt o.core cores) (has_owner o.pipe) none in
    record { pipe = ltb-true o.pipe pipes tests.0; core = ltb-true o.core cores tests.1; free = tests.2 }

pub none_from_passes : (pipes cores n : ℕ) (has_owner : ℕ → Bool) (o : Owned) → Passes pipes cores has_owner o
    → fault_of_owned pipes cores n has_owner o ≡ None
none_from_passes pipes cores n has_owner o passes =
    rw (lt-ltb o.pipe pipes passes.pipe, lt-ltb o.core cores passes.core, passes.free) refl

pub says_and_passes : (pipes cores n : ℕ) (has_owner : ℕ → Bool) (line : List ℕ) (o : Owned) → owned_of line ≡ Some o
    → owner_line_fault pipes cores n has_owner line ≡ None → Passes pipes cores has_owner o
says_and_passes pipes cores n has_owner line o says none =
    passes_from_none pipes cores n has_owner o
    (subst (λ (x : Option Owned). option_map_or (fault_of_owned pipes cores n has_owner) x (Some (Line n)) ≡ None) says none)

said_without_fault : (pipes cores n : ℕ) (has_owner : ℕ → Bool) (line : List ℕ) → owner_line_fault pipes cores n has_owner line ≡ None
    → (o : Owned) × (owned_of line ≡ Some o) × Passes pipes cores has_owner o
said_without_fault pipes cores n has_owner line none = go (owned_of line) refl none
  where
    go : (x : Option Owned) → owned_of line ≡ x → option_map_or (fault_of_owned pipes cores n has_owner) x (Some (Line n)) ≡ None
        → (o : Owned) × (owned_of line ≡ Some o) × Passes pipes cores has_owner o
    go None is none = cc
    go (Some o) is none = (o, is, passes_from_none pipes cores n has_owner o none)

-- ---- lines without faults
-- a line that passes the tests may be pushed
pub push_line : (pipes cores : ℕ) (lines : List (List ℕ)) (owned : List Owned) (line : List ℕ) (o : Owned)
    → AreOwnerLines pipes cores lines owned → owned_of line ≡ Some o → Passes pipes cores (is_owned owned) o
    → AreOwnerLines pipes cores (lines ++ line ∷ []) (owned ++ o ∷ [])
push_line pipes cores lines owned line o are says passes = record {
  say = AllZip-push SaysOwner lines owned line o are.say says;
  pipes_are = All-push (λ p. p.pipe < pipes) owned o are.pipes_are passes.pipe;
  cores_are = All-push (λ p. p.core < cores) owned o are.cores_are passes.core;
  once = AllPairs-push (λ p q. p.pipe ≢ q.pipe) owned o are.once (each_other owned o.pipe passes.free);
}

pub no_lines : (pipes cores : ℕ) → AreOwnerLines pipes cores [] []
no_lines pipes cores = record {
  say = tt;
  pipes_are = All-nil (λ p. p.pipe < pipes);
  cores_are = All-nil (λ p. p.core < cores);
  once = λ i j d lt within. absurd (omega arith);
}

both_none : {F : Type 0} (a b : Option F) → option_or a b ≡ None → (a ≡ None) × (b ≡ None)
both_none None b none = (refl, none)
both_none (Some f) b none = cc

pub record SaidBy (pipes cores : ℕ) (lines : List (List ℕ)) : Type 0 where
  pub owned : List Owned
  pub are : AreOwnerLines pipes cores lines owned

-- without a fault the lines say owners
pub owners_said : (pipes cores : ℕ) (before lines : List (List ℕ)) (owned : List Owned) → AreOwnerLines pipes cores before owned
    → first_line_fault (owner_fault pipes cores) before lines ≡ None → SaidBy pipes cores (before ++ lines)
owners_said pipes cores before [] owned are none =
    record { owned = owned; are = subst (λ (ls : List (List ℕ)). AreOwnerLines pipes cores ls owned) (sym (append-nil before)) are }
owners_said pipes cores before (line ∷ lines) owned are none =
    let parts = both_none (owner_fault pipes cores before line) (first_line_fault (owner_fault pipes cores) (before ++ line ∷ []) lines) none in
    let said = said_without_fault pipes cores (2 + length before) (is_owned (said_by before)) line parts.0 in
    let passes : Passes pipes cores (is_owned owned) said.0 =
    subst (λ (os : List Owned). Passes pipes cores (is_owned os) said.0) (said_back before owned are.say) said.2 in
    subst (λ (ls : List (List ℕ)). SaidBy pipes cores ls) (append_assoc before (line ∷ []) lines)
    (owners_said pipes cores (before ++ line ∷ []) lines (owned ++ said.0 ∷ []) (push_line pipes cores before owned line said.0 are said.1 passes) parts.1)

-- lines that say owners have no fault
pub no_fault : (pipes cores : ℕ) (before : List (List ℕ)) (owned : List Owned) (lines : List (List ℕ)) (more : List Owned)
    → AllZip SaysOwner before owned → AllZip SaysOwner lines more → All (λ o. o.pipe < pipes) (owned ++ more)
    → All (λ o. o.core < cores) (owned ++ more) → AllPairs (λ o p. o.pipe ≢ p.pipe) (owned ++ more)
    → first_line_fault (owner_fault pipes cores) before lines ≡ None
no_fault pipes cores before owned [] [] said say pipes_are cores_are once = refl
no_fault pipes cores before owned [] (o ∷ os) said say pipes_are cores_are once = absurd say
no_fault pipes cores before owned (l ∷ ls) [] said say pipes_are cores_are once = absurd say
no_fault pipes cores before owned (l ∷ ls) (o ∷ os) said say pipes_are cores_are once =
    let grown : (owned ++ o ∷ []) ++ os ≡ owned ++ o ∷ os = append_assoc owned (o ∷ []) os in
    let later : first_line_fault (owner_fault pipes cores) (before ++ l ∷ []) ls ≡ None =
    no_fault pipes cores (before ++ l ∷ []) (owned ++ o ∷ []) ls os
    (AllZip-push SaysOwner before owned l o said say.0) say.1
    (subst (λ (xs : List Owned). All (λ p. p.pipe < pipes) xs) (sym grown) pipes_are)
    (subst (λ (xs : List Owned). All (λ p. p.core < cores) xs) (sym grown) cores_are)
    (subst (λ (xs : List Owned). AllPairs (λ p q. p.pipe ≢ q.pipe) xs) (sym grown) once) in
    rw (here, later) refl
  where
    inside : length owned + 0 < length (owned ++ o ∷ os)
    inside = omega (arith, length-append owned (o ∷ os))

    others : All (λ p. p.pipe ≢ o.pipe) owned
    others = λ k d within.
        subst₂ (λ (p q : Owned). p.pipe ≢ q.pipe)
        (get_or_append_left owned (o ∷ os) d k within)
        (get_or-append-add owned (o ∷ os) 0 d)
        (once k (length owned + 0) d (omega arith) inside)

    passes : Passes pipes cores (is_owned (said_by before)) o
    passes = record {
      pipe = subst (λ (x : Owned). x.pipe < pipes) (get_or-append-add owned (o ∷ os) 0 o) (pipes_are (length owned + 0) o inside);
      core = subst (λ (x : Owned). x.core < cores) (get_or-append-add owned (o ∷ os) 0 o) (cores_are (length owned + 0) o inside);
      free = ap (λ (xs : List Owned). is_owned xs o.pipe) (said_back before owned said) ∙ not_owned owned o.pipe others;
    }

    here : owner_fault pipes cores before l ≡ None
    here = rw say.0 (none_from_passes pipes cores (2 + length before) (is_owned (said_by before)) o passes)
