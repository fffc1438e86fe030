-- Lines of pipes that are read one by one: which were read, and which are left.
use Rattle.std.proofs.Common.{◌≡◌, ◌<◌, ◌+◌, ℕ, zero, suc, ⊎_elim, Bool, true, false, nat_lt, List, [], ◌∷◌, ◌++◌, length, get_or, set, Option, Some, None, refl, sym, ap, ◌∙◌, subst, arith, append_assoc, append-nil, length-append}
use Rattle.std.specs.Prelude.{replicate}
use Rattle.std.specs.Option.{option_map_or, option_or}
use Rattle.std.proofs.lemmas.Bool.{ltb-true, cases_Bool}
use Rattle.mn_base.specs.Lines.{first_line_fault}
use Rattle.ownership.specs.declared.faults.AssignFault.{AssignFault}
use Rattle.ownership.specs.declared.faults.AssignFault.TheVariants.{Line}
use Rattle.ownership.specs.Owned.{Owned, is_owned}
use Rattle.ownership.specs.Texts.{owned_of}
use Rattle.ownership.specs.Reading.{AreOwnerLines}
use Rattle.ownership.specs.Owners.{has_owner, AreOwners, SayOwners}
use Rattle.ownership.specs.Faults.{fault_of_owned, owner_line_fault, said_by, owner_fault}
use Rattle.ownership.proofs.Finds.{has_owner_is, owners_more, none_owned}
use Rattle.ownership.proofs.NoFault.{said_back, Passes, push_line, no_lines, says_and_passes}

-- the lines before those that are left say these owners, and have no fault
pub record IsReading (pipes cores : ℕ) (lines left : List (List ℕ)) (owners : List (Option ℕ)) : Type 0 where
  pub before : List (List ℕ)
  pub owned : List Owned
  pub split : lines ≡ before ++ left
  pub are : AreOwnerLines pipes cores before owned
  pub owners_are : AreOwners pipes owned owners
  pub faults : first_line_fault (owner_fault pipes cores) [] lines ≡ first_line_fault (owner_fault pipes cores) before left

-- two tests that agree on all pipes tell the same fault
same_tests : (pipes cores n : ℕ) (p q : ℕ → Bool) (line : List ℕ) → ((k : ℕ) → k < pipes → p k ≡ q k)
    → owner_line_fault pipes cores n p line ≡ owner_line_fault pipes cores n q line
same_tests pipes cores n p q line same = by_form (owned_of line)
  where
    by_form : (x : Option Owned)
        → option_map_or (fault_of_owned pipes cores n p) x (Some (Line n)) ≡ option_map_or (fault_of_owned pipes cores n q) x (Some (Line n))
    by_form None = refl
    by_form (Some o) =
        ⊎_elim
        (λ (yes : nat_lt o.pipe pipes ≡ true).
        rw (same o.pipe (ltb-true o.pipe pipes yes)) refl)
        (λ (no : nat_lt o.pipe pipes ≡ false). rw no refl)
        (cases_Bool (nat_lt o.pipe pipes))

-- the fault of the next line, told by the owners so far
next_fault : (pipes cores n : ℕ) (before : List (List ℕ)) (owned : List Owned) (owners : List (Option ℕ)) (line : List ℕ)
    → AreOwnerLines pipes cores before owned → AreOwners pipes owned owners → n ≡ 2 + length before
    → owner_fault pipes cores before line ≡ owner_line_fault (length owners) cores n (has_owner owners) line
next_fault pipes cores n before owned owners line are owners_are number =
    ap (λ k. owner_line_fault pipes cores k (is_owned (said_by before)) line) (sym number)
    ∙ ap (λ (os : List Owned). owner_line_fault pipes cores n (is_owned os) line) (said_back before owned are.say)
    ∙ sym (same_tests pipes cores n (has_owner owners) (is_owned owned) line (has_owner_is pipes owned owners owners_are))
    ∙ ap (λ k. owner_line_fault k cores n (has_owner owners) line) (sym owners_are.len)

-- how many lines were read
pub record HasRead (pipes cores n : ℕ) (lines left : List (List ℕ)) (owners : List (Option ℕ)) : Type 0 where
  pub reading : IsReading pipes cores lines left owners
  pub number : n ≡ 2 + length reading.before

pub nothing_read : (pipes cores : ℕ) (lines : List (List ℕ)) (owners : List (Option ℕ)) → length owners ≡ pipes
    → ((q : ℕ) → get_or owners q None ≡ None) → HasRead pipes cores 2 lines lines owners
nothing_read pipes cores lines owners len none = record {
  reading = record {
    before = [];
    owned = [];
    split = refl;
    are = no_lines pipes cores;
    owners_are = none_owned pipes owners len none;
    faults = refl;
  };
  number = refl;
}

-- this line is the next, and these are left after it
pub record IsNextLine (pipes cores n : ℕ) (lines left : List (List ℕ)) (line : List ℕ) (owners : List (Option ℕ)) : Type 0 where
  pub now : List (List ℕ)
  pub has : HasRead pipes cores n lines now owners
  pub split : now ≡ line ∷ left

-- the next line says an owner and has no fault
pub one_read : (pipes cores n : ℕ) (lines left : List (List ℕ)) (line : List ℕ) (owners : List (Option ℕ)) (o : Owned)
    → IsNextLine pipes cores n lines left line owners
    → owned_of line ≡ Some o → owner_line_fault (length owners) cores n (has_owner owners) line ≡ None
    → HasRead pipes cores (n + 1) lines left (set owners o.pipe (Some o.core))
one_read pipes cores n lines left line owners o next_line says none = record { reading = next; number = number }
  where
    r : IsReading pipes cores lines next_line.now owners
    r = next_line.has.reading

    fault_none : owner_fault pipes cores r.before line ≡ None
    fault_none = next_fault pipes cores n r.before r.owned owners line r.are r.owners_are next_line.has.number ∙ none

    passes : Passes pipes cores (is_owned r.owned) o
    passes =
        says_and_passes pipes cores (2 + length r.before) (is_owned r.owned) line o says
        (subst (λ (os : List Owned). owner_line_fault pipes cores (2 + length r.before) (is_owned os) line ≡ None)
        (said_back r.before r.owned r.are.say) fault_none)

    next : IsReading pipes cores lines left (set owners o.pipe (Some o.core))
    next = record {
      before = r.before ++ line ∷ [];
      owned = r.owned ++ o ∷ [];
      split = r.split ∙ ap (λ (ls : List (List ℕ)). r.before ++ ls) next_line.split ∙ sym (append_assoc r.before (line ∷ []) left);
      are = push_line pipes cores r.before r.owned line o r.are says passes;
      owners_are = owners_more pipes r.owned owners o r.owners_are passes.pipe passes.free;
      faults =
          r.faults
          ∙ ap (λ (ls : List (List ℕ)). first_line_fault (owner_fault pipes cores) r.before ls) next_line.split
          ∙ ap (λ (x : Option AssignFault). option_or x (first_line_fault (owner_fault pipes cores) (r.before ++ line ∷ []) left)) fault_none;
    }

    number : n + 1 ≡ 2 + length (r.before ++ line ∷ [])
    number = omega (arith, next_line.has.number, length-append r.before (line ∷ []))

-- a fault of the next line is the first
pub first_fault_read : (pipes cores n : ℕ) (lines left : List (List ℕ)) (line : List ℕ) (owners : List (Option ℕ)) (fault : AssignFault)
    → IsNextLine pipes cores n lines left line owners
    → owner_line_fault (length owners) cores n (has_owner owners) line ≡ Some fault
    → first_line_fault (owner_fault pipes cores) [] lines ≡ Some fault
first_fault_read pipes cores n lines left line owners fault next_line faulty =
    let r : IsReading pipes cores lines next_line.now owners = next_line.has.reading in
    r.faults
    ∙ ap (λ (ls : List (List ℕ)). first_line_fault (owner_fault pipes cores) r.before ls) next_line.split
    ∙ ap (λ (x : Option AssignFault). option_or x (first_line_fault (owner_fault pipes cores) (r.before ++ line ∷ []) left))
    (next_fault pipes cores n r.before r.owned owners line r.are r.owners_are next_line.has.number ∙ faulty)

pub all_read : (pipes cores n : ℕ) (lines now : List (List ℕ)) (owners : List (Option ℕ)) → HasRead pipes cores n lines now owners → now ≡ []
    → SayOwners pipes cores lines owners
all_read pipes cores n lines now owners has none =
    let r : IsReading pipes cores lines now owners = has.reading in
    let split : lines ≡ r.before = r.split ∙ ap (λ (ls : List (List ℕ)). r.before ++ ls) none ∙ append-nil r.before in
    record {
      owned = r.owned;
      are = subst (λ (ls : List (List ℕ)). AreOwnerLines pipes cores ls r.owned) (sym split) r.are;
      owners_are = r.owners_are;
      faultless = r.faults ∙ ap (λ (ls : List (List ℕ)). first_line_fault (owner_fault pipes cores) r.before ls) none;
    }

none_at : (n q : ℕ) → (let nones : List (Option ℕ) = replicate n None in get_or nones q None ≡ None)
none_at zero q = refl
none_at (suc n) zero = refl
none_at (suc n) (suc q) = none_at n q

-- where each is none, none is read
pub none_of_replicate : (n : ℕ) (owners : List (Option ℕ)) → owners ≡ replicate n None → (q : ℕ) → get_or owners q None ≡ None
none_of_replicate n owners is q = ap (λ (os : List (Option ℕ)). get_or os q None) is ∙ none_at n q
