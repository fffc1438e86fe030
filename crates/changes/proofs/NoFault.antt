-- Lines of changes have no fault if and only if they say changes of the pipes, within their ranges and in order.
use Rattle.std.proofs.Common.{◌≡◌, ◌<◌, ◌≤◌, ◌+◌, ◌-◌, ℕ, zero, suc, Bool, true, false, List, [], ◌∷◌, ◌++◌, length, get_or, All, AllPairs, Option, Some, None, refl, sym, ap, ◌∙◌, subst, subst₂, arith, append_assoc, append-nil, length-append}
use Rattle.std.specs.Prelude.{option_and_then, slice_get}
use Rattle.std.specs.Option.{option_map_or, option_or}
use Rattle.std.specs.List.{AllZip}
use Rattle.std.proofs.lemmas.List.Elements.{All-push, All-nil}
use Rattle.std.proofs.lemmas.Option.{slice_get-get_or}
use Rattle.std.proofs.lemmas.List.{get_or-append-add, get_or_append_left}
use Rattle.mn_base.specs.Lines.{first_line_fault}
use Rattle.changes.specs.declared.split.Change.{Change}
use Rattle.changes.specs.declared.faults.ChangesFault.{ChangesFault}
use Rattle.changes.specs.declared.faults.ChangesFault.TheVariants.{Line}
use Rattle.changes.specs.Changes.{change_of, IsChange, PrecedesChange, precedes_change}
use Rattle.changes.specs.Faults.{last_change, fault_of_change, change_line_fault, change_fault}
use Rattle.changes.specs.Splits.{SaysChange, AreChangeLines}
use Rattle.changes.proofs.Lists.{AllPairs-push, AllZip-push, AllZip-length}
use Rattle.changes.proofs.Said.{last_said, behind_each, passes_from, Passes, passes_from_none, none_from_passes}

-- a line that passes the tests may be pushed
pub push_line : (pipes : ℕ) (lines : List (List ℕ)) (changes : List Change) (line : List ℕ) (change : Change)
    → AreChangeLines pipes lines changes → change_of line ≡ Some change
    → Passes pipes (slice_get changes (length changes - 1)) change
    → AreChangeLines pipes (lines ++ line ∷ []) (changes ++ change ∷ [])
push_line pipes lines changes line change are says passes = record {
  say = AllZip-push SaysChange lines changes line change are.say says;
  named = All-push (λ c. c.pipe < pipes) changes change are.named passes.named;
  within = All-push IsChange changes change are.within passes.within;
  rise = AllPairs-push PrecedesChange changes change are.rise (behind_each changes change are.rise passes.behind);
}

pub no_lines : (pipes : ℕ) → AreChangeLines pipes [] []
no_lines pipes = record {
  say = tt;
  named = All-nil (λ c. c.pipe < pipes);
  within = All-nil IsChange;
  rise = λ i j d lt within. absurd (omega arith);
}

-- the first of two faults is none
both_none : {F : Type 0} (a b : Option F) → option_or a b ≡ None → (a ≡ None) × (b ≡ None)
both_none None b none = (refl, none)
both_none (Some f) b none = cc

-- a line without a fault says a change that passes
pub said_without_fault : (pipes n : ℕ) (last : Option Change) (line : List ℕ) → change_line_fault pipes n last line ≡ None
    → (change : Change) × (change_of line ≡ Some change) × Passes pipes last change
said_without_fault pipes n last line none = go (change_of line) refl none
  where
    go : (o : Option Change) → change_of line ≡ o → option_map_or (fault_of_change pipes n last) o (Some (Line n)) ≡ None
        → (change : Change) × (change_of line ≡ Some change) × Passes pipes last change
    go None is none = cc
    go (Some change) is none = (change, is, passes_from_none pipes n last change none)

-- the change that a line without a fault says passes
pub says_and_passes : (pipes n : ℕ) (last : Option Change) (line : List ℕ) (change : Change) → change_of line ≡ Some change
    → change_line_fault pipes n last line ≡ None → Passes pipes last change
says_and_passes pipes n last line change says none =
    passes_from_none pipes n last change
    (subst (λ (o : Option Change). option_map_or (fault_of_change pipes n last) o (Some (Line n)) ≡ None) says none)

pub record SaidBy (pipes : ℕ) (lines : List (List ℕ)) : Type 0 where
  pub changes : List Change
  pub are : AreChangeLines pipes lines changes

-- without a fault the lines say changes
pub said_by : (pipes : ℕ) (before lines : List (List ℕ)) (changes : List Change) → AreChangeLines pipes before changes
    → first_line_fault (change_fault pipes) before lines ≡ None → SaidBy pipes (before ++ lines)
said_by pipes before [] changes are none =
    record { changes = changes; are = subst (λ (ls : List (List ℕ)). AreChangeLines pipes ls changes) (sym (append-nil before)) are }
said_by pipes before (line ∷ lines) changes are none =
    let parts = both_none (change_fault pipes before line) (first_line_fault (change_fault pipes) (before ++ line ∷ []) lines) none in
    let said = said_without_fault pipes (pipes + 2 + length before) (last_change before) line parts.0 in
    let passes : Passes pipes (slice_get changes (length changes - 1)) said.0 =
    subst (λ (o : Option Change). Passes pipes o said.0) (last_said before changes are.say) said.2 in
    subst (λ (ls : List (List ℕ)). SaidBy pipes ls) (append_assoc before (line ∷ []) lines)
    (said_by pipes (before ++ line ∷ []) lines (changes ++ said.0 ∷ []) (push_line pipes before changes line said.0 are said.1 passes) parts.1)

-- the change at a place of a longer list comes after the last before it
behind_last : (changes : List Change) (change : Change) (more : List Change) → AllPairs PrecedesChange (changes ++ change ∷ more)
    → option_map_or (λ earlier. precedes_change earlier change) (slice_get changes (length changes - 1)) true ≡ true
behind_last [] change more rise = refl
behind_last (c ∷ cs) change more rise =
    let is : slice_get (c ∷ cs) (length (c ∷ cs) - 1) ≡ Some (get_or (c ∷ cs) (length (c ∷ cs) - 1) c) =
    slice_get-get_or (c ∷ cs) (length (c ∷ cs) - 1) c (omega arith) in
    rw is (passes_from (get_or (c ∷ cs) (length (c ∷ cs) - 1) c) change here)
  where
    here : PrecedesChange (get_or (c ∷ cs) (length (c ∷ cs) - 1) c) change
    here =
        subst₂ PrecedesChange
        (get_or_append_left (c ∷ cs) (change ∷ more) c (length (c ∷ cs) - 1) (omega arith))
        (get_or-append-add (c ∷ cs) (change ∷ more) 0 c)
        (rise (length (c ∷ cs) - 1) (length (c ∷ cs) + 0) c (omega arith) (omega (arith, length-append (c ∷ cs) (change ∷ more))))

-- lines that say changes have no fault
pub no_fault : (pipes : ℕ) (before : List (List ℕ)) (changes : List Change) (lines : List (List ℕ)) (more : List Change)
    → AllZip SaysChange before changes → AllZip SaysChange lines more → All (λ c. c.pipe < pipes) (changes ++ more)
    → All IsChange (changes ++ more) → AllPairs PrecedesChange (changes ++ more)
    → first_line_fault (change_fault pipes) before lines ≡ None
no_fault pipes before changes [] [] said say named within rise = refl
no_fault pipes before changes [] (c ∷ cs) said say named within rise = absurd say
no_fault pipes before changes (l ∷ ls) [] said say named within rise = absurd say
no_fault pipes before changes (l ∷ ls) (c ∷ cs) said say named within rise =
    let grown : (changes ++ c ∷ []) ++ cs ≡ changes ++ c ∷ cs = append_assoc changes (c ∷ []) cs in
    let later : first_line_fault (change_fault pipes) (before ++ l ∷ []) ls ≡ None =
    no_fault pipes (before ++ l ∷ []) (changes ++ c ∷ []) ls cs
    (AllZip-push SaysChange before changes l c said say.0) say.1
    (subst (λ (xs : List Change). All (λ c. c.pipe < pipes) xs) (sym grown) named)
    (subst (λ (xs : List Change). All IsChange xs) (sym grown) within)
    (subst (λ (xs : List Change). AllPairs PrecedesChange xs) (sym grown) rise) in
    rw (here, later) refl
  where
    inside : length changes + 0 < length (changes ++ c ∷ cs)
    inside = omega (arith, length-append changes (c ∷ cs))

    passes : Passes pipes (slice_get changes (length changes - 1)) c
    passes = record {
      named = subst (λ (x : Change). x.pipe < pipes) (get_or-append-add changes (c ∷ cs) 0 c) (named (length changes + 0) c inside);
      within = subst IsChange (get_or-append-add changes (c ∷ cs) 0 c) (within (length changes + 0) c inside);
      behind = behind_last changes c cs rise;
    }

    here : change_fault pipes before l ≡ None
    here =
        rw (say.0, last_said before changes said) (none_from_passes pipes (pipes + 2 + length before) (slice_get changes (length changes - 1)) c passes)
