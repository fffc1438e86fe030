-- Lines of changes that are read one by one: which were read, and which are left.
use Rattle.std.proofs.Common.{◌≡◌, ◌+◌, ◌-◌, ℕ, List, [], ◌∷◌, ◌++◌, length, Option, Some, None, refl, sym, ap, ◌∙◌, subst, arith, append_assoc, append-nil}
use Rattle.std.specs.Prelude.{slice_get}
use Rattle.std.specs.Option.{option_or}
use Rattle.mn_base.specs.Lines.{first_line_fault}
use Rattle.changes.specs.declared.split.Change.{Change}
use Rattle.changes.specs.declared.faults.ChangesFault.{ChangesFault}
use Rattle.changes.specs.Changes.{change_of}
use Rattle.changes.specs.Faults.{last_change, change_line_fault, change_fault}
use Rattle.changes.specs.Splits.{SaysChange, AreChangeLines}
use Rattle.changes.proofs.Lists.{AllZip-length}
use Rattle.changes.proofs.Said.{last_said, Passes}
use Rattle.changes.proofs.NoFault.{push_line, no_lines, says_and_passes}

-- the lines before those that are left say these changes, and have no fault
pub record IsReading (pipes : ℕ) (lines left : List (List ℕ)) (changes : List Change) : Type 0 where
  pub before : List (List ℕ)
  pub split : lines ≡ before ++ left
  pub are : AreChangeLines pipes before changes
  pub faults : first_line_fault (change_fault pipes) [] lines ≡ first_line_fault (change_fault pipes) before left

pub nothing_read : (pipes : ℕ) (lines : List (List ℕ)) → IsReading pipes lines lines []
nothing_read pipes lines = record { before = []; split = refl; are = no_lines pipes; faults = refl }

-- the next line has this number and stands after this change, if there is one
pub record IsNextLine (pipes n : ℕ) (lines left : List (List ℕ)) (line : List ℕ) (changes : List Change) (last : Option Change) : Type 0 where
  pub reading : IsReading pipes lines (line ∷ left) changes
  pub number : n ≡ pipes + 2 + length changes
  pub last_is : last ≡ slice_get changes (length changes - 1)

-- the fault of the next line, told by the changes
next_fault : (pipes n : ℕ) (before : List (List ℕ)) (changes : List Change) (last : Option Change) (line : List ℕ)
    → AreChangeLines pipes before changes → n ≡ pipes + 2 + length changes → last ≡ slice_get changes (length changes - 1)
    → change_fault pipes before line ≡ change_line_fault pipes n last line
next_fault pipes n before changes last line are number is =
    ap (λ k. change_line_fault pipes (pipes + 2 + k) (last_change before) line) (AllZip-length SaysChange before changes are.say)
    ∙ ap (λ k. change_line_fault pipes k (last_change before) line) (sym number)
    ∙ ap (λ (o : Option Change). change_line_fault pipes n o line) (last_said before changes are.say ∙ sym is)

module _ (pipes n : ℕ) (lines left : List (List ℕ)) (line : List ℕ) (changes : List Change) (last : Option Change)
    (next : IsNextLine pipes n lines left line changes last) where
  -- the next line says a change and has no fault
  pub one_read : (change : Change) → change_of line ≡ Some change → change_line_fault pipes n last line ≡ None
      → IsReading pipes lines left (changes ++ change ∷ [])
  one_read change says none =
      let reading = next.reading in
      record {
        before = reading.before ++ line ∷ [];
        split = reading.split ∙ sym (append_assoc reading.before (line ∷ []) left);
        are =
            push_line pipes reading.before changes line change reading.are says
            (subst (λ (o : Option Change). Passes pipes o change) next.last_is (says_and_passes pipes n last line change says none));
        faults =
            reading.faults
            ∙ ap (λ (o : Option ChangesFault). option_or o (first_line_fault (change_fault pipes) (reading.before ++ line ∷ []) left))
            (next_fault pipes n reading.before changes last line reading.are next.number next.last_is ∙ none);
      }

  -- a fault of the next line is the first
  pub first_fault_read : (fault : ChangesFault) → change_line_fault pipes n last line ≡ Some fault
      → first_line_fault (change_fault pipes) [] lines ≡ Some fault
  first_fault_read fault faulty =
      let reading = next.reading in
      reading.faults
      ∙ ap (λ (o : Option ChangesFault). option_or o (first_line_fault (change_fault pipes) (reading.before ++ line ∷ []) left))
      (next_fault pipes n reading.before changes last line reading.are next.number next.last_is ∙ faulty)

pub all_read : (pipes : ℕ) (lines : List (List ℕ)) (changes : List Change) → IsReading pipes lines [] changes
    → AreChangeLines pipes lines changes
all_read pipes lines changes reading =
    subst (λ (ls : List (List ℕ)). AreChangeLines pipes ls changes) (sym (reading.split ∙ append-nil reading.before)) reading.are
