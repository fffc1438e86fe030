-- Where a text first differs from that of a list of visits. Lines are counted from 1, and have their line feeds.
use Rattle.std.specs.Prelude.{◌≡◌, ◌≢◌, ℕ, ◌+◌, List, [], ◌∷◌, ◌++◌, length}
use Rattle.std.specs.List.{concat}
use Rattle.journal.specs.declared.visit.Visit.{Visit}
use Rattle.journal_check.specs.declared.fault.JournalFault.{JournalFault}
use Rattle.journal_check.specs.declared.fault.JournalFault.TheVariants.{Line, Short}
use Rattle.journal_check.specs.Texts.{journal_lines}

-- the first of these lines opens the text
abbrev pub OpensWith : List (List ℕ) → List ℕ → Type 0
OpensWith [] text = ⊥
OpensWith (line ∷ lines) text = (rest : List ℕ) × (text ≡ line ++ rest)

-- The text begins with the lines before line n, and goes on with something else than line n; or there is no line n, and it goes on.
pub record DiffersAt (lines : List (List ℕ)) (text : List ℕ) (n : ℕ) : Type 0 where
  pub before : List (List ℕ)
  pub ahead : List (List ℕ)
  pub rest : List ℕ
  pub lines_are : lines ≡ before ++ ahead
  pub text_is : text ≡ concat before ++ rest
  pub goes_on : rest ≢ []
  pub other : OpensWith ahead rest → ⊥
  pub number : n ≡ length before + 1

-- the text is the first n of these lines, and there are more
pub record EndsAfter (lines : List (List ℕ)) (text : List ℕ) (n : ℕ) : Type 0 where
  pub before : List (List ℕ)
  pub ahead : List (List ℕ)
  pub lines_are : lines ≡ before ++ ahead
  pub text_is : text ≡ concat before
  pub more : ahead ≢ []
  pub number : n ≡ length before

-- this is how the text first differs from these lines
abbrev pub FirstFault : List (List ℕ) → List ℕ → JournalFault → Type 0
FirstFault lines text (Line n) = DiffersAt lines text n
FirstFault lines text (Short n) = EndsAfter lines text n

-- this is how the text first differs from that of these visits
abbrev pub JournalFirst : List Visit → List ℕ → JournalFault → Type 0
JournalFirst visits text fault = FirstFault (journal_lines visits) text fault

-- where so many lines were right: this line doesn't open the text that is left, which goes on with something else, or ends there
abbrev pub PartsAt : List ℕ → ℕ → List ℕ → JournalFault → Type 0
PartsAt line before text (Line n) = (text ≢ []) × ((rest : List ℕ) → text ≢ line ++ rest) × (n ≡ before + 1)
PartsAt line before text (Short n) = (text ≡ []) × (n ≡ before)
