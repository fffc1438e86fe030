-- What the answer of a command has to be, where memory is there and the host does its part.
use Rattle.std.specs.Prelude.{◌≡◌, ◌⊎◌, ℕ, ◌<◌, ◌≤◌, List, [], ◌∷◌, ◌++◌, length, Some}
use Rattle.mn_base.specs.Causes.{Rose}
use Rattle.mn_edge.specs.declared.role.Role.{Role}
use Rattle.modelnet.specs.declared.status.Status.{Status}
use Rattle.modelnet.specs.declared.status.Status.TheVariants.{Done, NoMemory, BadWords, ReadFault, WriteFault, TooLarge}
use Rattle.modelnet.specs.Roles.{Input}
use Rattle.modelnet.specs.Commands.{Host, Command}

-- out of memory alone may stand for the answer
abbrev pub IsOrNoMemory : Status → Status → Type 0
IsOrNoMemory due answer = (answer ≡ due) ⊎ (answer ≡ NoMemory)

-- out of memory, or what refuses these bytes
abbrev pub NoMemoryOrRefuses : (List (List ℕ) → Status → Type 0) → List (List ℕ) → Status → Type 0
NoMemoryOrRefuses refuses bytes status = (status ≡ NoMemory) ⊎ refuses bytes status

-- no call on the role failed
abbrev pub IsQuiet : Role → Host → Host → Type 0
IsQuiet role old new = Rose (old role).faults (new role).faults → ⊥

-- what refuses these bytes is the answer
abbrev pub IsRefusedBy : Command → List (List ℕ) → Status → Type 0
IsRefusedBy c bytes answer = (refusal : Status) → c.refuses bytes refusal → IsOrNoMemory refusal answer

-- nothing refuses these bytes
abbrev pub Accepts : Command → List (List ℕ) → Type 0
Accepts c bytes = (refusal : Status) → c.refuses bytes refusal → ⊥

-- What the answer has to be where these bytes were read and these inputs are to be read. What refuses the bytes so far is the
-- answer. Where nothing does, the host tells the bytes of the next input and no call on it failed: more than its limit are too
-- large, and else the same holds with its bytes. Where none is left and no call failed at all, it is Done.
abbrev pub MustAnswer : Command → Host → Host → List (List ℕ) → List Input → Status → Type 0
MustAnswer c old new past [] answer =
    IsRefusedBy c past answer × (Accepts c past → ((role : Role) → IsQuiet role old new) → IsOrNoMemory Done answer)
MustAnswer c old new past (input ∷ later) answer =
    IsRefusedBy c past answer
    × (Accepts c past → (bytes : List ℕ) → (old input.role).left ≡ Some bytes → IsQuiet input.role old new
    → (input.limit < length bytes → IsOrNoMemory (TooLarge input.role) answer)
    × (length bytes ≤ input.limit → MustAnswer c old new (past ++ bytes ∷ []) later answer))

-- an answer that refuses what was read
abbrev pub IsRefusal : Status → Type 0
IsRefusal Done = ⊥
IsRefusal NoMemory = ⊥
IsRefusal (BadWords fault) = ⊥
IsRefusal (ReadFault role) = ⊥
IsRefusal (WriteFault role) = ⊥
IsRefusal (TooLarge role) = ⊥
IsRefusal refusal = Unit {0}

-- What is asked of a command: bytes are refused by one answer at most, which is a refusal; what is refused isn't written, whatever
-- inputs follow; and there is one output for its inputs at most.
pub record IsSoundCommand (c : Command) : Type 0 where
  pub refusals : (bytes : List (List ℕ)) (status : Status) → c.refuses bytes status → IsRefusal status
  pub one_refusal : (bytes : List (List ℕ)) (one other : Status) → c.refuses bytes one → c.refuses bytes other → one ≡ other
  pub never_both : (front back outs : List (List ℕ)) (status : Status) → c.refuses front status → c.writes (front ++ back) outs → ⊥
  pub one_output : (bytes outs others : List (List ℕ)) → c.writes bytes outs → c.writes bytes others → outs ≡ others
