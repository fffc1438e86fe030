-- With which number the program ends.
use Rattle.std.specs.Prelude.{◌≡◌, ℕ, List}
use Rattle.mn_words.specs.Words.{ordered}
use Rattle.modelnet.specs.declared.status.Status.{Status}
use Rattle.modelnet.specs.Answers.{Answers, IsExact}
use Rattle.modelnet.specs.Commands.{Host}
use Rattle.modelnet.specs.Statuses.{status_number}
use Rattle.modelnet.specs.TheCommands.{usual_limits}

-- these words were carried out over this host, and the program ends with the number of the answer
pub record IsEnding (words : List (List ℕ)) (old new : Host) (number : ℕ) : Type 0 where
  pub status : Status
  pub answered : Answers usual_limits (ordered words) old new status
  pub exact : IsExact usual_limits (ordered words) old new status
  pub number_is : number ≡ status_number status
