-- What stands after each call of a command that reads one role and writes one.
use Rattle.std.proofs.Common.{◌≡◌, ◌≢◌, ℕ, List, [], ◌∷◌, Ok, Err, subst}
use Rattle.modelnet.specs.declared.status.Status.{Status}
use Rattle.modelnet.specs.declared.status.Status.TheVariants.{Done}
use Rattle.modelnet.specs.Commands.{Host, Command, Answered}
use Rattle.modelnet.specs.Exact.{Accepts, IsSoundCommand, NoMemoryOrRefuses}
use Rattle.modelnet.specs.Progress.{HasRead, HasWritten}
use Rattle.modelnet.specs.Roles.{Input, Output, input, ReadsInput, WritesOutput}
use Rattle.modelnet.proofs.OneAfterAnother.{Others, has_begun, has_read, stops_reading, refuses, has_made, has_written, stops_writing, is_done}

-- it reads `at` and writes `to`, and refuses nothing before it has read
pub record IsOneToOne (c : Command) (at : Input) (to : Output) : Type 0 where
  pub inputs : c.inputs ≡ at ∷ []
  pub outputs : c.outputs ≡ to ∷ []
  pub accepts : Accepts c []
  pub apart : to.role ≢ at.role
  pub sound : IsSoundCommand c

has_begun_one : (c : Command) (at : Input) (to : Output) (host : Host) → IsOneToOne c at to → HasRead c [] (at ∷ []) host host
has_begun_one c at to host one = subst (λ inputs. HasRead c [] inputs host host) one.inputs (has_begun c host one.accepts)

-- the input can't be read whole
pub input_stops : (c : Command) (at : Input) (to : Output) (name : List ℕ) (status : Status) (old new : Host) → IsOneToOne c at to
    → name ≡ at.name → ReadsInput (input at.role name at.limit) (old at.role) (new at.role) (Err status) → Others at.role old new
    → Answered c old new status
input_stops c at to name status old new one named own others =
    stops_reading c [] at [] status old old new (has_begun_one c at to old one) tt
    (subst (λ n. ReadsInput (input at.role n at.limit) (old at.role) (new at.role) (Err status)) named own) others

-- the input was read whole, under a name that is its own
pub record HasInput (at : Input) (bytes : List ℕ) (old new : Host) : Type 0 where
  pub name : List ℕ
  pub named : name ≡ at.name
  pub own : ReadsInput (input at.role name at.limit) (old at.role) (new at.role) (Ok bytes)
  pub others : Others at.role old new

pub named_input : (at : Input) (bytes : List ℕ) (old new : Host) → HasInput at bytes old new
    → ReadsInput at (old at.role) (new at.role) (Ok bytes)
named_input at bytes old new read =
    subst (λ n. ReadsInput (input at.role n at.limit) (old at.role) (new at.role) (Ok bytes)) read.named read.own

-- and its bytes are refused
pub input_refused : (c : Command) (at : Input) (to : Output) (bytes : List ℕ) (status : Status) (old new : Host) → IsOneToOne c at to
    → HasInput at bytes old new → NoMemoryOrRefuses c.refuses (bytes ∷ []) status → Answered c old new status
input_refused c at to bytes status old new one read refused =
    refuses c [] at [] bytes status old old new one.sound (has_begun_one c at to old one) tt (named_input at bytes old new read) read.others
    refused

-- and this text is to be written
has_text : (c : Command) (at : Input) (to : Output) (bytes text : List ℕ) (old new : Host) → IsOneToOne c at to → HasInput at bytes old new
    → c.writes (bytes ∷ []) (text ∷ []) → HasWritten c ((at, bytes) ∷ []) [] (to ∷ []) (text ∷ []) old new
has_text c at to bytes text old new one read says =
    subst (λ outputs. HasWritten c ((at, bytes) ∷ []) [] outputs (text ∷ []) old new) one.outputs
    (has_made c ((at, bytes) ∷ []) (text ∷ []) old new
    (has_read c [] at [] bytes old old new (has_begun_one c at to old one) tt (named_input at bytes old new read) read.others
    (λ status refused. one.sound.never_both (bytes ∷ []) [] (text ∷ []) status refused says)) says)

-- the output can't be written whole
pub output_stops : (c : Command) (at : Input) (to : Output) (bytes text written : List ℕ) (status : Status) (old mid new : Host)
    → IsOneToOne c at to → HasInput at bytes old mid → c.writes (bytes ∷ []) (text ∷ []) → written ≡ text
    → WritesOutput to written (mid to.role) (new to.role) (Err status) → Others to.role mid new → Answered c old new status
output_stops c at to bytes text written status old mid new one read says same own others =
    stops_writing c ((at, bytes) ∷ []) [] to [] text [] status old mid new (has_text c at to bytes text old mid one read says) (one.apart, tt) tt
    (subst (λ t. WritesOutput to t (mid to.role) (new to.role) (Err status)) same own) others

-- all was read and written whole
pub one_done : (c : Command) (at : Input) (to : Output) (bytes text written : List ℕ) (old mid new : Host)
    → IsOneToOne c at to → HasInput at bytes old mid → c.writes (bytes ∷ []) (text ∷ []) → written ≡ text
    → WritesOutput to written (mid to.role) (new to.role) (Ok tt) → Others to.role mid new → Answered c old new Done
one_done c at to bytes text written old mid new one read says same own others =
    is_done c ((at, bytes) ∷ []) ((to, text) ∷ []) old new
    (has_written c ((at, bytes) ∷ []) [] to [] text [] old mid new (has_text c at to bytes text old mid one read says) (one.apart, tt) tt
    (subst (λ t. WritesOutput to t (mid to.role) (new to.role) (Ok tt)) same own) others)
