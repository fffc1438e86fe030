-- What holds of the definitions.
use Rattle.std.specs.Prelude.{ℕ, ◌≡◌, ◌≢◌, ◌⊎◌, ◌<◌, ◌≤◌, List, length, All, AllPairs}
use Rattle.mn_base.specs.declared.limits.TheConstants.{CORES_MAX, PIPES_MAX}
use Rattle.mn_base.specs.Among.{Among}
use Rattle.distill.specs.Distilled.{DistilledView}
use Rattle.ownership.specs.declared.faults.AssignFault.{AssignFault}
use Rattle.ownership.specs.Directory.{DirectoryView}
use Rattle.ownership.specs.Entries.{entries_of}
use Rattle.ownership.specs.Assignment.{Owned, assigned}
use Rattle.ownership.specs.Texts.{directory_text}
use Rattle.ownership.specs.Reading.{Directs}
use Rattle.ownership.specs.Faults.{DirectoryFirst}

-- each pipe is owned once, by a core that there is
pub record OwnsEachOnce (pipes cores : ℕ) (owned : List Owned) : Type 0 where
  pub pipes_are : All (λ o. o.pipe < pipes) owned
  pub cores_are : All (λ o. o.core < cores) owned
  pub once : AllPairs (λ o p. o.pipe ≢ p.pipe) owned
  pub each : (q : ℕ) → q < pipes → (core : ℕ) × Among (record { pipe = q; core = core }) owned

-- the assignment gives each pipe one owner
abbrev pub OneOwner : Type 0
OneOwner = (d : DistilledView) (cores : ℕ) → 1 ≤ cores → OwnsEachOnce (length d.pipes) cores (assigned d cores)

-- a directory of a distilled topology: its entry cores are those of its owners
pub record IsDirectoryOf (d : DistilledView) (directory : DirectoryView) : Type 0 where
  pub some_core : 1 ≤ directory.cores
  pub few_cores : directory.cores ≤ CORES_MAX
  pub few_pipes : length d.pipes ≤ PIPES_MAX
  pub owners_len : length directory.owners ≡ length d.pipes
  pub owners : All (λ core. core < directory.cores) directory.owners
  pub entries : directory.entries ≡ entries_of d directory.owners

-- its printed text says that directory
abbrev pub PrintedReadsBack : Type 0
PrintedReadsBack =
    (d : DistilledView) (directory : DirectoryView) → IsDirectoryOf d directory
    → Directs (directory_text directory) d directory.cores directory

-- each text says a directory or has a first fault
abbrev pub EachTextIsAnswered : Type 0
EachTextIsAnswered =
    (text : List ℕ) (d : DistilledView) (cores : ℕ)
    → ((directory : DirectoryView) × Directs text d cores directory) ⊎ ((fault : AssignFault) × DirectoryFirst text d cores fault)

-- a text that says a directory has no fault
abbrev pub NeverBoth : Type 0
NeverBoth =
    (text : List ℕ) (d : DistilledView) (cores : ℕ) (directory : DirectoryView) (fault : AssignFault)
    → Directs text d cores directory → DirectoryFirst text d cores fault → ⊥

-- a text says one directory at most
abbrev pub OneReading : Type 0
OneReading =
    (text : List ℕ) (d : DistilledView) (cores : ℕ) (directory other : DirectoryView)
    → Directs text d cores directory → Directs text d cores other → directory ≡ other

-- a text has one first fault at most
abbrev pub OneFault : Type 0
OneFault =
    (text : List ℕ) (d : DistilledView) (cores : ℕ) (fault other : AssignFault)
    → DirectoryFirst text d cores fault → DirectoryFirst text d cores other → fault ≡ other
