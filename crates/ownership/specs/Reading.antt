-- What a directory text says of a distilled topology on so many cores.
use Rattle.std.specs.Prelude.{ℕ, ◌≡◌, ◌≢◌, ◌<◌, List, [], ◌∷◌, length, Some, All, AllPairs, slice_index}
use Rattle.std.specs.List.{AllZip}
use Rattle.mn_base.specs.Among.{Among}
use Rattle.mn_base.specs.Lines.{lines_of}
use Rattle.mn_base.specs.Fields.{fields_of}
use Rattle.changes.specs.Head.{first_head_labels}
use Rattle.distill.specs.Distilled.{DistilledView}
use Rattle.ownership.specs.Directory.{DirectoryView}
use Rattle.ownership.specs.Entries.{entries_of}
use Rattle.ownership.specs.Owned.{Owned}
use Rattle.ownership.specs.Texts.{owned_of}

-- the line says that this core owns this pipe
abbrev pub SaysOwner : List ℕ → Owned → Type 0
SaysOwner line o = owned_of line ≡ Some o

-- the lines say these owners, each of a pipe and a core that there are, and of no pipe twice
pub record AreOwnerLines (pipes cores : ℕ) (lines : List (List ℕ)) (owned : List Owned) : Type 0 where
  pub say : AllZip SaysOwner lines owned
  pub pipes_are : All (λ o. o.pipe < pipes) owned
  pub cores_are : All (λ o. o.core < cores) owned
  pub once : AllPairs (λ o p. o.pipe ≢ p.pipe) owned

-- a head line of the cores and the pipes, and then in any order one line for each pipe, which says its owner
pub record Directs (text : List ℕ) (d : DistilledView) (cores : ℕ) (directory : DirectoryView) : Type 0 where
  pub head : List ℕ
  pub body : List (List ℕ)
  pub owned : List Owned
  pub lines : lines_of text ≡ head ∷ body
  pub numbers : fields_of first_head_labels head ≡ Some (cores ∷ length d.pipes ∷ [])
  pub body_is : AreOwnerLines (length d.pipes) cores body owned
  pub owners_len : length directory.owners ≡ length d.pipes
  pub owners : (q : ℕ) → q < length d.pipes → Among (record { pipe = q; core = slice_index directory.owners q }) owned
  pub cores_are : directory.cores ≡ cores
  pub entries : directory.entries ≡ entries_of d directory.owners
