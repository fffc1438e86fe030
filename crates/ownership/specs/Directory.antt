-- What contracts see of a directory, and what always holds of one.
use Rattle.std.specs.Prelude.{ℕ, ◌<◌, ◌≤◌, List, length, All}
use Rattle.mn_base.specs.declared.limits.TheConstants.{CORES_MAX, PIPES_MAX, NODES_MAX}

-- how many cores there are, the core that owns each pipe, and the entry core of each node
pub record DirectoryView : Type 0 where
  pub cores : ℕ
  pub owners : List ℕ
  pub entries : List ℕ

-- each pipe has one owner, and each node one entry core, below the number of cores
pub record IsDirectory (d : DirectoryView) : Type 0 where
  pub some_core : 1 ≤ d.cores
  pub few_cores : d.cores ≤ CORES_MAX
  pub owners : All (λ core. core < d.cores) d.owners
  pub entries : All (λ core. core < d.cores) d.entries
  pub few_pipes : length d.owners ≤ PIPES_MAX
  pub few_nodes : length d.entries ≤ NODES_MAX
