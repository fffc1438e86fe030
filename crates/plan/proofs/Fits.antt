-- A directory of a distilled topology fits it: owners and entry cores are below the number of cores, one for each pipe and each node.
use Rattle.std.proofs.Common.{◌≡◌, ◌<◌, ◌≤◌, ⊎_elim, ℕ, true, false, List, [], length, find, All, AllPairs, Option, Some, None, sym, ap, ◌∙◌, subst, arith}
use Rattle.std.specs.Prelude.{slice_index, MatchBool, Bool}
use Rattle.std.specs.List.{range_with_len}
use Rattle.std.specs.Option.{option_map_or}
use Rattle.std.proofs.lemmas.Bool.{cases_lt}
use Rattle.std.proofs.lemmas.List.{get_or_past, get_or_default}
use Rattle.std.proofs.lemmas.List.Elements.{All-nil}
use Rattle.std.proofs.lemmas.List.FromFn.{get_or-map-range_with_len, length-map-range_with_len}
use Rattle.mn_base.proofs.Members.{All-Among}
use Rattle.distill.specs.Distilled.{DistilledView}
use Rattle.changes.specs.declared.split.Change.{Change}
use Rattle.changes.specs.Changes.{IsChange, PrecedesChange}
use Rattle.changes.specs.SplitView.{SplitView}
use Rattle.changes.specs.Splits.{IsSecond, IsOther, SplitsTo}
use Rattle.changes.specs.Faults.{is_second}
use Rattle.ownership.specs.Owned.{Owned}
use Rattle.ownership.specs.Directory.{DirectoryView}
use Rattle.ownership.specs.Entries.{leaves, entry_at, entries_of}
use Rattle.ownership.specs.Assignment.{assigned, assignment, owners_of}
use Rattle.ownership.specs.Owned.{owner_in}
use Rattle.ownership.specs.Reading.{Directs}
use Rattle.ownership.proofs.Places.{owners_are_below}
use Rattle.plan.specs.Grounds.{AreFit}
use Rattle.plan.specs.Setups.{AreDirected}

-- an owner, or 0 where there is none
owner_below : (cores : ℕ) (owners : List ℕ) (q : ℕ) → 1 ≤ cores → All (λ core. core < cores) owners → slice_index owners q < cores
owner_below cores owners q some below =
    ⊎_elim
    (λ (within : q < length owners). below q 0 within)
    (λ (past : length owners ≤ q). subst (λ n. n < cores) (sym (get_or_past owners q 0 past)) some)
    (cases_lt q (length owners))

entry_below : (d : DistilledView) (cores : ℕ) (owners : List ℕ) (v : ℕ) → 1 ≤ cores → All (λ core. core < cores) owners
    → entry_at d.pipes owners v < cores
entry_below d cores owners v some below = go (find (leaves d.pipes v) (range_with_len 0 (length d.pipes)))
  where
    go : (o : Option ℕ) → option_map_or (slice_index owners) o 0 < cores
    go None = some
    go (Some q) = owner_below cores owners q some below

entries_below : (d : DistilledView) (cores : ℕ) (owners : List ℕ) → 1 ≤ cores → All (λ core. core < cores) owners
    → All (λ core. core < cores) (entries_of d owners)
entries_below d cores owners some below k e within =
    let low : k < d.nodes = (let len = length-map-range_with_len (entry_at d.pipes owners) 0 d.nodes in omega (arith, len, within)) in
    subst (λ n. n < cores) (sym (get_or-map-range_with_len (entry_at d.pipes owners) 0 d.nodes k k e low (omega arith)))
    (entry_below d cores owners k some below)

-- the directory of the assignment, without changes
pub assignment_fits : (d : DistilledView) (cores : ℕ) (directory : DirectoryView) (changes : List Change) → 1 ≤ cores
    → directory ≡ assignment d cores → changes ≡ [] → AreFit d cores directory changes
assignment_fits d cores directory changes some is none =
    subst (λ (x : DirectoryView). AreFit d cores x changes) (sym is)
    (subst (AreFit d cores (assignment d cores)) (sym none)
    (record {
      owners_len = length-map-range_with_len (owner_in (assigned d cores)) 0 (length d.pipes);
      owners = owners_are_below d cores some;
      entries_len = length-map-range_with_len (entry_at d.pipes (owners_of d cores)) 0 d.nodes;
      entries = entries_below d cores (owners_of d cores) some (owners_are_below d cores some);
      named = All-nil (λ c. c.pipe < length d.pipes);
      within = All-nil IsChange;
      rise = λ i j e before within. absurd (omega arith);
    }))

-- what a text says of changes
record AreSaid (pipes : ℕ) (changes : List Change) : Type 0 where
  named : All (λ c. c.pipe < pipes) changes
  within : All IsChange changes
  rise : AllPairs PrecedesChange changes

none_said : (pipes : ℕ) → AreSaid pipes []
none_said pipes = record {
  named = All-nil (λ c. c.pipe < pipes);
  within = All-nil IsChange;
  rise = λ i j e before within. absurd (omega arith);
}

split_said : (text : List ℕ) (cores pipes : ℕ) (split : SplitView) → SplitsTo text cores pipes split → AreSaid pipes split.changes
split_said text cores pipes split splits = go (is_second text) splits
  where
    go : (b : Bool) → MatchBool b (IsSecond text cores pipes split) (IsOther text split) → AreSaid pipes split.changes
    go true second = record {
      named = second.changes.named;
      within = second.changes.within;
      rise = second.changes.rise;
    }
    go false other = subst (AreSaid pipes) (sym other.changes) (none_said pipes)

directs_owners : (text : List ℕ) (d : DistilledView) (cores : ℕ) (directory : DirectoryView) → Directs text d cores directory
    → All (λ core. core < cores) directory.owners
directs_owners text d cores directory is k e within =
    let low : k < length d.pipes = (let len = is.owners_len in omega (arith, len, within)) in
    let said : slice_index directory.owners k < cores =
    All-Among (λ (o : Owned). o.core < cores) (record { pipe = k; core = slice_index directory.owners k }) is.owned is.body_is.cores_are
    (is.owners k low) in
    subst (λ n. n < cores) (get_or_default directory.owners k 0 e within) said

-- the directory and the changes of a text
pub text_fits : (d : DistilledView) (cores : ℕ) (text : List ℕ) (directory : DirectoryView) (changes : List Change) → 1 ≤ cores
    → AreDirected d cores text directory changes → AreFit d cores directory changes
text_fits d cores text directory changes some are =
    let owners = directs_owners are.first_version d cores directory are.directs in
    let said = split_said text cores (length d.pipes) (record { directory = are.first_version; changes = changes }) are.split in
    record {
      owners_len = are.directs.owners_len;
      owners = owners;
      entries_len = ap length are.directs.entries ∙ length-map-range_with_len (entry_at d.pipes directory.owners) 0 d.nodes;
      entries = subst (All (λ core. core < cores)) (sym are.directs.entries) (entries_below d cores directory.owners some owners);
      named = said.named;
      within = said.within;
      rise = said.rise;
    }
