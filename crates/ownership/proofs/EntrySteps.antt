-- Entry cores that are found from the last pipe to the first.
use Rattle.std.proofs.Common.{◌≡◌, ◌<◌, ◌≤◌, ◌+◌, ◌-◌, ◌==◌, ⊎_elim, ℕ, suc, Bool, true, false, cond, List, length, get_or, set, find, Option, Some, refl, sym, ap, ◌∙◌, subst, arith, length-set}
use Rattle.std.specs.Prelude.{slice_get, slice_index}
use Rattle.std.specs.List.{range_with_len}
use Rattle.std.specs.Option.{option_map_or}
use Rattle.std.proofs.lemmas.Bool.{cases_eq, eq-eqb, ne_eqb}
use Rattle.std.proofs.lemmas.Option.{slice_get-get_or}
use Rattle.std.proofs.lemmas.List.{ext_get_or, get_or-set_same, get_or-set_other}
use Rattle.std.proofs.lemmas.List.FromFn.{get_or-map-range_with_len, length-map-range_with_len}
use Rattle.distill.specs.declared.pipes.DistilledPipe.{DistilledPipe}
use Rattle.distill.specs.Distilled.{DistilledView, KeepsPipeLimits}
use Rattle.ownership.specs.Entries.{leaves, entry_at, entries_of}

-- the same of the pipes from p on
abbrev pub entry_from : List DistilledPipe → List ℕ → ℕ → ℕ → ℕ
entry_from pipes owners p node =
    option_map_or (slice_index owners) (find (leaves pipes node) (range_with_len p (length pipes - p))) 0

-- at each node the entry core of the pipes from p on
pub record HasEntries (d : DistilledView) (owners : List ℕ) (p : ℕ) (entries : List ℕ) : Type 0 where
  pub len : length entries ≡ d.nodes
  pub are : (v : ℕ) → v < d.nodes → get_or entries v 0 ≡ entry_from d.pipes owners p v

pub no_entries : (d : DistilledView) (owners : List ℕ) (entries : List ℕ) → length entries ≡ d.nodes → ((v : ℕ) → get_or entries v 0 ≡ 0)
    → HasEntries d owners (length d.pipes) entries
no_entries d owners entries len zeros = record {
  len = len;
  are = λ v within.
      zeros v
      ∙ ap (λ n. option_map_or (slice_index owners) (find (leaves d.pipes v) (range_with_len (length d.pipes) n)) 0)
      (let none : 0 ≡ length d.pipes - length d.pipes = omega arith in none);
}

-- one pipe more decides at the node that it leaves
entry_step : (pipes : List DistilledPipe) (owners : List ℕ) (p v : ℕ) (pipe : DistilledPipe) → p < length pipes
    → slice_get pipes p ≡ Some pipe
    → entry_from pipes owners p v ≡ cond (pipe.from == v) (slice_index owners p) (entry_from pipes owners (p + 1) v)
entry_step pipes owners p v pipe within is =
    ap (λ n. option_map_or (slice_index owners) (find (leaves pipes v) (range_with_len p n)) 0) more
    ∙ ap (λ (o : Option DistilledPipe).
    option_map_or (slice_index owners)
    (cond (option_map_or (λ x. x.from == v) o false) (Some p) (find (leaves pipes v) (range_with_len (p + 1) (length pipes - (p + 1))))) 0)
    is
    ∙ go (pipe.from == v)
  where
    more : length pipes - p ≡ suc (length pipes - (p + 1))
    more = omega (arith, within)

    go : (b : Bool)
        → option_map_or (slice_index owners) (cond b (Some p) (find (leaves pipes v) (range_with_len (p + 1) (length pipes - (p + 1))))) 0
        ≡ cond b (slice_index owners p) (entry_from pipes owners (p + 1) v)
    go true = refl
    go false = refl

pub one_entry_more : (d : DistilledView) (owners entries : List ℕ) (p : ℕ) (pipe : DistilledPipe) (owner : ℕ) → p < length d.pipes
    → slice_get d.pipes p ≡ Some pipe → owner ≡ get_or owners p 0 → pipe.from < d.nodes → HasEntries d owners (p + 1) entries
    → HasEntries d owners p (set entries pipe.from owner)
one_entry_more d owners entries p pipe owner within is owner_is low had = record {
  len = length-set entries pipe.from owner ∙ had.len;
  are = λ v place.
      ⊎_elim
      (λ (same : v ≡ pipe.from).
      ap (λ n. get_or (set entries pipe.from owner) n 0) same
      ∙ get_or-set_same entries pipe.from owner 0 (let len = had.len in omega arith)
      ∙ owner_is
      ∙ sym (entry_step d.pipes owners p v pipe within is
      ∙ ap (λ (b : Bool). cond b (slice_index owners p) (entry_from d.pipes owners (p + 1) v)) (eq-eqb pipe.from v (sym same))))
      (λ (other : v ≡ pipe.from → ⊥).
      get_or-set_other entries pipe.from v owner 0 other
      ∙ had.are v place
      ∙ sym (entry_step d.pipes owners p v pipe within is
      ∙ ap (λ (b : Bool). cond b (slice_index owners p) (entry_from d.pipes owners (p + 1) v)) (ne_eqb pipe.from v (λ e. other (sym e)))))
      (cases_eq v pipe.from);
}

pub all_entries : (d : DistilledView) (owners entries : List ℕ) (p : ℕ) → p ≡ 0 → HasEntries d owners p entries → entries ≡ entries_of d owners
all_entries d owners entries p done had =
    ext_get_or 0 entries (entries_of d owners)
    (had.len ∙ sym (length-map-range_with_len (entry_at d.pipes owners) 0 d.nodes))
    (λ v within.
    let low : v < d.nodes = omega (arith, had.len) in
    had.are v low
    ∙ ap (λ k. entry_from d.pipes owners k v) done
    ∙ ap (λ n. option_map_or (slice_index owners) (find (leaves d.pipes v) (range_with_len 0 n)) 0)
    (let same : length d.pipes - 0 ≡ length d.pipes = omega arith in same)
    ∙ sym (get_or-map-range_with_len (entry_at d.pipes owners) 0 d.nodes v v 0 low (omega arith)))

-- the same in the code's lists
pub entry_written : {d : DistilledView} {owners entries : List ℕ} (ps : List DistilledPipe) (n : ℕ) (other : DistilledPipe)
    → ps ≡ d.pipes → KeepsPipeLimits d → 0 < n → n ≤ length ps → HasEntries d owners n entries
    → HasEntries d owners (n - 1) (set entries (get_or ps (n - 1) other).from (get_or owners (n - 1) 0))
entry_written {d} {owners} {entries} ps n other same keeps some most had =
    one_entry_more d owners entries (n - 1) (get_or ps (n - 1) other) (get_or owners (n - 1) 0) within
    (subst (λ (xs : List DistilledPipe). slice_get d.pipes (n - 1) ≡ Some (get_or xs (n - 1) other)) (sym same)
    (slice_get-get_or d.pipes (n - 1) other within))
    refl
    (subst (λ (xs : List DistilledPipe). (get_or xs (n - 1) other).from < d.nodes) (sym same) (keeps.pipes (n - 1) other within).from)
    (subst (λ k. HasEntries d owners k entries) (let next : n ≡ n - 1 + 1 = omega (arith, some) in next) had)
  where
    within : n - 1 < length d.pipes
    within = let len : length ps ≡ length d.pipes = ap length same in omega (arith, len, some, most)
