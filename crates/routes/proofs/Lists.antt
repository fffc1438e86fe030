-- The lists of a search after a read or a write: labels, and how many nodes are settled.
use Rattle.std.proofs.Common.{◌≡◌, ℕ, ◌+◌, ◌<◌, Bool, true, false, cond, List, length, get_or, set, Option, Some, None, inl, inr, sym, ap, ◌∙◌, arith, length-set}
use Rattle.std.proofs.lemmas.Bool.{cases_lt}
use Rattle.std.proofs.lemmas.List.{get_or-set_same, get_or-set_other, get_or_default, get_or_past}
use Rattle.std.proofs.lemmas.List.Sums.{sum_by-set, count_by-le-length}
use Rattle.std.proofs.lemmas.Option.{none-some}
use Rattle.routes.specs.declared.label.Label.{Label}
use Rattle.routes.specs.Table.{label_of}
use Rattle.routes.specs.Search.{settled_of, settled_count}
use Rattle.routes.proofs.SearchSteps.{IsPut}

-- ---- reads
-- the label that is read is the node's
pub label_read : (labels : List (Option Label)) (v : ℕ) (o : Option Label)
    → v < length labels → o ≡ get_or labels v o → label_of labels v ≡ o
label_read labels v o low is = get_or_default labels v None o low ∙ sym is

-- the mark that is read is the node's
pub settled_read : (settled : List Bool) (v : ℕ) (b : Bool) → v < length settled → b ≡ get_or settled v b → settled_of settled v ≡ b
settled_read settled v b low is = get_or_default settled v false b low ∙ sym is

-- a node with a label stands in the list, since past its end there is none
pub has_place : (labels : List (Option Label)) (v : ℕ) (l : Label) → label_of labels v ≡ Some l → v < length labels
has_place labels v l has =
    elim (cases_lt v (length labels)) [
      | inl low ↦ low
      | inr past ↦ absurd (none-some l (sym (get_or_past labels v None past) ∙ has))
    ]

-- ---- writes
-- a label that is written stands at its node, and nowhere else
pub put_label : (labels : List (Option Label)) (v : ℕ) (c : Label) → v < length labels
    → IsPut (label_of labels) (label_of (set labels v (Some c))) v (Some c)
put_label labels v c low =
    record {
      here = get_or-set_same labels v (Some c) None low;
      other = λ w away. get_or-set_other labels v w (Some c) None away;
    }

-- so does a mark
pub put_settled : (settled : List Bool) (v : ℕ) → v < length settled
    → IsPut (settled_of settled) (settled_of (set settled v true)) v true
put_settled settled v low =
    record {
      here = get_or-set_same settled v true false low;
      other = λ w away. get_or-set_other settled v w true false away;
    }

-- ---- how many nodes are settled
-- one more once a node is marked that wasn't
pub count_more : (settled : List Bool) (v : ℕ) → v < length settled → settled_of settled v ≡ false
    → settled_count (set settled v true) ≡ settled_count settled + 1
count_more settled v low waits =
    let sums : settled_count (set settled v true) + cond {A = ℕ} (settled_of settled v) 1 0 ≡ settled_count settled + 1 =
    sum_by-set (λ (b : Bool). cond b 1 0) settled v true false low in
    let zero : cond {A = ℕ} (settled_of settled v) 1 0 ≡ 0 = ap (λ (b : Bool). cond {A = ℕ} b 1 0) waits in
    omega arith

-- so fewer than all while a node isn't marked
pub count_room : (settled : List Bool) (v : ℕ) → v < length settled → settled_of settled v ≡ false
    → settled_count settled < length settled
count_room settled v low waits =
    let more = count_more settled v low waits in
    let most = count_by-le-length (λ (b : Bool). b) (set settled v true) in
    let same = length-set settled v true in
    omega arith
