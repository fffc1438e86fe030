-- The start of a search: only the destination has a label, and no node is settled.
use Rattle.std.proofs.Common.{◌≡◌, ◌↔◌, ℕ, zero, suc, ◌<◌, inl, inr, Bool, false, List, [], length, get_or, set, replicate, Option, Some, None, refl, sym, ap, subst, ◌∙◌, arith, length-set}
use Rattle.std.proofs.lemmas.Bool.{cases_lt}
use Rattle.std.proofs.lemmas.List.{get_or-set_same, get_or-set_other, get_or-replicate, get_or_past, length-replicate}
use Rattle.mn_base.specs.Among.{Among}
use Rattle.routes.specs.declared.label.Label.{Label}
use Rattle.routes.specs.declared.search.Search.{Search}
use Rattle.routes.specs.GraphView.{GraphView, IsWithinLimits}
use Rattle.routes.specs.NodeQueue.{Entry}
use Rattle.routes.specs.Table.{label_of, home}
use Rattle.routes.specs.Search.{settled_of, settled_count, entry_of, IsSearch}
use Rattle.routes.specs.Searching.{IsSearching}
use Rattle.routes.proofs.SearchSteps.{IsPut, begun}
use Rattle.routes.proofs.QueueSteps.{queue_begun}

-- a list of equal items has that item at each index, and by default past its end
same_everywhere : {X : Type 0} (n : ℕ) (x : X) (v : ℕ) → get_or (replicate n x) v x ≡ x
same_everywhere n x v =
    elim (cases_lt v n) [
      | inl low ↦ get_or-replicate n v x x low
      | inr past ↦ get_or_past (replicate n x) v x (let len = length-replicate n x in omega arith)
    ]

-- no mark counts as none
count_none : (n : ℕ) → settled_count (replicate n false) ≡ 0
count_none zero = refl
count_none (suc n) = count_none n

-- the first label that is written is the only one
first_label : (n goal : ℕ) → goal < n → IsPut (λ _. None) (label_of (set (replicate n None) goal (Some home))) goal (Some home)
first_label n goal low =
    record {
      here =
          get_or-set_same
          (replicate n None)
          goal
          (Some home)
          None
          (let len : length (replicate {A = Option Label} n None) ≡ n = length-replicate n None in omega arith);
      other = λ w away. get_or-set_other (replicate n None) goal w (Some home) None away ∙ same_everywhere n None w;
    }

-- what the code has made
pub record IsFresh (g : GraphView) (s : Search) : Type 0 where
  pub limits : IsWithinLimits g
  pub place : s.destination < g.nodes
  pub labels : s.labels.items ≡ set (replicate g.nodes None) s.destination (Some home)
  pub settled : s.settled.items ≡ replicate g.nodes false
  pub queue : (k : Entry) → Among k s.queue ↔ (entry_of home s.destination ≡ k)

-- it is a search that has looked at nothing
pub started : (g : GraphView) (s : Search) → IsFresh g s → IsSearching g s home []
started g s fresh =
    record {
      limits = fresh.limits;
      labels_len = ap length fresh.labels ∙ length-set (replicate g.nodes None) s.destination (Some home) ∙ length-replicate g.nodes None;
      settled_len = ap length fresh.settled ∙ length-replicate g.nodes false;
      search =
          subst
          (λ n. IsSearch g s.destination (label_of s.labels.items) (settled_of s.settled.items) n home [])
          (sym zero')
          (begun fresh.limits (label_of s.labels.items) (settled_of s.settled.items) only_home none);
      queue = queue_begun (label_of s.labels.items) (settled_of s.settled.items) s.destination s.queue only_home none fresh.queue;
    }
  where
    only_home : IsPut (λ _. None) (label_of s.labels.items) s.destination (Some home)
    only_home =
        subst
        (λ (ls : List (Option Label)). IsPut (λ _. None) (label_of ls) s.destination (Some home))
        (sym fresh.labels)
        (first_label g.nodes s.destination fresh.place)

    none : (v : ℕ) → settled_of s.settled.items v ≡ false
    none v = subst (λ (bs : List Bool). settled_of bs v ≡ false) (sym fresh.settled) (same_everywhere g.nodes false v)

    zero' : settled_count s.settled.items ≡ 0
    zero' = subst (λ (bs : List Bool). settled_count bs ≡ 0) (sym fresh.settled) (count_none g.nodes)
