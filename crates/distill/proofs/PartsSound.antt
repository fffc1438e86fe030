-- What holds of the parts of every mode: numbers that the topology has, and no node twice on the border.
use Rattle.std.proofs.Common.{ℕ, zero, suc, ◌+◌, ◌<◌, ◌≤◌, Bool, true, false, not, cond, List, [], ◌∷◌, ◌++◌, length, get_or, filter, take, All, inl, inr, arith}
use Rattle.std.specs.List.{range_with_len}
use Rattle.std.proofs.lemmas.List.FromFn.{length-range_with_len}
use Rattle.mn_base.specs.Among.{Among}
use Rattle.mn_base.specs.declared.limits.TheConstants.{NODES_MAX, FRONTIERS_MAX}
use Rattle.mn_base.proofs.Members.{Among-from-filter}
use Rattle.topo.specs.TopologyView.{TopologyView}
use Rattle.topo.specs.Nodes.{edge_nodes_of}
use Rattle.frontier.specs.NodeSets.{is_in_one}
use Rattle.frontier.specs.Frontiers.{frontiers_of}
use Rattle.frontier.proofs.Numbers.{filter-range-below}
use Rattle.walk_out.specs.Parts.{link_at, is_outer_link, parts_around}
use Rattle.walk_out.specs.WalkOut.{is_outer}
use Rattle.distill.specs.declared.modes.Mode.{Mode}
use Rattle.distill.specs.declared.modes.Mode.TheVariants.{Hop, Walk, End, WalkOut}
use Rattle.distill.specs.Modes.{parts_of}
use Rattle.distill.specs.PipeCount.{AreDistinct}
use Rattle.distill.specs.Sound.{AreSound}

length-filter : (p : ℕ → Bool) (xs : List ℕ) → length (filter p xs) ≤ length xs
length-filter p [] = omega arith
length-filter p (x ∷ xs) = go (p x) (length-filter p xs)
  where
    go : (b : Bool) → length (filter p xs) ≤ length xs → length (cond b (x ∷ filter p xs) (filter p xs)) ≤ suc (length xs)
    go true h = omega arith
    go false h = omega arith

-- the numbers from a on are above all before them
range-from : (a n v : ℕ) → Among v (range_with_len a n) → a ≤ v
range-from a zero v there = absurd there
range-from a (suc n) v (inl here) = omega arith
range-from a (suc n) v (inr later) = let above = range-from (a + 1) n v later in omega arith

AreDistinct-range : (a n : ℕ) → AreDistinct (range_with_len a n)
AreDistinct-range a zero = tt
AreDistinct-range a (suc n) = ((λ there. let above = range-from (a + 1) n a there in absurd (omega arith)), AreDistinct-range (a + 1) n)

AreDistinct-filter : (p : ℕ → Bool) (xs : List ℕ) → AreDistinct xs → AreDistinct (filter p xs)
AreDistinct-filter p [] distinct = tt
AreDistinct-filter p (x ∷ xs) distinct = go (p x) (AreDistinct-filter p xs distinct.1)
  where
    go : (b : Bool) → AreDistinct (filter p xs) → AreDistinct (cond b (x ∷ filter p xs) (filter p xs))
    go true rest = ((λ there. distinct.0 (Among-from-filter p x xs there).0), rest)
    go false rest = rest

-- nodes that were chosen by a test, in number order
pub record AreChosen (n : ℕ) (nodes : List ℕ) : Type 0 where
  pub below : All (λ v. v < n) nodes
  pub distinct : AreDistinct nodes
  pub few : length nodes ≤ n

pub chosen : (p : ℕ → Bool) (n : ℕ) → AreChosen n (filter p (range_with_len 0 n))
chosen p n = record {
  below = filter-range-below p n;
  distinct = AreDistinct-filter p (range_with_len 0 n) (AreDistinct-range 0 n);
  few = let fewer = length-filter p (range_with_len 0 n) in omega (arith, length-range_with_len 0 n);
}

none_chosen : (n : ℕ) → AreChosen n []
none_chosen n = record { below = λ i d within. absurd (omega arith); distinct = tt; few = omega arith }

-- each frontier is chosen so
push_at : (P : List ℕ → Type 0) (fs : List (List ℕ)) (f : List ℕ) (i : ℕ) → ((j : ℕ) → P (get_or fs j [])) → P f → P (get_or (fs ++ f ∷ []) i [])
push_at P [] f zero all here = here
push_at P [] f (suc i) all here = all i
push_at P (g ∷ fs) f zero all here = all 0
push_at P (g ∷ fs) f (suc i) all here = push_at P fs f i (λ j. all (suc j)) here

pub frontier_is_chosen : (t : TopologyView) (k i : ℕ) → AreChosen (length t.nodes) (get_or (frontiers_of t k) i [])
unfolding frontiers_of
frontier_is_chosen t zero i = push_at (AreChosen (length t.nodes)) [] (edge_nodes_of t.nodes) i
    (λ j. none_chosen (length t.nodes)) (chosen _ (length t.nodes))
frontier_is_chosen t (suc k) i = push_at (AreChosen (length t.nodes)) (frontiers_of t k) _ i (frontier_is_chosen t k) (chosen _ (length t.nodes))

-- parts around a border of chosen nodes
sound_around : (t : TopologyView) (outer : ℕ → Bool) (border : List ℕ) → length t.nodes ≤ NODES_MAX → AreChosen (length t.nodes) border
    → AreSound t (parts_around t.links outer border)
sound_around t outer border few chosen_border =
    let kept = chosen (λ e. is_outer_link outer (link_at t.links e)) (length t.links) in
    let middle = chosen (λ e. not (is_outer_link outer (link_at t.links e))) (length t.links) in
    let fewer : length border ≤ length t.nodes = chosen_border.few in
    record {
      kept = kept.below;
      few_kept = kept.few;
      middle = middle.below;
      few_middle = middle.few;
      border = chosen_border.below;
      distinct = chosen_border.distinct;
      few_border = omega arith;
    }

pub parts_are_sound : (t : TopologyView) (mode : Mode) → length t.nodes ≤ NODES_MAX → AreSound t (parts_of t mode)
parts_are_sound t Hop few = sound_around t (λ v. true) [] few (none_chosen (length t.nodes))
parts_are_sound t (Walk w) few = sound_around t (λ v. is_in_one v (take w (frontiers_of t w))) _ few (frontier_is_chosen t w w)
parts_are_sound t End few = sound_around t (λ v. is_in_one v (take 0 (frontiers_of t 0))) _ few (frontier_is_chosen t 0 0)
parts_are_sound t (WalkOut w o) few = sound_around t (is_outer (frontiers_of t FRONTIERS_MAX) w o) _ few (chosen _ (length t.nodes))
