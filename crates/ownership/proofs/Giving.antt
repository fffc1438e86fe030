-- What holds after a pipe was given, and before the first turn.
use Rattle.std.proofs.Common.{◌≡◌, ◌<◌, ◌≤◌, ◌*◌, ◌/◌, ◌==◌, ℕ, Bool, true, false, ◌||◌, List, [], ◌∷◌, ◌++◌, length, get_or, set, map, Option, Some, None, option_map, find, refl, sym, ap, ◌∙◌, subst, arith, length-set}
use Rattle.std.specs.Prelude.{slice_get, unwrap_or}
use Rattle.std.specs.Option.{option_map_or}
use Rattle.std.proofs.lemmas.Bool.{or_left, or_from, false≢true}
use Rattle.std.proofs.lemmas.Option.{slice_get-get_or}
use Rattle.std.proofs.lemmas.List.{ext_get_or, get_or-map, length-map}
use Rattle.std.proofs.lemmas.List.FromFn.{get_or-map-range_with_len, length-map-range_with_len}
use Rattle.mn_base.specs.Among.{Among}
use Rattle.distill.specs.declared.pipes.DistilledPipe.{DistilledPipe}
use Rattle.distill.specs.Distilled.{DistilledView}
use Rattle.frontier.specs.NodeSets.{has}
use Rattle.ownership.specs.declared.reach.Reach.{Reach}
use Rattle.ownership.specs.declared.turns.Turns.{Turns}
use Rattle.ownership.specs.Owners.{IsFree, AreOwners}
use Rattle.ownership.specs.Assignment.{Owned, is_owned, pipe_of_turn, owned_after, assigned, owner_in, owners_of}
use Rattle.ownership.specs.Turning.{IsRowOf, AddsNode, IsReach, HoldsTurns}
use Rattle.ownership.proofs.Finds.{is_owned-push, owners_more}
use Rattle.ownership.proofs.Reaches.{given, not_given, near_more, all_more}
use Rattle.ownership.proofs.TurnSteps.{reaches_set}
use Rattle.ownership.proofs.EachOnce.{turn_pipe}

-- the pipe of a turn is given to its core, which reaches both ends of it from then on
pub record GivesPipe (d : DistilledView) (cores : ℕ) (owned : List Owned) (t t' : Turns) (core pipe : ℕ) : Type 0 where
  pub low : core < cores
  pub turn : pipe_of_turn d cores owned core ≡ Some pipe
  pub holds : HoldsTurns d cores owned (Some pipe) t
  pub ends : DistilledPipe
  pub ends_are : slice_get d.pipes pipe ≡ Some ends
  pub from_row : List ℕ
  pub from_is : IsRowOf d.pipes ends.from from_row
  pub to_row : List ℕ
  pub to_is : IsRowOf d.pipes ends.to to_row
  pub old : Reach
  pub reach_is : old ≡ get_or t.reaches.items core old
  pub mid : Reach
  pub first : AddsNode ends.from from_row (set t.owners.items pipe (Some core)) old mid
  pub new : Reach
  pub second : AddsNode ends.to to_row (set t.owners.items pipe (Some core)) mid new
  pub owners : t'.owners.items ≡ set t.owners.items pipe (Some core)
  pub reaches : t'.reaches.items ≡ set t.reaches.items core new
  pub least : t'.least ≡ t.least

-- then the core owns it
pub gave : (d : DistilledView) (cores : ℕ) (owned : List Owned) (t t' : Turns) (core pipe : ℕ) → GivesPipe d cores owned t t' core pipe
    → HoldsTurns d cores (owned ++ record { pipe = pipe; core = core } ∷ []) None t'
gave d cores owned t t' core pipe g = record {
  owners = subst (AreOwners (length d.pipes) (owned ++ record { pipe = pipe; core = core } ∷ [])) (sym g.owners) are;
  len = ap length g.reaches ∙ length-set t.reaches.items core g.new ∙ g.holds.len;
  reaches = λ c other within.
      subst (λ (rs : List Reach). IsReach d cores (owned ++ record { pipe = pipe; core = core } ∷ []) None c (get_or rs c other)) (sym g.reaches)
      (reaches_set d cores owned (owned ++ record { pipe = pipe; core = core } ∷ []) (Some pipe) None t.reaches.items core g.new g.holds.len g.low
      (given d cores owned (set t.owners.items pipe (Some core)) (record { pipe = pipe; core = core }) g.ends g.from_row g.to_row g.old g.mid g.new
      g.ends_are are (subst (IsReach d cores owned (Some pipe) core) (sym g.reach_is) (g.holds.reaches core g.old g.low)) g.from_is g.to_is g.first
      g.second)
      (λ k o inside away.
      not_given d cores owned (record { pipe = pipe; core = core }) k (get_or t.reaches.items k o) (λ same. away (sym same))
      (g.holds.reaches k o inside))
      c other within);
  below = λ q before.
      is_owned-push owned (record { pipe = pipe; core = core }) q
      ∙ or_left (is_owned owned q) (pipe == q) (g.holds.below q (subst (λ n. q < n) g.least before));
  least = subst (λ n. n ≤ length d.pipes) (sym g.least) g.holds.least;
}
  where
    are : AreOwners (length d.pipes) (owned ++ record { pipe = pipe; core = core } ∷ []) (set t.owners.items pipe (Some core))
    are =
        let free = turn_pipe d cores owned core pipe g.turn in
        owners_more (length d.pipes) owned t.owners.items (record { pipe = pipe; core = core }) g.holds.owners free.0 free.1

pub as_next : (d : DistilledView) (cores : ℕ) (owned next : List Owned) (t : Turns) → next ≡ owned → HoldsTurns d cores owned None t
    → HoldsTurns d cores next None t
as_next d cores owned next t same holds = subst (λ (o : List Owned). HoldsTurns d cores o None t) (sym same) holds

-- the node where a core starts
pub start_node : (d : DistilledView) (es : List ℕ) (place core cores len : ℕ) → es ≡ d.edge_nodes → len ≡ length es
    → place ≡ core * len / cores → place < len → slice_get d.edge_nodes (core * length d.edge_nodes / cores) ≡ Some (get_or es place 0)
start_node d es place core cores len same len_is place_is low =
    let count : len ≡ length d.edge_nodes = len_is ∙ ap length same in
    ap (λ n. slice_get d.edge_nodes (core * n / cores)) (sym count)
    ∙ ap (slice_get d.edge_nodes) (sym place_is)
    ∙ slice_get-get_or d.edge_nodes place 0 (omega (arith, low, count))
    ∙ ap (λ (xs : List ℕ). Some (get_or xs place 0)) (sym same)

-- a core starts with a node, whose row is added to a reach of nothing
pub record StartsAt (d : DistilledView) (cores core : ℕ) (new : Reach) : Type 0 where
  pub node : ℕ
  pub node_is : slice_get d.edge_nodes (core * length d.edge_nodes / cores) ≡ Some node
  pub row : List ℕ
  pub row_is : IsRowOf d.pipes node row
  pub owners : List (Option ℕ)
  pub free : (q : ℕ) → IsFree owners q
  pub old : Reach
  pub size : length old.nodes ≡ d.nodes
  pub empty : (u : ℕ) → has old.nodes u ≡ false
  pub none : old.near ≡ []
  pub adds : AddsNode node row owners old new

-- before the first turn a core has the node where it starts
pub started : (d : DistilledView) (cores core : ℕ) (new : Reach) → StartsAt d cores core new → IsReach d cores [] None core new
started d cores core new s = record {
  size = s.adds.size ∙ s.size;
  nodes = λ u within.
      s.adds.nodes u
      ∙ ap (λ (b : Bool). b || s.node == u) (s.empty u)
      ∙ sym (ap (λ (o : Option ℕ). option_map_or (λ w. w == u) o false || false) s.node_is ∙ or_false (s.node == u));
  near = near_more d.pipes s.node s.row s.owners s.old new s.adds s.row_is (λ q there. absurd (subst (Among q) s.none there));
  all = λ q unowned gone e.
      all_more d.pipes s.node s.row s.owners s.old new s.adds s.row_is q (s.free q)
      (λ ends. absurd (no_end (slice_get d.pipes q) ends)) e;
}
  where
    or_false : (b : Bool) → (b || false) ≡ b
    or_false true = refl
    or_false false = refl

    no_end : (o : Option DistilledPipe) → option_map_or (λ pipe. has s.old.nodes pipe.from || has s.old.nodes pipe.to) o false ≡ true → ⊥
    no_end None e = false≢true e
    no_end (Some pipe) e =
        false≢true
        (sym (or_from _ _ (s.empty pipe.from) (s.empty pipe.to)) ∙ e)

-- ---- in the end
pub owners_settled : (d : DistilledView) (cores : ℕ) (owners : List (Option ℕ)) → AreOwners (length d.pipes) (assigned d cores) owners
    → map (λ owner. unwrap_or owner 0) owners ≡ owners_of d cores
owners_settled d cores owners are =
    ext_get_or 0 (map (λ owner. unwrap_or owner 0) owners) (owners_of d cores)
    (length-map owners (λ (o : Option ℕ). unwrap_or o 0) ∙ are.len ∙ sym (length-map-range_with_len (owner_in (assigned d cores)) 0 (length d.pipes)))
    (λ q within.
    let len : length owners ≡ length d.pipes = are.len in
    let low : q < length d.pipes = omega (arith, within, len, length-map owners (λ (o : Option ℕ). unwrap_or o 0)) in
    get_or-map (λ (o : Option ℕ). unwrap_or o 0) owners q None 0 (omega (arith, low, len))
    ∙ ap (λ (o : Option ℕ). unwrap_or o 0) (are.are q low)
    ∙ unwrapped (find (λ o. o.pipe == q) (assigned d cores))
    ∙ sym (get_or-map-range_with_len (owner_in (assigned d cores)) 0 (length d.pipes) q q 0 low (omega arith)))
  where
    unwrapped : (o : Option Owned) → unwrap_or (option_map (λ p. p.core) o) 0 ≡ option_map_or (λ p. p.core) o 0
    unwrapped None = refl
    unwrapped (Some o) = refl

pub owners_at_end : (d : DistilledView) (cores turn : ℕ) (t : Turns) → turn ≡ length d.pipes → HoldsTurns d cores (owned_after d cores turn) None t
    → map (λ owner. unwrap_or owner 0) t.owners.items ≡ owners_of d cores
owners_at_end d cores turn t end holds =
    owners_settled d cores t.owners.items (subst (λ n. AreOwners (length d.pipes) (owned_after d cores n) t.owners.items) end holds.owners)
