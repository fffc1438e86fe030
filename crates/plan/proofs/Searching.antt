-- Searches that were made stay, and what a search answers.
use Rattle.std.proofs.Common.{◌≡◌, ◌<◌, ⊎_elim, ℕ, List, length, get_or, set, All, Option, Some, None, Result, sym, ap, ◌∙◌, subst, arith, length-set}
use Rattle.std.specs.Prelude.{slice_get, IfOk, Vec}
use Rattle.std.proofs.lemmas.Bool.{cases_eq}
use Rattle.std.proofs.lemmas.List.{get_or-set_same, get_or-set_other}
use Rattle.std.proofs.lemmas.Option.{slice_get_within, get_or_from_slice_get, slice_get-get_or}
use Rattle.routes.specs.declared.graph.Arc.{Arc}
use Rattle.routes.specs.GraphView.{GraphView}
use Rattle.routes.specs.RoutesView.{RoutesView}
use Rattle.routes.specs.Walk.{IsWalk}
use Rattle.routes.specs.LeastWalk.{IsNoGreater, IsLeastWalk}
use Rattle.mn_base.specs.declared.causes.Unbound.{Unbound}
use Rattle.mn_base.specs.declared.refusal.NoMemory.{NoMemory}
use Rattle.plan.specs.Searches.{AreSearches, FindsRoute}

pub no_searches : (graph : GraphView) (found : List (Option RoutesView)) → length found ≡ graph.nodes
    → All (λ (o : Option RoutesView). o ≡ None) found → AreSearches graph found
no_searches graph found len none = record {
  len = len;
  of_graph = λ v r there. absurd (never v r there);
  toward = λ v r there. absurd (never v r there);
}
  where
    never : (v : ℕ) (r : RoutesView) → slice_get found v ≡ Some (Some r) → ⊥
    never v r there =
        let is : get_or found v None ≡ Some r = get_or_from_slice_get found v (Some r) None there in
        let no : get_or found v None ≡ None = none v None (slice_get_within found v (Some r) there) in
        let both : None ≡ Some r = sym no ∙ is in
        cc

pub search_made : (graph : GraphView) (found : List (Option RoutesView)) (d : ℕ) (r : RoutesView) → AreSearches graph found
    → d < graph.nodes → r.graph ≡ graph → r.destination ≡ d → AreSearches graph (set found d (Some r))
search_made graph found d r are low of_graph toward = record {
  len = length-set found d (Some r) ∙ are.len;
  of_graph = λ v s there. (one v s there).0;
  toward = λ v s there. (one v s there).1;
}
  where
    one : (v : ℕ) (s : RoutesView) → slice_get (set found d (Some r)) v ≡ Some (Some s) → (s.graph ≡ graph) × (s.destination ≡ v)
    one v s there =
        let is : get_or (set found d (Some r)) v None ≡ Some s = get_or_from_slice_get (set found d (Some r)) v (Some s) None there in
        let inside : v < length (set found d (Some r)) = slice_get_within (set found d (Some r)) v (Some s) there in
        let within : v < length found = omega (arith, inside, length-set found d (Some r)) in
        ⊎_elim
        (λ (here : v ≡ d).
        let at : get_or (set found d (Some r)) v None ≡ Some r =
        ap (λ (n : ℕ). get_or (set found d (Some r)) n None) here
        ∙ get_or-set_same found d (Some r) None (let len = are.len in omega (arith, len, low)) in
        let both : Some r ≡ Some s = sym at ∙ is in
        let same : r ≡ s = cc in
        (ap (λ (x : RoutesView). x.graph) (sym same) ∙ of_graph, ap (λ (x : RoutesView). x.destination) (sym same) ∙ toward ∙ sym here))
        (λ (away : v ≡ d → ⊥).
        let before : get_or found v None ≡ Some s = sym (get_or-set_other found d v (Some r) None away) ∙ is in
        let was : slice_get found v ≡ Some (Some s) = slice_get-get_or found v None within ∙ ap (λ (o : Option RoutesView). Some o) before in
        (are.of_graph v s was, are.toward v s was))
        (cases_eq v d)

pub least_from : (arcs : List Arc) (a b : ℕ) (walk : List ℕ) → IsWalk arcs a b walk → ((other : List ℕ) → IsWalk arcs a b other → IsNoGreater arcs walk other)
    → IsLeastWalk arcs a b walk
least_from arcs a b walk is least = record { walk = is; least = least }

-- the routes that were found for a node are those of the graph to it
pub found_before : {A : Type 0} (graph : GraphView) (found : List (Option RoutesView)) (s d : ℕ) (r : RoutesView)
    (result : Result (Result (Vec ℕ A) Unbound) NoMemory) → AreSearches graph found → slice_get found d ≡ Some (Some r)
    → IfOk result (FindsRoute r.graph.arcs s r.destination) → IfOk result (FindsRoute graph.arcs s d)
found_before graph found s d r result are there is =
    subst (λ (n : ℕ). IfOk result (FindsRoute graph.arcs s n)) (are.toward d r there)
    (subst (λ (g : GraphView). IfOk result (FindsRoute g.arcs s r.destination)) (are.of_graph d r there) is)

pub found_now : {A : Type 0} (graph g : GraphView) (s d e : ℕ) (result : Result (Vec ℕ A) Unbound) → g ≡ graph → e ≡ d
    → FindsRoute g.arcs s e result → FindsRoute graph.arcs s d result
found_now graph g s d e result same toward is =
    subst (λ (n : ℕ). FindsRoute graph.arcs s n result) toward (subst (λ (h : GraphView). FindsRoute h.arcs s e result) same is)
