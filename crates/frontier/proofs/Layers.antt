-- The frontiers one by one: how many there are, that they have nodes alone, and the step from some of them to one more.
use Rattle.std.proofs.Common.{◌≡◌, ℕ, zero, suc, ◌+◌, ◌<◌, ◌==◌, ◌&&◌, ◌||◌, Vec, Global, Bool, true, false, not, List, [], ◌∷◌, ◌++◌, length, get_or, filter, map, All, refl, sym, ◌∙◌, ap, arith, add-one, length-append}
use Rattle.std.specs.List.{range_with_len}
use Rattle.std.proofs.lemmas.List.{get_or-map, map-append}
use Rattle.std.proofs.lemmas.List.Folds.{list_any-append}
use Rattle.topo.specs.declared.parts.Link.{Link}
use Rattle.topo.specs.TopologyView.{TopologyView}
use Rattle.frontier.specs.NodeSets.{is_in, is_in_one, is_beside, joins_to}
use Rattle.topo.specs.Nodes.{edge_nodes_of}
use Rattle.frontier.specs.Frontiers.{frontier_after, frontiers_of}
use Rattle.frontier.proofs.Numbers.{filter-none, filter-same, filter-range-below, or_false}

-- F_1 to F_(k+1) are k + 1 lists
pub length-frontiers_of : (t : TopologyView) (k : ℕ) → length (frontiers_of t k) ≡ k + 1
unfolding frontiers_of
length-frontiers_of t zero = refl
length-frontiers_of t (suc k) =
    let before : length (frontiers_of t k) ≡ k + 1 = length-frontiers_of t k in
    let both = length-append (frontiers_of t k) (frontier_after t (frontiers_of t k) (get_or (frontiers_of t k) k []) ∷ []) in
    omega (arith, both)

pub frontiers_of-more : (t : TopologyView) (k : ℕ)
    → frontiers_of t (k + 1) ≡ frontiers_of t k ++ frontier_after t (frontiers_of t k) (get_or (frontiers_of t k) k []) ∷ []
unfolding frontiers_of
frontiers_of-more t k = rw add-one refl

-- a node stands in one of the lists and one more where it stands in one of the lists, or in that one
pub is_in_one-push : (v : ℕ) (fs : List (List ℕ)) (f : List ℕ) → is_in_one v (fs ++ f ∷ []) ≡ (is_in_one v fs || is_in v f)
is_in_one-push v fs f = list_any-append (is_in v) fs (f ∷ []) ∙ ap (λ b. is_in_one v fs || b) (or_false (is_in v f))

-- the code's test agrees with the definition's: whether a node was reached, and which list came last
pub frontier_after-is : (t : TopologyView) (k : ℕ) (before : List (List ℕ)) (reached : ℕ → Bool) (last next : List ℕ) → before ≡ frontiers_of t k
    → ((v : ℕ) → reached v ≡ is_in_one v (frontiers_of t k)) → last ≡ get_or before k []
    → next ≡ filter (λ v. not (reached v) && is_beside t.links (λ u. is_in u last) v) (range_with_len 0 (length t.nodes))
    → before ++ next ∷ [] ≡ frontiers_of t (k + 1)
frontier_after-is t k before reached last next same reaches is_last is =
    let step : next ≡ frontier_after t (frontiers_of t k) last = is
    ∙ filter-same _ _ (range_with_len 0 (length t.nodes))
    (λ v. ap (λ b. not b && is_beside t.links (λ u. is_in u last) v) (reaches v)) in
    let last_is : last ≡ get_or (frontiers_of t k) k [] = is_last ∙ ap (λ fs. get_or fs k []) same in
    ap (λ fs. fs ++ next ∷ []) same ∙ ap (λ f. frontiers_of t k ++ f ∷ []) (step ∙ ap (frontier_after t (frontiers_of t k)) last_is)
    ∙ sym (frontiers_of-more t k)

-- and after it
pub reached-more : (t : TopologyView) (k v : ℕ) {before : List (List ℕ)} (next : List ℕ) {reached reached' : Bool} → before ≡ frontiers_of t k
    → before ++ next ∷ [] ≡ frontiers_of t (k + 1) → reached ≡ is_in_one v (frontiers_of t k) → reached' ≡ (reached || is_in v next)
    → reached' ≡ is_in_one v (frontiers_of t (k + 1))
reached-more t k v {before} next {reached} {reached'} same more so_far now =
    now ∙ ap (λ b. b || is_in v next) (so_far ∙ ap (is_in_one v) (sym same)) ∙ sym (is_in_one-push v before next) ∙ ap (is_in_one v) more

-- an empty list joins no node to it
none_beside_empty : (links : List Link) (v : ℕ) → is_beside links (λ u. is_in u []) v ≡ false
none_beside_empty [] v = refl
none_beside_empty (l ∷ links) v = neither (l.from == v) (l.to == v) (none_beside_empty links v)
  where
    neither : (a b : Bool) {rest : Bool} → rest ≡ false → (((a && false) || (b && false)) || rest) ≡ false
    neither true true e = e
    neither true false e = e
    neither false true e = e
    neither false false e = e

pub none_after_empty : (t : TopologyView) (reached : ℕ → Bool) (last : List ℕ) → length last ≡ 0
    → filter (λ v. not (reached v) && is_beside t.links (λ u. is_in u last) v) (range_with_len 0 (length t.nodes)) ≡ []
none_after_empty t reached [] empty = filter-none _ (range_with_len 0 (length t.nodes)) (λ v. fails (not (reached v)) (none_beside_empty t.links v))
  where
    fails : (a : Bool) {b : Bool} → b ≡ false → (a && b) ≡ false
    fails true e = e
    fails false e = refl
none_after_empty t reached (v ∷ last) empty = absurd (omega arith)

-- the list of the code is that of the definition, where the marks that it read are those of `beside`
pub next-is : (t : TopologyView) (reached beside : ℕ → Bool) (last next : List ℕ) (n : ℕ) → n ≡ length t.nodes
    → ((v : ℕ) → beside v ≡ is_beside t.links (λ u. is_in u last) v)
    → next ≡ filter (λ v. not (reached v) && beside v) (range_with_len 0 n)
    → next ≡ filter (λ v. not (reached v) && is_beside t.links (λ u. is_in u last) v) (range_with_len 0 (length t.nodes))
next-is t reached beside last next n size same is =
    is ∙ ap (λ m. filter (λ v. not (reached v) && beside v) (range_with_len 0 m)) size
    ∙ filter-same _ _ (range_with_len 0 (length t.nodes)) (λ v. ap (λ b. not (reached v) && b) (same v))

-- marks that agree have the same nodes beside them
pub is_beside-same : (links : List Link) (set set' : ℕ → Bool) (v : ℕ) → ((u : ℕ) → set u ≡ set' u) → is_beside links set v ≡ is_beside links set' v
is_beside-same [] set set' v same = refl
is_beside-same (l ∷ links) set set' v same =
    ap (λ b. (((l.from == v) && b) || ((l.to == v) && set l.from)) || is_beside links set v) (same l.to)
    ∙ ap (λ b. (((l.from == v) && set' l.to) || ((l.to == v) && b)) || is_beside links set v) (same l.from)
    ∙ ap (λ b. joins_to set' v l || b) (is_beside-same links set set' v same)

-- the last of the lists, as the code reads it
pub last-is : (fs : List (Vec ℕ Global)) (k : ℕ) (f : Vec ℕ Global) → k < length fs → f ≡ get_or fs k f
    → f.items ≡ get_or (map (λ (f : Vec ℕ Global). f.items) fs) k []
last-is fs k f within is = ap (λ (f : Vec ℕ Global). f.items) is ∙ sym (get_or-map (λ (f : Vec ℕ Global). f.items) fs k f [] within)

-- all lists have nodes alone, with one list more
pub All-push : {X : Type 0} (P : X → Type 0) (xs : List X) (x : X) → All P xs → P x → All P (xs ++ x ∷ [])
All-push P [] x all here zero d within = here
All-push P [] x all here (suc k) d within = absurd (omega arith)
All-push P (y ∷ xs) x all here zero d within = all 0 d (omega arith)
All-push P (y ∷ xs) x all here (suc k) d within = All-push P xs x (λ i e w. all (suc i) e (omega arith)) here k d (omega arith)

-- what is true of each list in a push
pub items-push : (fs fs' : List (Vec ℕ Global)) (f : Vec ℕ Global) → fs' ≡ fs ++ f ∷ []
    → map (λ (f : Vec ℕ Global). f.items) fs' ≡ map (λ (f : Vec ℕ Global). f.items) fs ++ f.items ∷ []
items-push fs fs' f is = ap (map (λ (f : Vec ℕ Global). f.items)) is ∙ map-append (λ (f : Vec ℕ Global). f.items) fs (f ∷ [])

-- the first frontier
pub first-is : (t : TopologyView) (first : List ℕ) → first ≡ edge_nodes_of t.nodes → first ∷ [] ≡ frontiers_of t 0
unfolding frontiers_of
first-is t first is = ap (λ f. f ∷ []) is

pub first-reached : (t : TopologyView) (v : ℕ) (first : List ℕ) (now now' : Bool) → first ≡ edge_nodes_of t.nodes → now ≡ false
    → now' ≡ (now || is_in v first) → now' ≡ is_in_one v (frontiers_of t 0)
unfolding frontiers_of
first-reached t v first now now' is none added =
    added ∙ ap (λ b. b || is_in v first) none ∙ ap (is_in v) is ∙ sym (or_false (is_in v (edge_nodes_of t.nodes)))

-- every frontier has nodes alone
pub frontiers_of-below : (t : TopologyView) (k : ℕ) → All (λ f. All (λ v. v < length t.nodes) f) (frontiers_of t k)
unfolding frontiers_of
frontiers_of-below t zero = All-push (λ f. All (λ v. v < length t.nodes) f) [] (edge_nodes_of t.nodes)
    (λ i d within. absurd (omega arith)) (filter-range-below _ (length t.nodes))
frontiers_of-below t (suc k) = All-push
    (λ f. All (λ v. v < length t.nodes) f) (frontiers_of t k) _ (frontiers_of-below t k) (filter-range-below _ (length t.nodes))
