-- Parts by sets of nodes that the code keeps as marks, and by frontiers that it keeps as vectors.
use Rattle.std.proofs.Common.{◌≡◌, ℕ, ◌+◌, ◌-◌, ◌<◌, ◌&&◌, ◌||◌, min, max, Vec, Global, Bool, not, List, [], length, get_or, filter, map, take, drop, All, sym, ◌∙◌, ap, subst, arith, inl, inr, ◌⊎◌}
use Rattle.std.specs.List.{range_with_len}
use Rattle.std.proofs.lemmas.Bool.{cases_order}
use Rattle.std.proofs.lemmas.List.{get_or-map, length-map, take-map, drop-map, drop_all}
use Rattle.std.proofs.lemmas.List.Elements.{All-take, All-drop}
use Rattle.topo.specs.declared.parts.Link.{Link}
use Rattle.topo.specs.TopologyView.{TopologyView}
use Rattle.frontier.specs.NodeSets.{is_in, is_in_one, is_beside}
use Rattle.frontier.specs.Frontiers.{frontiers_of}
use Rattle.frontier.proofs.Numbers.{filter-same}
use Rattle.frontier.proofs.Layers.{length-frontiers_of, frontiers_of-below, is_beside-same}
use Rattle.walk_out.specs.Parts.{link_at, is_outer_link, parts_around}
use Rattle.walk_out.specs.WalkOut.{walk_parts, nonempty_count, core_of, is_outer, walk_out_border}

-- vectors as lists
abbrev pub items_of : List (Vec ℕ Global) → List (List ℕ)
items_of fs = map (λ (f : Vec ℕ Global). f.items) fs

abbrev pub HasBelow : ℕ → Vec ℕ Global → Type 0
HasBelow n f = All (λ v. v < n) f.items

-- vectors with the frontiers F_1 to F_(k+1): there are k + 1 of them, and they have nodes alone
pub record Reads (t : TopologyView) (k : ℕ) (fs : List (Vec ℕ Global)) : Type 0 where
  pub lists : items_of fs ≡ frontiers_of t k
  pub count : length fs ≡ k + 1
  pub below : All (HasBelow (length t.nodes)) fs

pub reads : (t : TopologyView) (k : ℕ) (fs : List (Vec ℕ Global)) → items_of fs ≡ frontiers_of t k → Reads t k fs
reads t k fs same = record { lists = same; count = count; below = below }
  where
    count : length fs ≡ k + 1
    count = sym (length-map fs (λ (f : Vec ℕ Global). f.items)) ∙ ap length same ∙ length-frontiers_of t k

    below : All (HasBelow (length t.nodes)) fs
    below i d within =
        let there = get_or-map (λ (f : Vec ℕ Global). f.items) fs i d d.items within in
        let within_lists : i < length (frontiers_of t k) = omega (arith, length-frontiers_of t k, count) in
        subst (All (λ v. v < length t.nodes)) (ap (λ gs. get_or gs i d.items) (sym same) ∙ there) (frontiers_of-below t k i d.items within_lists)

-- the first w lists, as the code takes them
pub items_of-take : (fs : List (Vec ℕ Global)) (gs : List (List ℕ)) (w : ℕ) → items_of fs ≡ gs → items_of (take w fs) ≡ take w gs
items_of-take fs gs w same = sym (take-map (λ (f : Vec ℕ Global). f.items) w fs) ∙ ap (take w) same

pub items_of-drop : (fs : List (Vec ℕ Global)) (gs : List (List ℕ)) (w : ℕ) → items_of fs ≡ gs → items_of (drop w fs) ≡ drop w gs
items_of-drop fs gs w same = sym (drop-map (λ (f : Vec ℕ Global). f.items) w fs) ∙ ap (drop w) same

-- the parts are the same where the outer nodes and the border are
pub parts_around-same : (links : List Link) (s s' : ℕ → Bool) (b b' : List ℕ) → ((v : ℕ) → s v ≡ s' v) → b ≡ b'
    → parts_around links s b ≡ parts_around links s' b'
parts_around-same links s s' b b' same border =
    ap (λ (x : List ℕ). record {
      kept = x;
      border = b;
      middle = filter
          (λ e. not (is_outer_link s (link_at links e))) (range_with_len 0 (length links));
    }) kept
    ∙ ap (λ (x : List ℕ).
    record {
      kept = filter (λ e. is_outer_link s' (link_at links e)) (range_with_len 0 (length links));
      border = x;
      middle = filter
          (λ e. not (is_outer_link s (link_at links e))) (range_with_len 0 (length links));
    }) border
    ∙ ap (λ (x : List ℕ).
    record { kept = filter (λ e. is_outer_link s' (link_at links e)) (range_with_len 0 (length links)); border = b'; middle = x })
    middle
  where
    at : (l : Link) → is_outer_link s l ≡ is_outer_link s' l
    at l = ap (λ x. x || s l.to) (same l.from) ∙ ap (λ x. s' l.from || x) (same l.to)

    kept : filter (λ e. is_outer_link s (link_at links e)) (range_with_len 0 (length links)) ≡ filter
        (λ e. is_outer_link s' (link_at links e)) (range_with_len 0 (length links))
    kept = filter-same _ _ (range_with_len 0 (length links)) (λ e. at (link_at links e))

    middle : filter (λ e. not (is_outer_link s (link_at links e))) (range_with_len 0 (length links)) ≡ filter
        (λ e. not (is_outer_link s' (link_at links e))) (range_with_len 0 (length links))
    middle = filter-same _ _ (range_with_len 0 (length links)) (λ e. ap not (at (link_at links e)))

-- walk-in, by marks of the nodes of the first w frontiers
pub walk_parts-is : (t : TopologyView) (w : ℕ) (fs : List (Vec ℕ Global)) (outer : ℕ → Bool) (border : List ℕ) → items_of fs ≡ frontiers_of t w
    → ((v : ℕ) → outer v ≡ is_in_one v (items_of (take w fs))) → border ≡ get_or (items_of fs) w []
    → parts_around t.links outer border ≡ walk_parts t w
walk_parts-is t w fs outer border same marked is =
    parts_around-same t.links outer _ border _
    (λ v. marked v ∙ ap (is_in_one v) (items_of-take fs (frontiers_of t w) w same)) (is ∙ ap (λ gs. get_or gs w []) same)

-- beyond the end of a list nothing is dropped more
drop-min : {X : Type 0} (s c : ℕ) (xs : List X) → length xs ≡ c → drop (min s c) xs ≡ drop s xs
drop-min {X} s c xs len = go (cases_order s c)
  where
    go : (s ≡ c) ⊎ ((s < c) ⊎ (c < s)) → drop (min s c) xs ≡ drop s xs
    go (inl same) = let e : min s c ≡ s = omega arith in ap (λ n. drop n xs) e
    go (inr (inl less)) = let e : min s c ≡ s = omega arith in ap (λ n. drop n xs) e
    go (inr (inr more)) = let e : min s c ≡ c = omega arith in ap (λ n. drop n xs) e ∙ drop_all c xs (omega arith) ∙ sym (drop_all s xs (omega arith))

-- the core as the code cuts it out of the frontiers
pub core-is : {X : Type 0} (fs : List X) (count c o w : ℕ) → count ≡ c → length (take count fs) ≡ count
    → drop (min (max (count - o) (w + 1)) count) (take count fs) ≡ drop (max (c - o) (w + 1)) (take c fs)
core-is fs count c o w same len =
    drop-min (max (count - o) (w + 1)) count (take count fs) len ∙ ap (λ n. drop (max (n - o) (w + 1)) (take n fs)) same

pub core_of-is : (fs : List (Vec ℕ Global)) (gs : List (List ℕ)) (w o : ℕ) → items_of fs ≡ gs
    → items_of (drop (max (nonempty_count (items_of fs) - o) (w + 1)) (take (nonempty_count (items_of fs)) fs)) ≡ core_of gs w o
core_of-is fs gs w o same =
    items_of-drop _ (take (nonempty_count (items_of fs)) gs) (max (nonempty_count (items_of fs) - o) (w + 1))
    (items_of-take fs gs (nonempty_count (items_of fs)) same)
    ∙ ap (λ hs. drop (max (nonempty_count hs - o) (w + 1)) (take (nonempty_count hs) gs)) same

-- what the code has marked on the way to walk-out; gs are the frontiers
pub record AreMarked (t : TopologyView) (gs : List (List ℕ)) (w o : ℕ) (outer inmost near first : ℕ → Bool) : Type 0 where
  pub outer_are : (v : ℕ) → outer v ≡ is_outer gs w o v
  pub inmost_are : (v : ℕ) → inmost v ≡ is_in_one v (core_of gs w o)
  pub near_are : (v : ℕ) → near v ≡ is_beside t.links inmost v
  pub first_are : (v : ℕ) → first v ≡ is_in v (get_or gs w [])

-- the border is that of walk-out, since each node's marks are
pub walk_out_border-is : {t : TopologyView} {gs : List (List ℕ)} {w o n : ℕ} {outer inmost near first : ℕ → Bool} {border : List ℕ}
    → AreMarked t gs w o outer inmost near first
    → n ≡ length t.nodes → border ≡ filter (λ v. first v || (not (outer v) && near v)) (range_with_len 0 n) → border ≡ walk_out_border t gs w o
walk_out_border-is {t} {gs} {w} {o} {n} {outer} {inmost} {near} {first} m size is =
    is ∙ ap (λ k. filter (λ v. first v || (not (outer v) && near v)) (range_with_len 0 k)) size
    ∙ filter-same _ _ (range_with_len 0 (length t.nodes)) at
  where
    at : (v : ℕ) → (first v || (not (outer v) && near v)) ≡
        (is_in v (get_or gs w []) || (not (is_outer gs w o v) && is_beside t.links (λ u. is_in_one u (core_of gs w o)) v))
    at v =
        ap (λ b. b || (not (outer v) && near v)) (m.first_are v)
        ∙ ap (λ b. is_in v (get_or gs w []) || (not b && near v)) (m.outer_are v)
        ∙ ap (λ b. is_in v (get_or gs w []) || (not (is_outer gs w o v) && b)) (m.near_are v
        ∙ is_beside-same t.links inmost (λ u. is_in_one u (core_of gs w o)) v m.inmost_are)

-- the core has nodes alone
pub All-core : (fs core : List (Vec ℕ Global)) (w o n : ℕ)
    → core ≡ drop (max (nonempty_count (items_of fs) - o) (w + 1)) (take (nonempty_count (items_of fs)) fs)
    → All (HasBelow n) fs → All (HasBelow n) core
All-core fs core w o n is all =
    subst (All (HasBelow n)) (sym is)
    (All-drop (HasBelow n) (max (nonempty_count (items_of fs) - o) (w + 1)) _
    (All-take (HasBelow n) (nonempty_count (items_of fs)) fs all))
