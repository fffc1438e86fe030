-- What follows of a packet that is bound: its ends are nodes, and its route is a least walk that isn't too long.
use Rattle.std.proofs.Common.{◌≡◌, ◌<◌, inl, inr, ℕ, List, [], ◌∷◌, length, filter, Bool, true, false, cond, not, All, Option, Some, None, Result, Ok, Err, refl, ap, subst}
use Rattle.std.specs.List.{AllZip, zip}
use Rattle.std.proofs.lemmas.List.Elements.{All-cons, All-nil, All-head, All-tail}
use Rattle.std.proofs.lemmas.List.Quantifiers.{position-Some}
use Rattle.mn_base.specs.Among.{Among}
use Rattle.mn_base.specs.declared.causes.Unbound.{Unbound}
use Rattle.topo.specs.declared.parts.Node.{Node}
use Rattle.topo.specs.Nodes.{has_address, no_node}
use Rattle.routes.specs.declared.graph.Arc.{Arc}
use Rattle.ip_bind.specs.Frames.{addresses_of}
use Rattle.ip_bind.specs.Books.{node_with_address}
use Rattle.plan.specs.Binding.{Binding, both_nodes, nodes_of_addresses, ends_of, IsRouted, IsBinding}
use Rattle.plan.specs.Plans.{has_ends, bounds, first_uses, uses_of}

-- a node that is found is one of the nodes
found_below : (nodes : List Node) (address v : ℕ) → node_with_address nodes address ≡ Some v → v < length nodes
found_below nodes address v found = (position-Some (has_address address) nodes v no_node found).0

both_below : (nodes : List Node) (a b s d : ℕ) (o p : Option ℕ) → node_with_address nodes a ≡ o → node_with_address nodes b ≡ p
    → both_nodes o p ≡ Ok (s, d) → (s < length nodes) × (d < length nodes)
both_below nodes a b s d None p first second is = cc
both_below nodes a b s d (Some x) None first second is = cc
both_below nodes a b s d (Some x) (Some y) first second is =
    let ends : (x, y) ≡ (s, d) = cc in
    let source : x ≡ s = ap (λ (e : ℕ × ℕ). e.0) ends in
    let destination : y ≡ d = ap (λ (e : ℕ × ℕ). e.1) ends in
    (subst (λ v. v < length nodes) source (found_below nodes a x first), subst (λ v. v < length nodes) destination (found_below nodes b y second))

pub ends_below : (nodes : List Node) (link_type : ℕ) (frame : List ℕ) (s d : ℕ) → ends_of nodes link_type frame ≡ Ok (s, d)
    → (s < length nodes) × (d < length nodes)
ends_below nodes link_type frame s d is = go (addresses_of link_type frame) is
  where
    go : (r : Result (ℕ × ℕ) Unbound) → nodes_of_addresses nodes r ≡ Ok (s, d) → (s < length nodes) × (d < length nodes)
    go (Ok ends) e = both_below nodes ends.0 ends.1 s d (node_with_address nodes ends.0) (node_with_address nodes ends.1) refl refl e
    go (Err cause) e = cc

-- what is related place by place is related where it stands beside each other
pub beside : {A B : Type 0} (R : A → B → Type 0) (xs : List A) (ys : List B) (x : A) (y : B) → AllZip R xs ys → Among (x, y) (zip xs ys) → R x y
beside R [] ys x y all there = absurd there
beside R (a ∷ xs) [] x y all there = absurd there
beside {A} {B} R (a ∷ xs) (b ∷ ys) x y all (inl here) =
    let first : a ≡ x = ap (λ (p : A × B). p.0) here in
    let second : b ≡ y = ap (λ (p : A × B). p.1) here in
    subst (λ (v : B). R x v) second (subst (λ (v : A). R v b) first all.0)
beside R (a ∷ xs) (b ∷ ys) x y all (inr later) = beside R xs ys x y all.1 later

-- ---- what holds of the bound holds of first uses
All-filter : {X : Type 0} (P : X → Type 0) (q : X → Bool) (xs : List X) → All P xs → All P (filter q xs)
All-filter P q [] all = all
All-filter {X} P q (x ∷ xs) all = go (q x) (All-filter P q xs (All-tail P x xs all))
  where
    go : (b : Bool) → All P (filter q xs) → All P (cond b (x ∷ filter q xs) (filter q xs))
    go true rest = All-cons P x (filter q xs) (All-head P x xs all) rest
    go false rest = rest

All-first_uses : (P : Binding → Type 0) (bs : List Binding) → All P bs → All P (first_uses bs)
All-first_uses P [] all = all
All-first_uses P (b ∷ bs) all =
    All-cons P b (filter (λ c. not (has_ends b c)) (first_uses bs)) (All-head P b bs all)
    (All-filter P (λ c. not (has_ends b c)) (first_uses bs) (All-first_uses P bs (All-tail P b bs all)))

-- each binding's route is a route between its nodes
bounds_routed : {A : Type 0} (nodes : List Node) (arcs : List Arc) (link_type : ℕ) (frame : A → List ℕ) (packets : List A)
    (bindings : List (Result Binding Unbound)) → AllZip (λ p binding. IsBinding nodes arcs link_type (frame p) binding) packets bindings
    → All (λ b. IsRouted arcs b.source b.destination (Ok b.route)) (bounds bindings)
bounds_routed nodes arcs link_type frame [] [] all = All-nil (λ b. IsRouted arcs b.source b.destination (Ok b.route))
bounds_routed nodes arcs link_type frame [] (binding ∷ bindings) all = absurd all
bounds_routed nodes arcs link_type frame (p ∷ packets) [] all = absurd all
bounds_routed nodes arcs link_type frame (p ∷ packets) (Ok b ∷ bindings) all =
    All-cons (λ c. IsRouted arcs c.source c.destination (Ok c.route)) b (bounds bindings) all.0.1
    (bounds_routed nodes arcs link_type frame packets bindings all.1)
bounds_routed nodes arcs link_type frame (p ∷ packets) (Err cause ∷ bindings) all = bounds_routed nodes arcs link_type frame packets bindings all.1

pub uses_routed : {A : Type 0} (nodes : List Node) (arcs : List Arc) (link_type : ℕ) (frame : A → List ℕ) (packets : List A)
    (bindings : List (Result Binding Unbound)) → AllZip (λ p binding. IsBinding nodes arcs link_type (frame p) binding) packets bindings
    → All (λ b. IsRouted arcs b.source b.destination (Ok b.route)) (uses_of bindings)
uses_routed nodes arcs link_type frame packets bindings all =
    All-first_uses (λ b. IsRouted arcs b.source b.destination (Ok b.route)) (bounds bindings)
    (bounds_routed nodes arcs link_type frame packets bindings all)

-- a binding that stands beside a packet is one of the bound
pub bound_among : {A : Type 0} (packets : List A) (bindings : List (Result Binding Unbound)) (p : A) (b : Binding)
    → Among (p, Ok b) (zip packets bindings) → Among b (bounds bindings)
bound_among [] bindings p b there = absurd there
bound_among (q ∷ packets) [] p b there = absurd there
bound_among {A} (q ∷ packets) (Ok c ∷ bindings) p b (inl here) =
    let same = ap (λ (x : A × Result Binding Unbound). x.1) here in
    inl (let own : c ≡ b = cc in own)
bound_among {A} (q ∷ packets) (Err cause ∷ bindings) p b (inl here) =
    let same = ap (λ (x : A × Result Binding Unbound). x.1) here in
    cc
bound_among (q ∷ packets) (Ok c ∷ bindings) p b (inr later) = inr (bound_among packets bindings p b later)
bound_among (q ∷ packets) (Err cause ∷ bindings) p b (inr later) = bound_among packets bindings p b later

pub packet_among : {A B : Type 0} (packets : List A) (bindings : List B) (p : A) (x : B) → Among (p, x) (zip packets bindings) → Among p packets
packet_among [] bindings p x there = absurd there
packet_among (q ∷ packets) [] p x there = absurd there
packet_among {A} {B} (q ∷ packets) (y ∷ bindings) p x (inl here) = inl (ap (λ (z : A × B). z.0) here)
packet_among (q ∷ packets) (y ∷ bindings) p x (inr later) = inr (packet_among packets bindings p x later)
