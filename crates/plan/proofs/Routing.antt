-- What a router knows: the answers so far hold, also when a route more is used.
use Rattle.std.proofs.Common.{◌≡◌, ◌<◌, ◌==◌, ℕ, Bool, true, false, cond, ◌&&◌, ◌||◌, List, [], ◌∷◌, ◌++◌, length, get_or, Option, Some, None, Result, Ok, Err, nat_lt, refl, sym, ap, ap₂, ◌∙◌, subst, arith}
use Rattle.std.specs.List.{list_any, position_or_len}
use Rattle.std.specs.declared.cmp.Ordering.{Ordering}
use Rattle.std.specs.Ordering.{nat_cmp, ordering_then, is_eq}
use Rattle.std.specs.declared.cmp.Ordering.TheVariants.{Less, Equal, Greater}
use Rattle.std.specs.BTreeMap.{is_at}
use Rattle.std.proofs.lemmas.Bool.{and_parts, eqb-true, ltb-true, or_from}
use Rattle.std.proofs.lemmas.List.Elements.{All-push, All-nil}
use Rattle.std.proofs.lemmas.List.Sums.{passes_at_first}
use Rattle.mn_base.specs.declared.causes.Unbound.{Unbound}
use Rattle.routes.specs.declared.graph.Arc.{Arc}
use Rattle.plan.specs.Binding.{Binding, IsRouted}
use Rattle.plan.specs.Plans.{joins}
use Rattle.plan.specs.Router.{IsKnownAnswer, IsRouter, Uses, IsRouterAnswer, IsFirstAnswer}
use Rattle.pipe.specs.VisitEntries.{pair_cmp}
use Rattle.plan.proofs.FirstUses.{joined_ends, ends_joined, place_below, place_stays, place_new, any_push}

-- ---- pairs as keys
is_eq_nat : (a b : ℕ) → is_eq (nat_cmp a b) ≡ (a == b)
is_eq_nat a b = go (nat_lt a b) refl (a == b) refl
  where
    go : (less : Bool) → nat_lt a b ≡ less → (same : Bool) → (a == b) ≡ same → is_eq (cond less Less (cond same Equal Greater)) ≡ same
    go true less true same =
        let under : a < b = ltb-true a b less in
        let equal : a ≡ b = eqb-true a b same in
        absurd (omega (arith, under, equal))
    go true less false same = refl
    go false less true same = refl
    go false less false same = refl

is_eq_then : (o p : Ordering) → is_eq (ordering_then o p) ≡ (is_eq o && is_eq p)
is_eq_then Less p = refl
is_eq_then Equal p = refl
is_eq_then Greater p = refl

pub at_pair : (s d t e : ℕ) → is_at (pair_cmp (s, d)) (t, e) ≡ ((s == t) && (d == e))
at_pair s d t e = is_eq_then (nat_cmp s t) (nat_cmp d e) ∙ ap₂ (λ (a b : Bool). a && b) (is_eq_nat s t) (is_eq_nat d e)

pub no_answers : (arcs : List Arc) (answers : ℕ → ℕ → Option (Result ℕ Unbound)) → ((s d : ℕ) → answers s d ≡ None)
    → IsRouter arcs [] answers
no_answers arcs answers none = record {
  routed = All-nil (λ b. IsRouted arcs b.source b.destination (Ok b.route));
  known = λ s d. subst (IsKnownAnswer arcs [] s d) (sym (none s d)) refl;
}

-- what is known stays so with one use more of other nodes
known_more : (arcs : List Arc) (uses : List Binding) (b : Binding) (s d : ℕ) (o : Option (Result ℕ Unbound)) → joins s d b ≡ false
    → IsKnownAnswer arcs uses s d o → IsKnownAnswer arcs (uses ++ b ∷ []) s d o
known_more arcs uses b s d None apart unused = any_push (joins s d) uses b ∙ or_from (list_any (joins s d) uses) (joins s d b) unused apart
known_more arcs uses b s d (Some (Ok index)) apart used = (
  any_push (joins s d) uses b ∙ ap (λ (x : Bool). x || joins s d b) used.0,
  used.1 ∙ sym (place_stays (joins s d) uses b used.0),
)
known_more arcs uses b s d (Some (Err cause)) apart routed = routed

-- the route of two nodes that nobody asked for is used from now on
pub route_used : (arcs : List Arc) (uses : List Binding) (answers after : ℕ → ℕ → Option (Result ℕ Unbound)) (s d : ℕ) (route : List ℕ)
    → IsRouter arcs uses answers → answers s d ≡ None → IsRouted arcs s d (Ok route)
    → ((t e : ℕ) → after t e ≡ cond (is_at (pair_cmp (s, d)) (t, e)) (Some (Ok (length uses))) (answers t e))
    → IsRouter arcs (uses ++ record { source = s; destination = d; route = route } ∷ []) after
route_used arcs uses answers after s d route is none routed updates = record {
  routed = All-push (λ b. IsRouted arcs b.source b.destination (Ok b.route)) uses new is.routed routed;
  known = λ t e. subst (IsKnownAnswer arcs (uses ++ new ∷ []) t e) (sym (updates t e)) (go t e (is_at (pair_cmp (s, d)) (t, e)) refl);
}
  where
    new : Binding
    new = record { source = s; destination = d; route = route }

    unused : list_any (joins s d) uses ≡ false
    unused = subst (IsKnownAnswer arcs uses s d) none (is.known s d)

    own : joins s d new ≡ true
    own = ends_joined s d new refl refl

    here : IsKnownAnswer arcs (uses ++ new ∷ []) s d (Some (Ok (length uses)))
    here = (any_push (joins s d) uses new ∙ ap (λ (x : Bool). x || joins s d new) unused ∙ own, sym (place_new (joins s d) uses new unused own))

    go : (t e : ℕ) → (b : Bool) → is_at (pair_cmp (s, d)) (t, e) ≡ b
        → IsKnownAnswer arcs (uses ++ new ∷ []) t e (cond b (Some (Ok (length uses))) (answers t e))
    go t e true at =
        let parts = and_parts (s == t) (d == e) (sym (at_pair s d t e) ∙ at) in
        subst (λ n. IsKnownAnswer arcs (uses ++ new ∷ []) n e (Some (Ok (length uses)))) (eqb-true s t parts.0)
        (subst (λ n. IsKnownAnswer arcs (uses ++ new ∷ []) s n (Some (Ok (length uses)))) (eqb-true d e parts.1) here)
    go t e false apart =
        let other : joins t e new ≡ false = sym (at_pair s d t e) ∙ apart in
        known_more arcs uses new t e (answers t e) other (is.known t e)

-- nodes without a route have none from now on
pub route_missed : (arcs : List Arc) (uses : List Binding) (answers after : ℕ → ℕ → Option (Result ℕ Unbound)) (s d : ℕ) (cause : Unbound)
    → IsRouter arcs uses answers → IsRouted arcs s d (Err cause)
    → ((t e : ℕ) → after t e ≡ cond (is_at (pair_cmp (s, d)) (t, e)) (Some (Err cause)) (answers t e))
    → IsRouter arcs uses after
route_missed arcs uses answers after s d cause is missing updates = record {
  routed = is.routed;
  known = λ t e. subst (IsKnownAnswer arcs uses t e) (sym (updates t e)) (go t e (is_at (pair_cmp (s, d)) (t, e)) refl);
}
  where
    go : (t e : ℕ) → (b : Bool) → is_at (pair_cmp (s, d)) (t, e) ≡ b → IsKnownAnswer arcs uses t e (cond b (Some (Err cause)) (answers t e))
    go t e true at =
        let parts = and_parts (s == t) (d == e) (sym (at_pair s d t e) ∙ at) in
        subst (λ n. IsRouted arcs n e (Err cause)) (eqb-true s t parts.0) (subst (λ n. IsRouted arcs s n (Err cause)) (eqb-true d e parts.1) missing)
    go t e false apart = is.known t e

-- ---- what is answered
-- what was answered before is answered again
pub answered_again : (arcs : List Arc) (uses : List Binding) (answers : ℕ → ℕ → Option (Result ℕ Unbound)) (s d : ℕ) (answer : Result ℕ Unbound)
    → IsRouter arcs uses answers → answers s d ≡ Some answer → IsRouterAnswer arcs uses s d uses answer
answered_again arcs uses answers s d (Ok index) is found =
    let used : IsKnownAnswer arcs uses s d (Some (Ok index)) = subst (IsKnownAnswer arcs uses s d) found (is.known s d) in
    let no_use : Binding = record { source = s; destination = d; route = [] } in
    let place : ℕ = position_or_len (joins s d) uses in
    let there : Binding = get_or uses place no_use in
    let below = place_below (joins s d) uses used.0 in
    let ends = joined_ends s d there (passes_at_first (joins s d) uses no_use below) in
    let routed : IsRouted arcs there.source there.destination (Ok there.route) = is.routed place no_use below in
    record {
      route = there.route;
      routed = subst (λ n. IsRouted arcs s n (Ok there.route)) ends.1 (subst (λ n. IsRouted arcs n there.destination (Ok there.route)) ends.0 routed);
      uses = sym (ap (λ (x : Bool). cond x uses (uses ++ record { source = s; destination = d; route = there.route } ∷ [])) used.0);
      index_is = used.1;
    }
answered_again arcs uses answers s d (Err cause) is found =
    (refl, subst (IsKnownAnswer arcs uses s d) found (is.known s d))

-- a new route is answered by its place
pub answered_first : (arcs : List Arc) (uses : List Binding) (answers : ℕ → ℕ → Option (Result ℕ Unbound)) (s d : ℕ) (route : List ℕ)
    → IsRouter arcs uses answers → answers s d ≡ None → IsRouted arcs s d (Ok route)
    → Uses arcs uses s d (length uses) (uses ++ record { source = s; destination = d; route = route } ∷ [])
answered_first arcs uses answers s d route is none routed =
    let new : Binding = record { source = s; destination = d; route = route } in
    let unused : list_any (joins s d) uses ≡ false = subst (IsKnownAnswer arcs uses s d) none (is.known s d) in
    record {
      route = route;
      routed = routed;
      uses = sym (ap (λ (x : Bool). cond x uses (uses ++ record { source = s; destination = d; route = route } ∷ [])) unused);
      index_is = sym (place_new (joins s d) uses new unused (ends_joined s d new refl refl));
    }

-- what is known after a first answer
pub held : (arcs arcs' : List Arc) (uses uses' : List Binding) (answers after : ℕ → ℕ → Option (Result ℕ Unbound)) (s d : ℕ)
    (answer : Result ℕ Unbound) → arcs' ≡ arcs → IsRouter arcs uses answers → answers s d ≡ None → IsFirstAnswer arcs uses s d uses' answer
    → ((t e : ℕ) → after t e ≡ cond (is_at (pair_cmp (s, d)) (t, e)) (Some answer) (answers t e)) → IsRouter arcs' uses' after
held arcs arcs' uses uses' answers after s d (Ok index) same is none first updates =
    subst (λ (xs : List Arc). IsRouter xs uses' after) (sym same)
    (subst (λ (us : List Binding). IsRouter arcs us after) (sym first.2)
    (route_used arcs uses answers after s d first.0 is none first.1
    (λ t e. updates t e ∙ ap (λ (n : ℕ). cond (is_at (pair_cmp (s, d)) (t, e)) (Some (Ok n)) (answers t e)) first.3)))
held arcs arcs' uses uses' answers after s d (Err cause) same is none first updates =
    subst (λ (xs : List Arc). IsRouter xs uses' after) (sym same)
    (subst (λ (us : List Binding). IsRouter arcs us after) (sym first.0) (route_missed arcs uses answers after s d cause is first.1 updates))

-- a first answer is an answer
pub first_answer : (arcs : List Arc) (uses new : List Binding) (answers : ℕ → ℕ → Option (Result ℕ Unbound)) (s d : ℕ) (answer : Result ℕ Unbound)
    → IsRouter arcs uses answers → answers s d ≡ None → IsFirstAnswer arcs uses s d new answer → IsRouterAnswer arcs uses s d new answer
first_answer arcs uses new answers s d (Ok index) is none first =
    subst (λ (us : List Binding). Uses arcs uses s d index us) (sym first.2)
    (subst (λ (n : ℕ). Uses arcs uses s d n (uses ++ record { source = s; destination = d; route = first.0 } ∷ [])) (sym first.3)
    (answered_first arcs uses answers s d first.0 is none first.1))
first_answer arcs uses new answers s d (Err cause) is none first = first
