-- The order of the queue's entries: it tells all entries apart, and goes by weight and number of arcs first.
use Rattle.std.proofs.Common.{◌≡◌, ◌≢◌, ◌↔◌, ℕ, ◌<◌, ◌⊎◌, inl, inr, Bool, true, false, cond, List, ◌∷◌, Option, Some, None, IfSome, Ordering, refl, sym, ap, subst, ◌∙◌, arith}
use Rattle.std.specs.declared.cmp.Ordering.TheVariants.{Less, Equal, Greater}
use Rattle.std.specs.List.{All, list_any}
use Rattle.std.specs.Cmp.{IsTotalOrder}
use Rattle.std.specs.Ordering.{nat_cmp, ordering_then, is_eq}
use Rattle.std.specs.BTreeMap.{is_at}
use Rattle.std.proofs.lemmas.Bool.{cases_Bool, cond-true, cond-false, false≢true, true≢false}
use Rattle.std.proofs.lemmas.Cmp.{ranked, tied_itself, nat_cmp_total, on_total, then_total}
use Rattle.std.proofs.lemmas.Map.Lookups.{exact_unsigned}
use Rattle.mn_base.specs.Among.{Among}
use Rattle.mn_base.proofs.Members.{All-Among, Among-from-list_any, list_any-true}
use Rattle.routes.specs.NodeQueue.{Entry, IsUpTo}

-- by weight, then by number of arcs, then by node
abbrev pub entry_cmp : Entry → Entry → Ordering
entry_cmp j k = ordering_then (ordering_then (nat_cmp j.0 k.0) (nat_cmp j.1 k.1)) (nat_cmp j.2 k.2)

-- it is a total order, as each of its parts is
entry_total : IsTotalOrder entry_cmp
entry_total =
    then_total
    (then_total (on_total (λ (t : Entry). t.0) nat_cmp_total) (on_total (λ (t : Entry). t.1) nat_cmp_total))
    (on_total (λ (t : Entry). t.2) nat_cmp_total)

-- ---- orders one after the other
both_equal : (o p : Ordering) → ordering_then o p ≡ Equal → (o ≡ Equal) × (p ≡ Equal)
both_equal Less p tie = cc
both_equal Equal p tie = (refl, tie)
both_equal Greater p tie = cc

-- the first that isn't equal decides
one_less : (o p : Ordering) → ordering_then o p ≡ Less → (o ≡ Less) ⊎ ((o ≡ Equal) × (p ≡ Less))
one_less Less p less = inl refl
one_less Equal p less = inr (refl, less)
one_less Greater p less = cc

-- the test for equal
is_equal : (o : Ordering) → is_eq o ≡ true → o ≡ Equal
is_equal Less passes = absurd (false≢true passes)
is_equal Equal passes = refl
is_equal Greater passes = absurd (false≢true passes)

-- numbers by their comparison
number_less : (m n : ℕ) → nat_cmp m n ≡ Less → m < n
number_less m n less = ranked m n Less (sym less)

-- ---- entries
exact : (j k : Entry) → entry_cmp j k ≡ Equal → j ≡ k
exact j k tie =
    let outer = both_equal (ordering_then (nat_cmp j.0 k.0) (nat_cmp j.1 k.1)) (nat_cmp j.2 k.2) tie in
    let inner = both_equal (nat_cmp j.0 k.0) (nat_cmp j.1 k.1) outer.0 in
    let first = exact_unsigned j.0 k.0 inner.0 in
    let second = exact_unsigned j.1 k.1 inner.1 in
    let third = exact_unsigned j.2 k.2 outer.1 in
    ap (λ n. (n, j.1, j.2)) first ∙ ap (λ n. (k.0, n, j.2)) second ∙ ap (λ n. (k.0, k.1, n)) third

-- an entry is equal to itself
itself : (k : Entry) → entry_cmp k k ≡ Equal
itself k = tied_itself entry_total k

-- and not above itself
pub up_to_itself : (k : Entry) → IsUpTo k k
up_to_itself k = inr (refl, omega arith)

-- what is less goes by weight and number of arcs first
up_to_less : (j k : Entry) → entry_cmp j k ≡ Less → IsUpTo j k
up_to_less j k less =
    elim (one_less (ordering_then (nat_cmp j.0 k.0) (nat_cmp j.1 k.1)) (nat_cmp j.2 k.2) less) [
      | inl inner ↦
          elim (one_less (nat_cmp j.0 k.0) (nat_cmp j.1 k.1) inner) [
            | inl lighter ↦ inl (number_less j.0 k.0 lighter)
            | inr even ↦
                let fewer : j.1 < k.1 = number_less j.1 k.1 even.1 in
                inr (exact_unsigned j.0 k.0 even.0, omega arith)
          ]
      | inr tie ↦
          let both = both_equal (nat_cmp j.0 k.0) (nat_cmp j.1 k.1) tie.0 in
          let hops : j.1 ≡ k.1 = exact_unsigned j.1 k.1 both.1 in
          inr (exact_unsigned j.0 k.0 both.0, omega arith)
    ]

-- what is less is another entry
less_apart : (j k : Entry) → entry_cmp j k ≡ Less → k ≢ j
less_apart j k less same =
    let here : entry_cmp j j ≡ Less = subst (λ (e : Entry). entry_cmp j e ≡ Less) same less in
    let tie : entry_cmp j j ≡ Equal = itself j in
    let never : Equal ≡ Less = sym tie ∙ here in
    cc

-- a set contains an entry if and only if the entry stands among its keys
contains_among : (k : Entry) (ks : List Entry) → list_any (is_at (entry_cmp k)) ks ≡ true → Among k ks
contains_among k ks passes =
    let found = Among-from-list_any (is_at (entry_cmp k)) ks passes in
    subst (λ (e : Entry). Among e ks) (sym (exact k found.0 (is_equal (entry_cmp k found.0) found.2))) found.1

-- the test for an entry passes at the entry
at_itself : (k : Entry) → is_at (entry_cmp k) k ≡ true
at_itself k = ap is_eq (itself k)

among_contains : (k : Entry) (ks : List Entry) → Among k ks → list_any (is_at (entry_cmp k)) ks ≡ true
among_contains k ks there = list_any-true (is_at (entry_cmp k)) k ks there (at_itself k)

-- ---- what the set's clauses say by members
module _ (old new : List Entry) (entry : Entry) where
  -- the test at the entry itself
  hit : (k : Entry) → entry ≡ k → is_at (entry_cmp entry) k ≡ true
  hit k same = subst (λ (e : Entry). is_at (entry_cmp entry) e ≡ true) same (at_itself entry)

  -- and nowhere else
  was_hit : (k : Entry) → is_at (entry_cmp entry) k ≡ true → entry ≡ k
  was_hit k passes = exact entry k (is_equal (entry_cmp entry k) passes)

  -- after an insertion the entry is a member, and all that were
  pub among_pushed : ((k : Entry)
      → list_any (is_at (entry_cmp k)) new ≡ cond (is_at (entry_cmp entry) k) true (list_any (is_at (entry_cmp k)) old))
      → (k : Entry) → Among k new ↔ ((entry ≡ k) ⊎ Among k old)
  among_pushed updates k = (
    λ among.
        elim (cases_Bool test) [
          | inl passes ↦ inl (was_hit k passes)
          | inr fails ↦
              inr (contains_among k old (sym (cond-false test true had fails) ∙ sym (updates k) ∙ among_contains k new among))
        ],
    λ either.
        contains_among
        k
        new
        (updates k
        ∙ elim (cases_Bool test) [
          | inl passes ↦ cond-true test true had passes
          | inr fails ↦
              elim either [
                | inl same ↦ absurd (true≢false (sym (hit k same) ∙ fails))
                | inr there ↦ cond-false test true had fails ∙ among_contains k old there
              ]
        ]),
  )
    where
      test : Bool
      test = is_at (entry_cmp entry) k

      had : Bool
      had = list_any (is_at (entry_cmp k)) old

  -- after a removal all that were, but for the entry
  pub among_removed : ((k : Entry)
      → list_any (is_at (entry_cmp k)) new ≡ cond (is_at (entry_cmp entry) k) false (list_any (is_at (entry_cmp k)) old))
      → (k : Entry) → Among k new ↔ (Among k old × (k ≢ entry))
  among_removed updates k = (
    λ among.
        elim (cases_Bool test) [
          | inl passes ↦
              absurd (true≢false (sym (among_contains k new among) ∙ updates k ∙ cond-true test false had passes))
          | inr fails ↦ (
            contains_among k old (sym (cond-false test false had fails) ∙ sym (updates k) ∙ among_contains k new among),
            λ same. true≢false (sym (hit k (sym same)) ∙ fails),
          )
        ],
    λ both.
        elim (cases_Bool test) [
          | inl passes ↦ absurd (both.1 (sym (was_hit k passes)))
          | inr fails ↦ contains_among k new (updates k ∙ cond-false test false had fails ∙ among_contains k old both.0)
        ],
  )
    where
      test : Bool
      test = is_at (entry_cmp entry) k

      had : Bool
      had = list_any (is_at (entry_cmp k)) old

  -- after the first is taken, those after it are left, since each is greater
  pub among_popped : old ≡ entry ∷ new → All (λ k. entry_cmp entry k ≡ Less) new → (k : Entry) → Among k new ↔ (Among k old × (k ≢ entry))
  among_popped removal above k = (
    λ later. (
      subst (λ ks. Among k ks) (sym removal) (inr later),
      less_apart entry k (All-Among (λ q. entry_cmp entry q ≡ Less) k new above later),
    ),
    λ both.
        elim (subst (λ ks. Among k ks) removal both.0) [
          | inl here ↦ absurd (both.1 (sym here))
          | inr later ↦ later
        ],
  )

  -- and the first was least
  pub least_popped : old ≡ entry ∷ new → All (λ k. entry_cmp entry k ≡ Less) new → (k : Entry) → Among k old → IsUpTo entry k
  least_popped removal above k there =
      elim (subst (λ ks. Among k ks) removal there) [
        | inl here ↦ subst (λ (e : Entry). IsUpTo entry e) here (up_to_itself entry)
        | inr later ↦ up_to_less entry k (All-Among (λ q. entry_cmp entry q ≡ Less) k new above later)
      ]

-- the same for what a pop answers
module _ (old new : List Entry) where
  pub rest_of_pop : (r : Option Entry) → IfSome r (λ first. old ≡ first ∷ new) → IfSome r (λ first. All (λ k. entry_cmp first k ≡ Less) new)
      → IfSome r (λ first. (k : Entry) → Among k new ↔ (Among k old × (k ≢ first)))
  rest_of_pop None removal above = tt
  rest_of_pop (Some first) removal above = among_popped old new first removal above

  -- and that it was least
  pub least_of_pop : (r : Option Entry) → IfSome r (λ first. old ≡ first ∷ new)
      → IfSome r (λ first. All (λ k. entry_cmp first k ≡ Less) new)
      → IfSome r (λ first. (k : Entry) → Among k old → IsUpTo first k)
  least_of_pop None removal above = tt
  least_of_pop (Some first) removal above = least_popped old new first removal above
