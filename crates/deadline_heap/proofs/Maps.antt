-- What a new key does to an ordered map, as one more entry of a slot and as one more visit.
use Rattle.std.proofs.Common.{◌≡◌, inl, inr, ℕ, ◌<◌, ◌≤◌, cond, List, [], ◌∷◌, refl, sym, ap, ◌∙◌, arith}
use Rattle.std.specs.Prelude.{nat_lt}
use Rattle.std.specs.declared.cmp.Ordering.{Ordering}
use Rattle.std.specs.declared.cmp.Ordering.TheVariants.{Less, Equal, Greater}
use Rattle.std.specs.Ordering.{nat_cmp, ordering_then, match_ordering}
use Rattle.std.specs.BTreeMap.{insert_entry}
use Rattle.std.proofs.lemmas.Cmp.{ranked}
use Rattle.std.proofs.lemmas.Bool.{cond-true, cond-false, lt-ltb, le-ltb}
use Rattle.mn_base.specs.declared.due.Due.{Due}
use Rattle.mn_base.specs.Canonical.{Before, is_before}
use Rattle.deadline_heap.specs.Canonical.{HasNoneOf, placed}
use Rattle.deadline_heap.specs.Entries.{entered, HasNoEntry, visit_of_entry, visits_of_entries}
use Rattle.deadline_heap.proofs.Orders.{is_before-from, not_earlier, earlier_once}

-- a new packet is put in front of the first that is greater
pub insert_entry-slot : (packet hop : ℕ) (es : List (ℕ × ℕ)) → HasNoEntry packet es
    → insert_entry nat_cmp es packet hop ≡ entered (packet, hop) es
insert_entry-slot packet hop [] fresh = refl
insert_entry-slot packet hop (e ∷ es) fresh = go (nat_cmp packet e.0) refl
    (insert_entry-slot packet hop es (λ x there. fresh x (inr there)))
  where
    go : (o : Ordering) → o ≡ nat_cmp packet e.0 → insert_entry nat_cmp es packet hop ≡ entered (packet, hop) es
        → match_ordering o ((packet, hop) ∷ e ∷ es) ((e.0, hop) ∷ es) (e ∷ insert_entry nat_cmp es packet hop) ≡ cond (nat_lt packet e.0)
        ((packet, hop) ∷ e ∷ es) (e ∷ entered (packet, hop) es)
    go Less is rest = sym (cond-true (nat_lt packet e.0) ((packet, hop) ∷ e ∷ es) (e ∷ entered (packet, hop) es)
        (lt-ltb packet e.0 (ranked packet e.0 Less is)))
    go Equal is rest = absurd (fresh e (inl refl) (sym (ranked packet e.0 Equal is)))
    go Greater is rest =
        let above : e.0 < packet = ranked packet e.0 Greater is in
        let no_less : e.0 ≤ packet = omega arith in
        ap (λ (l : List (ℕ × ℕ)). e ∷ l) rest
        ∙ sym (cond-false (nat_lt packet e.0) ((packet, hop) ∷ e ∷ es) (e ∷ entered (packet, hop) es) (le-ltb packet e.0 no_less))

-- how keys are compared: by tick, then by packet
abbrev pub key_cmp : (ℕ × ℕ) → (ℕ × ℕ) → Ordering
key_cmp x y = ordering_then (nat_cmp x.0 y.0) (nat_cmp x.1 y.1)

-- a visit of a new packet is put in its place
pub insert_entry-visit : (key : ℕ × ℕ) (hop : ℕ) (es : List ((ℕ × ℕ) × ℕ)) → HasNoneOf key.1 (visits_of_entries es)
    → visits_of_entries (insert_entry key_cmp es key hop) ≡ placed (visit_of_entry (key, hop)) (visits_of_entries es)
insert_entry-visit key hop [] fresh = refl
insert_entry-visit key hop (e ∷ es) fresh =
    go (nat_cmp key.0 e.0.0) (nat_cmp key.1 e.0.1) refl refl (insert_entry-visit key hop es (λ x there. fresh x (inr there)))
  where
    new : Due
    new = visit_of_entry (key, hop)

    old : Due
    old = visit_of_entry e

    in_front : Before new old
        → new ∷ old ∷ visits_of_entries es ≡ cond (is_before new old) (new ∷ old ∷ visits_of_entries es)
        (old ∷ placed new (visits_of_entries es))
    in_front earlier = sym (cond-true (is_before new old) (new ∷ old ∷ visits_of_entries es) (old ∷ placed new (visits_of_entries es))
        (is_before-from new old earlier))

    behind : Before old new → visits_of_entries (insert_entry key_cmp es key hop) ≡ placed new (visits_of_entries es)
        → old ∷ visits_of_entries (insert_entry key_cmp es key hop) ≡ cond (is_before new old) (new ∷ old ∷ visits_of_entries es)
        (old ∷ placed new (visits_of_entries es))
    behind earlier rest =
        ap (λ (l : List Due). old ∷ l) rest
        ∙ sym (cond-false (is_before new old) (new ∷ old ∷ visits_of_entries es) (old ∷ placed new (visits_of_entries es))
        (not_earlier new old (earlier_once old new earlier)))

    go : (o p : Ordering) → o ≡ nat_cmp key.0 e.0.0 → p ≡ nat_cmp key.1 e.0.1
        → visits_of_entries (insert_entry key_cmp es key hop) ≡ placed new (visits_of_entries es)
        → visits_of_entries (match_ordering (ordering_then o p) ((key, hop) ∷ e ∷ es) ((e.0, hop) ∷ es)
        (e ∷ insert_entry key_cmp es key hop))
        ≡ cond (is_before new old) (new ∷ old ∷ visits_of_entries es) (old ∷ placed new (visits_of_entries es))
    go Less p first second rest = in_front (inl (ranked key.0 e.0.0 Less first))
    go Equal Less first second rest = in_front (inr (ranked key.0 e.0.0 Equal first, ranked key.1 e.0.1 Less second))
    go Equal Equal first second rest = absurd (fresh old (inl refl) (sym (ranked key.1 e.0.1 Equal second)))
    go Equal Greater first second rest = behind (inr (sym (ranked key.0 e.0.0 Equal first), ranked key.1 e.0.1 Greater second)) rest
    go Greater p first second rest = behind (inl (ranked key.0 e.0.0 Greater first)) rest
