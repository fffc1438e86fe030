-- Due visits of different packets are put in, one after the other.
use Rattle.std.proofs.Common.{◌≡◌, ◌≢◌, ◌⊎◌, inl, inr, ⊎_elim, ℕ, ◌<◌, List, [], ◌∷◌, ◌++◌, length, slice_index_or, AllPairs, sym, ap, ◌∙◌, subst, arith}
use Rattle.std.specs.Prelude.{◌↔◌, All}
use Rattle.std.proofs.lemmas.List.{length_push, get_or_default}
use Rattle.mn_base.specs.Among.{Among}
use Rattle.mn_base.specs.declared.due.Due.{Due}
use Rattle.deadline_heap.specs.Canonical.{HasNoneOf, IsCanonical}
use Rattle.mn_base.proofs.Members.{Among-append-left, Among-last, Among-push}

-- those that were yielded are put in
pub record IsInserting (all yielded old now : List Due) : Type 0 where
  pub source : (y : Due) → Among y yielded → (i : ℕ) × (i < length yielded) × (y ≡ slice_index_or all i y)
  pub members : (y : Due) → Among y now ↔ (Among y yielded ⊎ Among y old)
  pub canonical : IsCanonical now

pub inserting-none : (all old : List Due) → IsCanonical old → IsInserting all [] old old
inserting-none all old c = record {
  source = λ y m. absurd m;
  members = λ y. ((λ m. inr m), λ m. ⊎_elim (λ n. absurd n) (λ o. o) m);
  canonical = c;
}

module _ {all yielded old now : List Due} (s : IsInserting all yielded old now) {x : Due} (within : length yielded < length all)
    (is : x ≡ slice_index_or all (length yielded) x) where
  pub inserting-alone : AllPairs (λ a b. a.packet ≢ b.packet) all → All (λ a. HasNoneOf a.packet old) all → HasNoneOf x.packet now
  inserting-alone apart alone y m same = ⊎_elim
      (λ k. let i = s.source y k in
      let differ : (slice_index_or all i.0 y).packet ≢ (slice_index_or all (length yielded) y).packet =
      apart i.0 (length yielded) y i.1 within in
      differ (ap (λ (d : Due). d.packet) (sym i.2) ∙ same ∙ ap (λ (d : Due). d.packet) (at y)))
      (λ k. alone (length yielded) x within y k (same ∙ ap (λ (d : Due). d.packet) is)) ((s.members y).0 m)
    where
      at : (d : Due) → x ≡ slice_index_or all (length yielded) d
      at d = is ∙ get_or_default all (length yielded) x d within

  pub inserting-more : {new : List Due} → ((y : Due) → Among y new ↔ ((x ≡ y) ⊎ Among y now)) → IsCanonical new
      → IsInserting all (yielded ++ x ∷ []) old new
  inserting-more members canonical = record {
    source = source;
    members = λ y. (
      (λ m. ⊎_elim (λ e. inl (subst (λ (d : Due). Among d (yielded ++ x ∷ [])) e (Among-last x yielded)))
          (λ o. ⊎_elim (λ k. inl (Among-append-left y yielded (x ∷ []) k)) (λ k. inr k) ((s.members y).0 o)) ((members y).0 m)),
      λ m. ⊎_elim
          (λ k. ⊎_elim (λ o. (members y).1 (inr ((s.members y).1 (inl o)))) (λ e. (members y).1 (inl e)) (Among-push y yielded x k))
          (λ k. (members y).1 (inr ((s.members y).1 (inr k)))) m,
    );
    canonical = canonical;
  }
    where
      source : (y : Due) → Among y (yielded ++ x ∷ [])
          → (i : ℕ) × (i < length (yielded ++ x ∷ [])) × (y ≡ slice_index_or all i y)
      source y m = ⊎_elim
          (λ o. let i = s.source y o in (i.0, (let l = i.1 in omega (arith, l, length_push yielded x)), i.2))
          (λ e. (
            length yielded,
            omega (arith, length_push yielded x),
            subst (λ (d : Due). d ≡ slice_index_or all (length yielded) d) e is,
          )) (Among-push y yielded x m)
