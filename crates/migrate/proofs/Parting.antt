-- Due visits are parted, one after the other, into those to a pipe and the others.
use Rattle.std.proofs.Common.{◌≡◌, ◌≢◌, ◌⊎◌, inl, inr, ⊎_elim, ℕ, ◌^◌, ◌-◌, ◌<◌, ◌==◌, true, false, List, [], ◌∷◌, ◌++◌, filter, slice_index_or, AllPairs, append-nil, append_assoc, refl, sym, ap, ◌∙◌, subst, arith, eqb-true}
use Rattle.std.specs.Prelude.{◌↔◌}
use Rattle.std.proofs.lemmas.Bool.{eqb-false}
use Rattle.std.proofs.lemmas.List.Quantifiers.{all_pairs_push}
use Rattle.mn_base.specs.Among.{Among}
use Rattle.mn_base.specs.declared.due.Due.{Due}
use Rattle.journal.specs.SetupView.{SetupView}
use Rattle.journal.specs.Hops.{pipe_of}
use Rattle.deadline_heap.specs.Canonical.{HasNoneOf, IsCanonical}
use Rattle.mn_base.proofs.Members.{Among-append-left, Among-append-right, Among-last, Among-push, Among-index, Among-from-filter}
use Rattle.core_loop.proofs.Kept.{filter-skip, filter-last}
use Rattle.migrate.specs.Moving.{PartsDue}

-- what was taken out so far is parted
pub record IsParting (S : SetupView) (pipe : ℕ) (whole all going staying : List Due) : Type 0 where
  pub popped : List Due
  pub split : whole ≡ popped ++ all
  pub differ : (x y : Due) → Among x popped → Among y all → x.packet ≢ y.packet
  pub going_are : going ≡ filter (λ x. pipe_of S x == pipe) popped
  pub ticks : (x : Due) → Among x going → x.tick < 2 ^ 64 - 1
  pub apart : AllPairs (λ x y. x.packet ≢ y.packet) going
  pub canonical : IsCanonical staying
  pub members : (x : Due) → Among x staying ↔ (Among x popped × (pipe_of S x ≢ pipe))

pub parting-none : (S : SetupView) (pipe : ℕ) (all going staying : List Due) → going ≡ [] → staying ≡ []
    → IsParting S pipe all all going staying
parting-none S pipe all going staying g s = record {
  popped = [];
  split = refl;
  differ = λ x y m. absurd m;
  going_are = g;
  ticks = λ x m. absurd (subst (Among x) g m);
  apart = subst (AllPairs (λ (x y : Due). x.packet ≢ y.packet)) (sym g) (λ i j d l m. absurd (omega (arith, m)));
  canonical = subst IsCanonical (sym s) tt;
  members = λ x. ((λ m. absurd (subst (Among x) s m)), λ m. absurd m.0);
}

module _ {S : SetupView} {pipe : ℕ} {whole all going staying : List Due} (p : IsParting S pipe whole all going staying) where
  pub parting-among : (x : Due) → Among x all → Among x whole
  parting-among x m = subst (Among x) (sym p.split) (Among-append-right x p.popped all m)

  pub parting-end : all ≡ [] → PartsDue S pipe whole going staying
  parting-end none = record {
    going_are = p.going_are ∙ ap (filter (λ (x : Due). pipe_of S x == pipe)) (sym popped);
    ticks = λ i d l. p.ticks (slice_index_or going i d) (Among-index going i d l);
    apart = p.apart;
    canonical = p.canonical;
    members = λ x. (
      (λ m. let k = (p.members x).0 m in (subst (Among x) (sym popped) k.0, k.1)),
      λ m. (p.members x).1 (subst (Among x) popped m.0, m.1),
    );
  }
    where
      popped : whole ≡ p.popped
      popped = p.split ∙ ap (λ (l : List Due). p.popped ++ l) none ∙ append-nil p.popped

  module _ {x : Due} {rest : List Due} (first : all ≡ x ∷ rest) (order : IsCanonical all) where
    next-order : IsCanonical (x ∷ rest)
    next-order = subst IsCanonical first order

    next-split : whole ≡ (p.popped ++ x ∷ []) ++ rest
    next-split = p.split ∙ ap (λ (l : List Due). p.popped ++ l) first ∙ sym (append_assoc p.popped (x ∷ []) rest)

    was-differ : (y : Due) → Among y p.popped → y.packet ≢ x.packet
    was-differ y m = p.differ y x m (subst (Among x) (sym first) (inl refl))

    next-differ : (y z : Due) → Among y (p.popped ++ x ∷ []) → Among z rest → y.packet ≢ z.packet
    next-differ y z m k same = ⊎_elim
        (λ o. p.differ y z o (subst (Among z) (sym first) (inr k)) same)
        (λ e. next-order.1 z k (sym same ∙ ap (λ (d : Due). d.packet) (sym e))) (Among-push y p.popped x m)

    -- nothing of its packet stays
    pub parting-alone : HasNoneOf x.packet staying
    parting-alone y m = was-differ y ((p.members y).0 m).0

    -- it goes
    pub parting-go : pipe_of S x == pipe ≡ true → x.tick < 2 ^ 64 - 1 → {more : List Due} → more ≡ going ++ x ∷ []
        → IsParting S pipe whole rest more staying
    parting-go to low is = record {
      popped = p.popped ++ x ∷ [];
      split = next-split;
      differ = next-differ;
      going_are =
          is ∙ ap (λ (l : List Due). l ++ x ∷ []) p.going_are
          ∙ sym (filter-last (λ (y : Due). pipe_of S y == pipe) p.popped x to);
      ticks = λ y m. ⊎_elim (λ o. p.ticks y o) (λ e. subst (λ (d : Due). d.tick < 2 ^ 64 - 1) e low)
          (Among-push y going x (subst (Among y) is m));
      apart = subst (AllPairs (λ (a b : Due). a.packet ≢ b.packet)) (sym is)
          (all_pairs_push (λ (a b : Due). a.packet ≢ b.packet) going x p.apart (λ k d l.
          was-differ (slice_index_or going k d)
          (Among-from-filter (λ (y : Due). pipe_of S y == pipe) (slice_index_or going k d) p.popped
          (subst (Among (slice_index_or going k d)) p.going_are (Among-index going k d l))).0));
      canonical = p.canonical;
      members = λ y. (
        (λ m. let k = (p.members y).0 m in (Among-append-left y p.popped (x ∷ []) k.0, k.1)),
        λ m. ⊎_elim (λ o. (p.members y).1 (o, m.1))
            (λ e. absurd (m.1 (ap (pipe_of S) (sym e) ∙ eqb-true (pipe_of S x) pipe to))) (Among-push y p.popped x m.0),
      );
    }

    -- it stays
    pub parting-stay : pipe_of S x == pipe ≡ false → {more : List Due} → IsCanonical more
        → ((y : Due) → Among y more ↔ ((x ≡ y) ⊎ Among y staying)) → IsParting S pipe whole rest going more
    parting-stay not canonical members = record {
      popped = p.popped ++ x ∷ [];
      split = next-split;
      differ = next-differ;
      going_are =
          p.going_are ∙ sym (filter-skip (λ (y : Due). pipe_of S y == pipe) p.popped (x ∷ []) none);
      ticks = p.ticks;
      apart = p.apart;
      canonical = canonical;
      members = λ y. (
        (λ m. ⊎_elim
            (λ e. (
              subst (λ (d : Due). Among d (p.popped ++ x ∷ [])) e (Among-last x p.popped),
              λ at. eqb-false (pipe_of S x) pipe not (ap (pipe_of S) e ∙ at),
            ))
            (λ o. let k = (p.members y).0 o in (Among-append-left y p.popped (x ∷ []) k.0, k.1)) ((members y).0 m)),
        λ m. (members y).1 (⊎_elim (λ o. inr ((p.members y).1 (o, m.1))) (λ e. inl e) (Among-push y p.popped x m.0)),
      );
    }
      where
        none : (y : Due) → Among y (x ∷ []) → (pipe_of S y == pipe) ≡ false
        none y (inl e) = ap (λ (d : Due). pipe_of S d == pipe) (sym e) ∙ not
        none y (inr n) = absurd n
