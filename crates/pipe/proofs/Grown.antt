-- The list that is grown by the least pending visit, as often as there can be visits, is a journal; and each list that grows is a front of it.
use Rattle.std.proofs.Common.{◌≡◌, ℕ, zero, suc, ◌+◌, ◌≤◌, Bool, true, false, not, List, [], ◌∷◌, ◌++◌, length, Option, Some, None, append-nil, append_assoc, refl, sym, ap, ◌∙◌, subst, arith}
use Rattle.std.proofs.lemmas.Bool.{not-true, not_from_false}
use Rattle.std.proofs.lemmas.List.{length_push}
use Rattle.mn_base.specs.Among.{Among}
use Rattle.mn_base.specs.declared.due.Due.{Due}
use Rattle.pipe.specs.Dues.{least}
use Rattle.pipe.specs.Scheme.{Scheme, dues_by, IsJournalBy, is_done_by, pending_by, more_by, grown_by, IsGrowingBy, IsOrderly}
use Rattle.mn_base.proofs.Members.{Among-filter, Among-from-filter}
use Rattle.pipe.proofs.CanonicalOrder.{least_parts}
use Rattle.pipe.proofs.OneJournal.{one_journal_by}
use Rattle.pipe.proofs.Growing.{IsLeastBy, growing-nil, growing-push, growing_whole}

module _ {V : Type 0} (s : Scheme V) (J : List V) where
  -- what is pending is due and not done
  pub pending_from : (x : Due) → Among x (dues_by s J) → is_done_by s J x ≡ false → Among x (pending_by s J)
  pending_from x a w = Among-filter (λ (d : Due). not (is_done_by s J d)) x (dues_by s J) a (not_from_false (is_done_by s J x) w)

  pub pending_parts : (x : Due) → Among x (pending_by s J) → Among x (dues_by s J) × (is_done_by s J x ≡ false)
  pending_parts x a =
      let t = Among-from-filter (λ (d : Due). not (is_done_by s J d)) x (dues_by s J) a in
      (t.0, not-true (is_done_by s J x) t.1)

  least-pending : (x : Due) → least (pending_by s J) ≡ Some x → IsLeastBy s J x
  least-pending x e =
      let f = least_parts x (pending_by s J) e in
      let t = pending_parts x f.among in
      record { due = t.0; waits = t.1; least = λ y a w. f.least y (pending_from y a w) }

  none_pending : least (pending_by s J) ≡ None → (x : Due) → Among x (dues_by s J) → is_done_by s J x ≡ true
  none_pending e x a = go (is_done_by s J x) refl
    where
      empty : (l : List Due) → least l ≡ None → Among x l → ⊥
      empty [] t h = h
      empty (y ∷ l) t h = cc

      go : (b : Bool) → is_done_by s J x ≡ b → is_done_by s J x ≡ true
      go true t = t
      go false t = absurd (empty (pending_by s J) e (pending_from x a t))

module _ {V : Type 0} (s : Scheme V) where
  -- where nothing is pending nothing is added
  grown-whole : (n : ℕ) (J : List V) → least (pending_by s J) ≡ None → grown_by s n J ≡ J
  grown-whole zero J e = refl
  grown-whole (suc n) J e = ap (λ (q : Option Due). grown_by s n (more_by s J q)) e ∙ grown-whole n J e

  -- what is grown has the list that it is grown from as its front
  grown-front : (n : ℕ) (J : List V) → (rest : List V) × (grown_by s n J ≡ J ++ rest)
  grown-front zero J = ([], sym (append-nil J))
  grown-front (suc n) J = go (least (pending_by s J)) (grown-front n)
    where
      go : (q : Option Due) → ((K : List V) → (rest : List V) × (grown_by s n K ≡ K ++ rest))
          → (rest : List V) × (grown_by s n (more_by s J q) ≡ J ++ rest)
      go None each = each J
      go (Some x) each =
          let r = each (J ++ s.make J x ∷ []) in
          (s.make J x ∷ r.0, r.1 ∙ append_assoc J (s.make J x ∷ []) r.0)

module _ {V : Type 0} (s : Scheme V) (o : IsOrderly s) (most : ℕ) (few : (J : List V) → IsGrowingBy s J → length J ≤ most) where
  grown-is : (n : ℕ) (J : List V) → IsGrowingBy s J → most ≤ n + length J → IsJournalBy s (grown_by s n J)
  grown-is zero J g fuel = go (least (pending_by s J)) refl
    where
      go : (q : Option Due) → least (pending_by s J) ≡ q → IsJournalBy s J
      go None e = growing_whole s o J g (none_pending s J e)
      go (Some x) e =
          let count : length (J ++ s.make J x ∷ []) ≤ most = few (J ++ s.make J x ∷ []) (growing-push s o J g x (least-pending s J x e)) in
          let push : length (J ++ s.make J x ∷ []) ≡ length J + 1 = length_push J (s.make J x) in
          absurd (omega (arith, count, push))
  grown-is (suc n) J g fuel = go (least (pending_by s J)) refl (grown-is n)
    where
      go : (q : Option Due) → least (pending_by s J) ≡ q
          → ((K : List V) → IsGrowingBy s K → most ≤ n + length K → IsJournalBy s (grown_by s n K))
          → IsJournalBy s (grown_by s n (more_by s J (least (pending_by s J))))
      go None e rest =
          subst (λ (q : Option Due). IsJournalBy s (grown_by s n (more_by s J q))) (sym e)
          (subst (λ (l : List V). IsJournalBy s l) (sym (grown-whole s n J e)) (growing_whole s o J g (none_pending s J e)))
      go (Some x) e rest =
          let push : length (J ++ s.make J x ∷ []) ≡ length J + 1 = length_push J (s.make J x) in
          subst (λ (q : Option Due). IsJournalBy s (grown_by s n (more_by s J q))) (sym e)
          (rest (J ++ s.make J x ∷ []) (growing-push s o J g x (least-pending s J x e)) (omega (arith, push)))

  -- the list that is grown from nothing is a journal
  pub meets_by : IsJournalBy s (grown_by s most [])
  meets_by = grown-is most [] (growing-nil s) (omega arith)

  -- and each list that grows is a front of it
  pub growing-front_by : (J : List V) → IsGrowingBy s J → (rest : List V) × (grown_by s most [] ≡ J ++ rest)
  growing-front_by J g =
      let whole = grown-is most J g (omega arith) in
      let r = grown-front s most J in
      (r.0, one_journal_by s o (grown_by s most []) (grown_by s most J) meets_by whole ∙ r.1)
