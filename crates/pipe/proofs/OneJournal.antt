-- Two journals of a scheme agree: after a common front each has the next visit of the other, so the least of both is the same,
-- and the front says what comes of it.
use Rattle.std.proofs.Common.{◌≡◌, ◌⊎◌, inl, inr, ⊎_elim, List, [], ◌∷◌, ◌++◌, append_assoc, refl, sym, ap, ap₂, ◌∙◌, subst}
use Rattle.mn_base.specs.Among.{Among}
use Rattle.mn_base.specs.declared.due.Due.{Due}
use Rattle.mn_base.specs.Canonical.{Before}
use Rattle.pipe.specs.Scheme.{Scheme, dues_by, Rises, IsJournalBy, IsOrderly}
use Rattle.mn_base.proofs.Members.{Among-append-left, Among-append-right, Among-append, Among-map, Among-from-map}
use Rattle.pipe.proofs.CanonicalOrder.{before-irreflexive, before-asymmetric}
use Rattle.pipe.proofs.Origins.{OriginBy, origin_by, due_from-first, due_from-visit, later_by, rises-across, rises-rest, rises-in_front}

module _ {V : Type 0} (s : Scheme V) (o : IsOrderly s) where
  -- a visit that follows a common front in one journal stands in the other, too, and not in the front
  carried : (front j k : List V) (w : V) → IsJournalBy s (front ++ j) → IsJournalBy s (front ++ w ∷ k)
      → (v : V) × Among v j × (s.due_of v ≡ s.due_of w)
  carried front j k w J K = placed (Among-from-map s.due_of (s.due_of w) (front ++ j) (J.complete (s.due_of w) due))
    where
      in_K : Among w (front ++ w ∷ k)
      in_K = Among-append-right w front (w ∷ k) (inl refl)

      moved : OriginBy s (front ++ w ∷ k) (s.due_of w) → Among (s.due_of w) (dues_by s (front ++ j))
      moved (inl e) = due_from-first s (front ++ j) (s.due_of w) e
      moved (inr n) =
          let before : Before (s.due_of n.0) (s.due_of w) = inl (later_by s o (front ++ w ∷ k) n.0 (s.due_of w) K.made n.1 n.2) in
          let u_in = rises-in_front s front k n.0 w K.rises n.1 before in
          due_from-visit s (front ++ j) n.0 (s.due_of w) (Among-append-left n.0 front j u_in) n.2

      due : Among (s.due_of w) (dues_by s (front ++ j))
      due = moved (origin_by s (front ++ w ∷ k) (s.due_of w) (K.sound (s.due_of w) (Among-map s.due_of w (front ++ w ∷ k) in_K)))

      placed : (v : V) × Among v (front ++ j) × (s.due_of v ≡ s.due_of w) → (v : V) × Among v j × (s.due_of v ≡ s.due_of w)
      placed t = ⊎_elim in_front (λ l. (t.0, l, t.2)) (Among-append t.0 front j t.1)
        where
          in_front : Among t.0 front → (v : V) × Among v j × (s.due_of v ≡ s.due_of w)
          in_front l =
              absurd (before-irreflexive (s.due_of w)
              (subst (λ (d : Due). Before d (s.due_of w)) t.2 (rises-across s front (w ∷ k) t.0 w K.rises l (inl refl))))

  -- the next visits of two journals with a common front are one
  same_next : (front j k : List V) (v w : V) → IsJournalBy s (front ++ v ∷ j) → IsJournalBy s (front ++ w ∷ k) → v ≡ w
  same_next front j k v w J K =
      J.made front j v refl ∙ ap (s.make front) (meet first second) ∙ sym (K.made front k w refl)
    where
      turn : (l : List V) (a b : V) → Rises s (front ++ a ∷ l) → (u : V) × Among u (a ∷ l) × (s.due_of u ≡ s.due_of b)
          → (s.due_of a ≡ s.due_of b) ⊎ Before (s.due_of a) (s.due_of b)
      turn l a b r t = place t.1
        where
          place : Among t.0 (a ∷ l) → (s.due_of a ≡ s.due_of b) ⊎ Before (s.due_of a) (s.due_of b)
          place (inl e) = inl (ap s.due_of e ∙ t.2)
          place (inr h) = inr (subst (λ (d : Due). Before (s.due_of a) d) t.2 ((rises-rest s front (a ∷ l) r).0 t.0 h))

      first : (s.due_of v ≡ s.due_of w) ⊎ Before (s.due_of v) (s.due_of w)
      first = turn j v w J.rises (carried front (v ∷ j) k w J K)

      second : (s.due_of w ≡ s.due_of v) ⊎ Before (s.due_of w) (s.due_of v)
      second = turn k w v K.rises (carried front (w ∷ k) j v K J)

      meet : (s.due_of v ≡ s.due_of w) ⊎ Before (s.due_of v) (s.due_of w) → (s.due_of w ≡ s.due_of v) ⊎ Before (s.due_of w) (s.due_of v)
          → s.due_of v ≡ s.due_of w
      meet (inl e) q = e
      meet (inr a) (inl e) = sym e
      meet (inr a) (inr b) = absurd (before-asymmetric (s.due_of v) (s.due_of w) a b)

  same_rest : (j k front : List V) → IsJournalBy s (front ++ j) → IsJournalBy s (front ++ k) → j ≡ k
  same_rest [] [] front J K = refl
  same_rest [] (w ∷ k) front J K = absurd (carried front [] k w J K).1
  same_rest (v ∷ j) [] front J K = absurd (carried front [] j v K J).1
  same_rest (v ∷ j) (w ∷ k) front J K =
      let e : v ≡ w = same_next front j k v w J K in
      let J' : IsJournalBy s (front ++ v ∷ [] ++ j) = subst (λ (l : List V). IsJournalBy s l) (sym (append_assoc front (v ∷ []) j)) J in
      let K' : IsJournalBy s (front ++ v ∷ [] ++ k) =
      subst (λ (l : List V). IsJournalBy s l) (ap (λ (u : V). front ++ u ∷ k) (sym e) ∙ sym (append_assoc front (v ∷ []) k)) K in
      ap₂ (λ (u : V) (l : List V). u ∷ l) e (same_rest j k (front ++ v ∷ []) J' K')

  -- a scheme has one journal at most
  pub one_journal_by : (J K : List V) → IsJournalBy s J → IsJournalBy s K → J ≡ K
  one_journal_by J K j k = same_rest J K [] j k
