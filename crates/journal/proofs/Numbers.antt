-- Packets are found by their numbers, since the numbers rise.
use Rattle.std.proofs.Common.{◌≡◌, ◌⊎◌, inl, inr, ℕ, ◌<◌, ◌≤◌, ◌==◌, ltb, true, false, List, length, Some, None, get_or, sym, ap, ◌∙◌, subst, arith, eqb-true, eq-eqb, ltb-true, ltb-false}
use Rattle.std.proofs.lemmas.Bool.{cases_order, false_from_ne_true}
use Rattle.std.proofs.lemmas.List.{get_or_default}
use Rattle.std.specs.List.Sorted.{IsPartitionPoint, IsNonDecreasingBy}
use Rattle.mn_base.specs.Among.{Among}
use Rattle.journal.specs.declared.setup.PacketPlan.{PacketPlan}
use Rattle.journal.specs.SetupView.{SetupView, packet_of}
use Rattle.journal.specs.IsSetup.{IsSetup}
use Rattle.mn_base.proofs.Members.{Among-find, find-some, find-none, Among-index, IndexOf, index_of}
use Rattle.journal.proofs.Orderly.{one_packet}

pub numbers-order : (S : SetupView) → IsSetup S → IsNonDecreasingBy (λ p. p.number) S.packets
numbers-order S is i j d le within = go (cases_order i j)
  where
    go : (i ≡ j) ⊎ ((i < j) ⊎ (j < i)) → (get_or S.packets i d).number ≤ (get_or S.packets j d).number
    go (inl e) =
        let same : (get_or S.packets i d).number ≡ (get_or S.packets j d).number =
        ap (λ k. (get_or S.packets k d).number) e in omega (arith, same)
    go (inr (inl l)) =
        let less : (get_or S.packets i d).number < (get_or S.packets j d).number = is.numbers_rise i j d l within in omega (arith, less)
    go (inr (inr l)) = absurd (omega arith)

-- a packet of this number is the one
pub found : (S : SetupView) → IsSetup S → (p : PacketPlan) (n : ℕ) → Among p S.packets → p.number ≡ n → Some p ≡ packet_of S n
found S is p n a e =
    let f = find-some (λ (q : PacketPlan). q.number == n) p S.packets a (eq-eqb _ _ e) in
    let y = Among-find (λ (q : PacketPlan). q.number == n) f.0 S.packets f.1 in
    ap Some (one_packet S is p f.0 a y.0 (e ∙ sym (eqb-true _ _ y.1))) ∙ sym f.1

-- and there is none, where the first whose number isn't below has another number
pub absent : (S : SetupView) → IsSetup S → (n i : ℕ)
    → IsPartitionPoint (λ (p : PacketPlan). ltb p.number n ≡ true) (λ (p : PacketPlan). ltb p.number n ≡ false) S.packets i
    → ((d : PacketPlan) → i < length S.packets → (get_or S.packets i d).number ≡ n → ⊥) → None ≡ packet_of S n
absent S is n i parts other = sym (find-none (λ (p : PacketPlan). p.number == n) S.packets none)
  where
    none : (p : PacketPlan) → Among p S.packets → (p.number == n) ≡ false
    none p a = false_from_ne_true (p.number == n) (λ e. clash (eqb-true _ _ e) (cases_order s.index i))
      where
        s : IndexOf p S.packets
        s = index_of p S.packets a

        clash : p.number ≡ n → (s.index ≡ i) ⊎ ((s.index < i) ⊎ (i < s.index)) → ⊥
        clash e (inl same) =
            other p (subst (λ (k : ℕ). k < length S.packets) same s.within)
            (ap (λ k. (get_or S.packets k p).number) (sym same) ∙ ap (λ (q : PacketPlan). q.number) (s.here p) ∙ e)
        clash e (inr (inl below)) =
            let less : (get_or S.packets s.index p).number < n = ltb-true _ _ (parts.0 s.index p (omega arith) below) in
            let here : (get_or S.packets s.index p).number ≡ n = ap (λ (q : PacketPlan). q.number) (s.here p) ∙ e in
            omega (arith, less, here)
        clash e (inr (inr above)) =
            let within : s.index < length S.packets = s.within in
            let most : n ≤ (get_or S.packets i p).number = ltb-false _ _ (parts.1 i p (omega arith) (omega arith)) in
            let less : (get_or S.packets i p).number < (get_or S.packets s.index p).number = is.numbers_rise i s.index p above within in
            let here : (get_or S.packets s.index p).number ≡ n = ap (λ (q : PacketPlan). q.number) (s.here p) ∙ e in
            omega (arith, most, less, here)

-- the same for a list that is the setup's packets, at a place of it
pub found_at : (S : SetupView) → IsSetup S → (xs : List PacketPlan) (i n : ℕ) (d : PacketPlan) → xs ≡ S.packets → i < length xs
    → (get_or xs i d).number ≡ n → Some (get_or xs i d) ≡ packet_of S n
found_at S is xs i n d same within e =
    found S is (get_or xs i d) n (subst (Among (get_or xs i d)) same (Among-index xs i d within)) e

pub absent_at : (S : SetupView) → IsSetup S → (xs : List PacketPlan) (i n : ℕ) (d : PacketPlan) → xs ≡ S.packets
    → IsPartitionPoint (λ (p : PacketPlan). ltb p.number n ≡ true) (λ (p : PacketPlan). ltb p.number n ≡ false) xs i
    → (i < length xs → (get_or xs i d).number ≡ n → ⊥) → None ≡ packet_of S n
absent_at S is xs i n d same parts other =
    let At : List PacketPlan → Type 0 =
    λ ys. IsPartitionPoint (λ (p : PacketPlan). ltb p.number n ≡ true) (λ (p : PacketPlan). ltb p.number n ≡ false) ys i
    × (i < length ys → (get_or ys i d).number ≡ n → ⊥) in
    let moved : At S.packets = subst At same (parts, other) in
    absent S is n i moved.0 (λ e within number. moved.1 within (ap (λ (p : PacketPlan). p.number) (get_or_default S.packets i d e within) ∙ number))
