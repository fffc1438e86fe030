-- The visits of a list, packet by packet.
use Rattle.std.proofs.Common.{◌≡◌, inl, inr, ℕ, suc, ◌<◌, Bool, eqb, List, [], ◌∷◌, sum_by, AllPairs, refl, sym, ap, ◌∙◌, arith}
use Rattle.std.specs.Prelude.{◌&&◌}
use Rattle.std.proofs.lemmas.Bool.{eq-eqb, ne_eqb}
use Rattle.std.proofs.lemmas.List.Sums.{sum_by-cons}
use Rattle.mn_base.specs.Among.{Among}
use Rattle.mn_base.proofs.Members.{All-Among}
use Rattle.journal.specs.declared.setup.PacketPlan.{PacketPlan}
use Rattle.journal.specs.declared.visit.Visit.{Visit}
use Rattle.settle.proofs.Lists.{as_number, many, many-cons, sum_by-zero, sum_by-plus}

abbrev pub NumbersRise : List PacketPlan → Type 0
NumbersRise ps = AllPairs (λ p q. p.number < q.number) ps

pub numbers_rise-tail : (p : PacketPlan) (ps : List PacketPlan) → NumbersRise (p ∷ ps) → NumbersRise ps
numbers_rise-tail p ps rise i j d less within = rise (suc i) (suc j) d (omega arith) (omega arith)

pub numbers_rise-head : (p : PacketPlan) (ps : List PacketPlan) → NumbersRise (p ∷ ps) → (q : PacketPlan) → Among q ps → p.number < q.number
numbers_rise-head p ps rise q among =
    All-Among (λ (r : PacketPlan). p.number < r.number) q ps (λ i d within. rise 0 (suc i) d (omega arith) (omega arith)) among

-- one packet alone has a number that is one of theirs
one_packet : (n : ℕ) (b : Bool) (ps : List PacketPlan) → NumbersRise ps → (p : PacketPlan) → Among p ps → p.number ≡ n
    → sum_by (λ q. as_number (eqb n q.number && b)) ps ≡ as_number b
one_packet n b [] rise p among is = absurd among
one_packet n b (q ∷ ps) rise p (inl same) is =
    let here : q.number ≡ n = ap (λ (r : PacketPlan). r.number) same ∙ is in
    let first : as_number (eqb n q.number && b) ≡ as_number b = rw (eq-eqb n q.number (sym here)) refl in
    let rest = sum_by-zero (λ r. as_number (eqb n r.number && b)) ps
    (λ r later. let above : q.number < r.number = numbers_rise-head q ps rise r later in rw (ne_eqb n r.number (λ e. omega arith)) refl) in
    omega (arith, first, rest, sum_by-cons (λ r. as_number (eqb n r.number && b)) q ps)
one_packet n b (q ∷ ps) rise p (inr later) is =
    let above : q.number < p.number = numbers_rise-head q ps rise p later in
    let first : as_number (eqb n q.number && b) ≡ 0 = rw (ne_eqb n q.number (λ e. omega arith)) refl in
    let rest = one_packet n b ps (numbers_rise-tail q ps rise) p later is in
    omega (arith, first, rest, sum_by-cons (λ r. as_number (eqb n r.number && b)) q ps)

-- the visits that pass a test are those of each packet, counted by itself
pub many-by_packet : (test : Visit → Bool) (J : List Visit) (ps : List PacketPlan) → NumbersRise ps
    → ((v : Visit) → Among v J → (p : PacketPlan) × Among p ps × (p.number ≡ v.packet))
    → many test J ≡ sum_by (λ p. many (λ v. eqb v.packet p.number && test v) J) ps
many-by_packet test [] ps rise named = sym (sum_by-zero (λ p. many (λ v. eqb v.packet p.number && test v) []) ps (λ p among. refl))
many-by_packet test (v ∷ J) ps rise named =
    let rest = many-by_packet test J ps rise (λ w among. named w (inr among)) in
    let its = named v (inl refl) in
    let one = one_packet v.packet (test v) ps rise its.0 its.1 its.2 in
    let split = sum_by-plus (λ p. many (λ w. eqb w.packet p.number && test w) (v ∷ J)) (λ p. as_number (eqb v.packet p.number && test v))
    (λ p. many (λ w. eqb w.packet p.number && test w) J) ps
    (λ p. many-cons (λ w. eqb w.packet p.number && test w) v J) in
    omega (arith, rest, one, split, many-cons test v J)
