-- How many notes a core has told others: one for each visit, and one for each packet, of which it was to tell.
use Rattle.std.proofs.Common.{◌≡◌, ◌⊎◌, inl, inr, ℕ, ◌+◌, ◌<◌, ◌==◌, nat_lt, nat_le, Bool, true, false, cond, ◌&&◌, not, List, length, map, filter, Option, Some, None, refl, sym, ap, ◌∙◌, subst, arith, eqb-true, eq-eqb}
use Rattle.std.proofs.lemmas.Bool.{true≢false, and_from, and_parts, cases_order, ne_eqb, lt-ltb, le-ltb, le-leb, lt-leb}
use Rattle.std.specs.Prelude.{◌↔◌}
use Rattle.std.proofs.lemmas.List.{length-map}
use Rattle.std.specs.Option.{option_map_or}
use Rattle.mn_base.specs.Among.{Among}
use Rattle.journal.specs.declared.setup.PacketPlan.{PacketPlan}
use Rattle.journal.specs.declared.visit.Visit.{Visit}
use Rattle.journal.specs.SetupView.{SetupView}
use Rattle.journal.specs.IsSetup.{IsSetup}
use Rattle.journal.specs.Journal.{journal_of}
use Rattle.journal.specs.Fates.{last_visit}
use Rattle.parcel.specs.declared.note.Note.{Note}
use Rattle.parcel.specs.declared.note.Note.TheVariants.{Arrive}
use Rattle.parcel.specs.Owners.{owner_of}
use Rattle.parcel.specs.Windows.{window_of}
use Rattle.parcel.specs.Known.{origin_of}
use Rattle.parcel.specs.Parcels.{IsDecided, IsNote, arrive_note, settle_note, note_packet}
use Rattle.parcel.specs.Told.{Told}
use Rattle.core_loop.specs.WorldState.{counts_below}
use Rattle.core_loop.specs.Work.{is_settle}
use Rattle.core_loop.specs.Handing.{is_told_arrival, is_told_settle, AreTold, arrivals_told, settles_told}
use Rattle.mn_base.proofs.Members.{Among-map, Among-from-map, Among-filter, Among-from-filter}
use Rattle.pipe.proofs.Growing.{one_visit}
use Rattle.journal.specs.IsJournal.{scheme_of}
use Rattle.journal.proofs.Orderly.{orderly, one_packet}
use Rattle.journal.proofs.Meets.{journal-grows}
use Rattle.core_loop.proofs.Differ.{AllDiffer, differ-from, differ-map, differ-filter, same-count, count-plus, filter-same}
use Rattle.core_loop.proofs.Kept.{filter-none}
use Rattle.core_loop.proofs.OneEach.{visits-differ, packets-differ}

-- ---- tests on numbers

-- one of two tests holds where a third does, and not both; so with others beside them
sums : (a b l m e : Bool) → cond l 1 0 ≡ cond m 1 0 + cond e 1 0
    → cond ((a && l) && b) 1 0 ≡ cond ((a && m) && b) 1 0 + cond ((a && e) && b) 1 0
sums false b l m e h = refl
sums true b true true false h = omega arith
sums true b true false true h = omega arith
sums true b false false false h = refl
sums true b true true true h = absurd (omega (arith, h))
sums true b true false false h = absurd (omega (arith, h))
sums true b false true true h = absurd (omega (arith, h))
sums true b false true false h = absurd (omega (arith, h))
sums true b false false true h = absurd (omega (arith, h))

-- at most n is below n, or n
pub three : (x n : ℕ) → cond (nat_le x n) 1 0 ≡ cond (nat_lt x n) 1 0 + cond (x == n) 1 0
three x n = go (cases_order x n)
  where
    weigh : (l m e : Bool) → nat_le x n ≡ l → nat_lt x n ≡ m → (x == n) ≡ e → cond l 1 0 ≡ cond m 1 0 + cond e 1 0
        → cond (nat_le x n) 1 0 ≡ cond (nat_lt x n) 1 0 + cond (x == n) 1 0
    weigh l m e p q r h =
        let a : cond {A = ℕ} (nat_le x n) 1 0 ≡ cond l 1 0 = ap (λ (b : Bool). cond {A = ℕ} b 1 0) p in
        let b : cond {A = ℕ} (nat_lt x n) 1 0 ≡ cond m 1 0 = ap (λ (b : Bool). cond {A = ℕ} b 1 0) q in
        let c : cond {A = ℕ} (x == n) 1 0 ≡ cond e 1 0 = ap (λ (b : Bool). cond {A = ℕ} b 1 0) r in
        omega (arith, a, b, c, h)

    go : (x ≡ n) ⊎ ((x < n) ⊎ (n < x)) → cond (nat_le x n) 1 0 ≡ cond (nat_lt x n) 1 0 + cond (x == n) 1 0
    go (inl same) = weigh true false true (le-leb x n (omega (arith, same))) (le-ltb x n (omega (arith, same))) (eq-eqb x n same) refl
    go (inr (inl below)) = weigh true true false (le-leb x n (omega (arith, below))) (lt-ltb x n below) (ne_eqb x n (λ same. omega (arith, same, below))) refl
    go (inr (inr above)) =
        weigh false false false (lt-leb x n above) (le-ltb x n (omega (arith, above))) (ne_eqb x n (λ same. omega (arith, same, above))) refl

-- below, said by one more
below-le : (x n : ℕ) → nat_lt x n ≡ nat_le (x + 1) n
below-le x n = go (cases_order x n)
  where
    go : (x ≡ n) ⊎ ((x < n) ⊎ (n < x)) → nat_lt x n ≡ nat_le (x + 1) n
    go (inl same) = le-ltb x n (omega (arith, same)) ∙ sym (lt-leb (x + 1) n (omega (arith, same)))
    go (inr (inl below)) = lt-ltb x n below ∙ sym (le-leb (x + 1) n (omega (arith, below)))
    go (inr (inr above)) = le-ltb x n (omega (arith, above)) ∙ sym (lt-leb (x + 1) n (omega (arith, above)))

pub le-below : (x n : ℕ) → nat_lt x (n + 1) ≡ nat_le x n
le-below x n = go (cases_order x n)
  where
    go : (x ≡ n) ⊎ ((x < n) ⊎ (n < x)) → nat_lt x (n + 1) ≡ nat_le x n
    go (inl same) = lt-ltb x (n + 1) (omega (arith, same)) ∙ sym (le-leb x n (omega (arith, same)))
    go (inr (inl below)) = lt-ltb x (n + 1) (omega (arith, below)) ∙ sym (le-leb x n (omega (arith, below)))
    go (inr (inr above)) = le-ltb x (n + 1) (omega (arith, above)) ∙ sym (lt-leb x n above)

not-true : (b : Bool) → not b ≡ true → b ≡ false
not-true false e = refl
not-true true e = absurd (true≢false (sym e))

-- a test on an option, where its tests agree
mapped-same : (f g : Visit → Bool) (o : Option Visit) → ((v : Visit) → f v ≡ g v) → option_map_or f o false ≡ option_map_or g o false
mapped-same f g None same = refl
mapped-same f g (Some v) same = same v

module _ (S : SetupView) (is : IsSetup S) (core n : ℕ) where
  -- ---- visits

  -- a visit of another core of which the core tells in this parcel
  abbrev arrives : Visit → Bool
  arrives v = (((origin_of S v).core == core) && ((origin_of S v).number == n)) && not (owner_of S v.pipe == core)

  abbrev arrival : Visit → Told
  arrival v = record { receiver = owner_of S v.pipe; note = arrive_note v }

  arrivals-differ : AllDiffer (map arrival (filter arrives (journal_of S)))
  arrivals-differ =
      differ-map arrival (filter arrives (journal_of S)) one (differ-filter arrives (journal_of S) (visits-differ S is))
    where
      one : (v w : Visit) → Among v (filter arrives (journal_of S)) → Among w (filter arrives (journal_of S)) → arrival v ≡ arrival w → v ≡ w
      one v w a b e =
          let notes : Arrive v.packet v.hop v.tick ≡ Arrive w.packet w.hop w.tick = ap (λ (t : Told). t.note) e in
          let packets : v.packet ≡ w.packet = cc in
          let hops : v.hop ≡ w.hop = cc in
          one_visit (scheme_of S) (orderly S is) (journal_of S) (journal-grows S is) v w (Among-from-filter arrives v (journal_of S) a).0
          (Among-from-filter arrives w (journal_of S) b).0 packets hops

  arrivals-are : (told : List Told) → AreTold S core n told → (t : Told)
      → Among t (map arrival (filter arrives (journal_of S))) ↔ Among t (filter (is_told_arrival core) told)
  arrivals-are told are t = (there, back)
    where
      there : Among t (map arrival (filter arrives (journal_of S))) → Among t (filter (is_told_arrival core) told)
      there a =
          let m = Among-from-map arrival t (filter arrives (journal_of S)) a in
          let f = Among-from-filter arrives m.0 (journal_of S) m.1 in
          let b = and_parts _ _ f.1 in
          let c = and_parts _ _ b.0 in
          subst (λ (u : Told). Among u (filter (is_told_arrival core) told)) m.2
          (Among-filter (is_told_arrival core) (arrival m.0) told
          ((are.members (arrival m.0)).1
          (b.1, inl (m.0, record { among = f.0; owner = refl; from_core = eqb-true _ _ c.0; from_number = eqb-true _ _ c.1 }, refl)))
          b.1)

      back : Among t (filter (is_told_arrival core) told) → Among t (map arrival (filter arrives (journal_of S)))
      back a = go ((are.members t).0 f.0).1
        where
          f : Among t told × (is_told_arrival core t ≡ true)
          f = Among-from-filter (is_told_arrival core) t told a

          b : (not (is_settle t.note) ≡ true) × (not (t.receiver == core) ≡ true)
          b = and_parts (not (is_settle t.note)) (not (t.receiver == core)) f.1

          go : IsNote S core t.receiver n t.note → Among t (map arrival (filter arrives (journal_of S)))
          go (inl v) =
              subst (λ (u : Told). Among u (map arrival (filter arrives (journal_of S)))) its
              (Among-map arrival v.0 (filter arrives (journal_of S)) (Among-filter arrives v.0 (journal_of S) v.1.among passes))
            where
              its : arrival v.0 ≡ t
              its =
                  ap (λ (k : ℕ). record { receiver = k; note = arrive_note v.0 }) v.1.owner
                  ∙ ap (λ (m : Note). record { receiver = t.receiver; note = m }) v.2

              passes : arrives v.0 ≡ true
              passes =
                  and_from _ _ (and_from _ _ (eq-eqb _ _ v.1.from_core) (eq-eqb _ _ v.1.from_number))
                  (ap (λ (k : ℕ). not (k == core)) v.1.owner ∙ b.1)
          go (inr p) = absurd (true≢false (ap is_settle p.2 ∙ not-true _ b.0))

  -- what was told in parcels up to this one is what was told in those below it, and in it
  pub arrivals-step : (told : List Told) → AreTold S core n told
      → (counts_below S core n).arrivals ≡ arrivals_told S core n + length (filter (is_told_arrival core) told)
  arrivals-step told are =
      let split : (counts_below S core n).arrivals ≡ arrivals_told S core n + length (filter arrives (journal_of S)) =
      count-plus _ _ arrives (journal_of S)
      (λ v a. sums ((origin_of S v).core == core) (not (owner_of S v.pipe == core)) _ _ _ (three (origin_of S v).number n)) in
      let many : length (map arrival (filter arrives (journal_of S))) ≡ length (filter (is_told_arrival core) told) =
      same-count _ _ arrivals-differ (differ-filter (is_told_arrival core) told (differ-from told are.once)) (arrivals-are told are) in
      let mapped = length-map (filter arrives (journal_of S)) arrival in
      omega (arith, split, many, mapped)

  -- ---- packets

  -- a packet of whose fate the core tells another one in this parcel
  abbrev decides : PacketPlan → Bool
  decides p = option_map_or (λ v. (owner_of S v.pipe == core) && (window_of S v.tick + 1 == n)) (last_visit (journal_of S) p.number) false
      && not (p.core == core)

  abbrev decision : PacketPlan → Told
  decision p = record { receiver = p.core; note = settle_note S p }

  decisions-differ : AllDiffer (map decision (filter decides S.packets))
  decisions-differ = differ-map decision (filter decides S.packets) one (differ-filter decides S.packets (packets-differ S is))
    where
      one : (p q : PacketPlan) → Among p (filter decides S.packets) → Among q (filter decides S.packets) → decision p ≡ decision q → p ≡ q
      one p q a b e =
          one_packet S is p q (Among-from-filter decides p S.packets a).0 (Among-from-filter decides q S.packets b).0
          (ap (λ (t : Told). note_packet t.note) e)

  decided-last : (p : PacketPlan) (o : Option Visit) → last_visit (journal_of S) p.number ≡ o
      → option_map_or (λ v. (owner_of S v.pipe == core) && (window_of S v.tick + 1 == n)) o false ≡ true → Among p S.packets
      → IsDecided S core p.core n p
  decided-last p None l e a = absurd (true≢false (sym e))
  decided-last p (Some v) l e a =
      let b = and_parts _ _ e in
      record { among = a; entered = refl; last = v; is_last = l; owner = eqb-true _ _ b.0; window = eqb-true _ _ b.1 }

  decisions-are : (told : List Told) → AreTold S core n told → (t : Told)
      → Among t (map decision (filter decides S.packets)) ↔ Among t (filter (is_told_settle core) told)
  decisions-are told are t = (there, back)
    where
      there : Among t (map decision (filter decides S.packets)) → Among t (filter (is_told_settle core) told)
      there a =
          let m = Among-from-map decision t (filter decides S.packets) a in
          let f = Among-from-filter decides m.0 S.packets m.1 in
          let b = and_parts _ _ f.1 in
          subst (λ (u : Told). Among u (filter (is_told_settle core) told)) m.2
          (Among-filter (is_told_settle core) (decision m.0) told
          ((are.members (decision m.0)).1 (refl, inr (m.0, decided-last m.0 _ refl b.0 f.0, refl)))
          b.1)

      back : Among t (filter (is_told_settle core) told) → Among t (map decision (filter decides S.packets))
      back a = go ((are.members t).0 f.0).1
        where
          f : Among t told × (is_told_settle core t ≡ true)
          f = Among-from-filter (is_told_settle core) t told a

          b : (is_settle t.note ≡ true) × (not (t.receiver == core) ≡ true)
          b = and_parts (is_settle t.note) (not (t.receiver == core)) f.1

          go : IsNote S core t.receiver n t.note → Among t (map decision (filter decides S.packets))
          go (inl v) = absurd (true≢false (sym b.0 ∙ ap is_settle (sym v.2)))
          go (inr p) =
              subst (λ (u : Told). Among u (map decision (filter decides S.packets))) its
              (Among-map decision p.0 (filter decides S.packets) (Among-filter decides p.0 S.packets p.1.among passes))
            where
              its : decision p.0 ≡ t
              its =
                  ap (λ (k : ℕ). record { receiver = k; note = settle_note S p.0 }) p.1.entered
                  ∙ ap (λ (m : Note). record { receiver = t.receiver; note = m }) p.2

              passes : decides p.0 ≡ true
              passes =
                  and_from _ _
                  (ap (λ (o : Option Visit). option_map_or (λ v. (owner_of S v.pipe == core) && (window_of S v.tick + 1 == n)) o false) p.1.is_last
                  ∙ and_from _ _ (eq-eqb _ _ p.1.owner) (eq-eqb _ _ p.1.window))
                  (ap (λ (k : ℕ). not (k == core)) p.1.entered ∙ b.1)

  decided-sum : (b : Bool) (o : Option Visit)
      → cond (option_map_or (λ v. (owner_of S v.pipe == core) && nat_lt (window_of S v.tick) n) o false && b) 1 0
      ≡ cond (option_map_or (λ v. (owner_of S v.pipe == core) && nat_lt (window_of S v.tick + 1) n) o false && b) 1 0
      + cond (option_map_or (λ v. (owner_of S v.pipe == core) && (window_of S v.tick + 1 == n)) o false && b) 1 0
  decided-sum b None = refl
  decided-sum b (Some v) =
      sums (owner_of S v.pipe == core) b _ _ _
      (ap (λ (x : Bool). cond {A = ℕ} x 1 0) (below-le (window_of S v.tick) n) ∙ three (window_of S v.tick + 1) n)

  pub settles-step : (told : List Told) → AreTold S core n told
      → (counts_below S core n).settles ≡ settles_told S core n + length (filter (is_told_settle core) told)
  settles-step told are =
      let split : (counts_below S core n).settles ≡ settles_told S core n + length (filter decides S.packets) =
      count-plus _ _ decides S.packets (λ p a. decided-sum (not (p.core == core)) (last_visit (journal_of S) p.number)) in
      let many : length (map decision (filter decides S.packets)) ≡ length (filter (is_told_settle core) told) =
      same-count _ _ decisions-differ (differ-filter (is_told_settle core) told (differ-from told are.once)) (decisions-are told are) in
      let mapped = length-map (filter decides S.packets) decision in
      omega (arith, split, many, mapped)

-- ---- from one number of parcels to the next, and at the start

pub arrivals-next : (S : SetupView) (core n : ℕ) → arrivals_told S core (n + 1) ≡ (counts_below S core n).arrivals
arrivals-next S core n =
    ap length (filter-same _ _ (journal_of S)
    (λ v a. ap (λ (b : Bool). (((origin_of S v).core == core) && b) && not (owner_of S v.pipe == core)) (le-below (origin_of S v).number n)))

pub settles-next : (S : SetupView) (core n : ℕ) → settles_told S core (n + 1) ≡ (counts_below S core n).settles
settles-next S core n =
    ap length (filter-same _ _ S.packets
    (λ p a. ap (λ (b : Bool). b && not (p.core == core))
    (mapped-same _ _ (last_visit (journal_of S) p.number) (λ v. ap (λ (b : Bool). (owner_of S v.pipe == core) && b)
    (le-below (window_of S v.tick + 1) n ∙ sym (below-le (window_of S v.tick) n))))))

pub arrivals-first : (S : SetupView) (core : ℕ) → arrivals_told S core 0 ≡ 0
arrivals-first S core =
    ap length (filter-none _ (journal_of S) (λ v a. none ((origin_of S v).core == core) (origin_of S v).number (not (owner_of S v.pipe == core))))
  where
    none : (a : Bool) (x : ℕ) (b : Bool) → ((a && nat_lt x 0) && b) ≡ false
    none true x b = ap (λ (c : Bool). c && b) (le-ltb x 0 (omega arith))
    none false x b = refl

pub settles-first : (S : SetupView) (core : ℕ) → settles_told S core 0 ≡ 0
settles-first S core = ap length (filter-none _ S.packets (λ p a. none (last_visit (journal_of S) p.number) (not (p.core == core))))
  where
    none : (o : Option Visit) (b : Bool)
        → (option_map_or (λ v. (owner_of S v.pipe == core) && nat_lt (window_of S v.tick + 1) 0) o false && b) ≡ false
    none None b = refl
    none (Some v) b = split (owner_of S v.pipe == core)
      where
        split : (a : Bool) → ((a && nat_lt (window_of S v.tick + 1) 0) && b) ≡ false
        split true = ap (λ (c : Bool). c && b) (le-ltb (window_of S v.tick + 1) 0 (omega arith))
        split false = refl
