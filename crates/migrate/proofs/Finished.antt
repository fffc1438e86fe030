-- At the end of a run all packets are settled, and all visits are counted.
use Rattle.std.proofs.Common.{◌≡◌, inl, inr, ℕ, ◌<◌, nat_lt, List, [], ◌∷◌, length, filter, map, Some, slice_get, append-nil, refl, sym, ap, ◌∙◌, subst, arith}
use Rattle.std.specs.List.{flat_map, range_with_len}
use Rattle.std.proofs.lemmas.Bool.{lt-ltb}
use Rattle.mn_base.specs.Among.{Among}
use Rattle.journal.specs.declared.setup.PacketPlan.{PacketPlan}
use Rattle.journal.specs.declared.visit.Visit.{Visit}
use Rattle.journal.specs.SetupView.{route_of}
use Rattle.journal.specs.IsSetup.{IsSetup}
use Rattle.journal.specs.Journal.{journal_of}
use Rattle.journal.proofs.Ends.{ways_end, end-last}
use Rattle.journal.proofs.HeldFirst.{at-within}
use Rattle.parcel.specs.Counts.{counts_of}
use Rattle.settle.specs.Settlements.{AreAllSettledAt, AreAllSettled}
use Rattle.settle.proofs.Settlements.{joined_settled}
use Rattle.migrate.specs.ShelvesView.{ShelfView, ShelvesView}
use Rattle.migrate.specs.Windows.{visits_before, IsDecidedBefore}
use Rattle.migrate.specs.Standing.{ShelvesStand, HaveRunAll}
use Rattle.migrate.proofs.Fronts.{filter-whole}

module _ (w : ShelvesView) (is : IsSetup w.setup) (all : HaveRunAll w) where
  -- all visits are before the end
  pub all-before : visits_before w.setup w.end ≡ journal_of w.setup
  all-before =
      ap (filter (λ (v : Visit). nat_lt v.tick w.end)) (sym (append-nil (journal_of w.setup)))
      ∙ filter-whole (λ (v : Visit). nat_lt v.tick w.end) (journal_of w.setup) [] (λ v m. lt-ltb v.tick w.end (all v m)) (λ v m. absurd m)

  -- so each packet is decided
  all-decided : (p : PacketPlan) → Among p w.setup.packets → IsDecidedBefore w.setup w.end p
  all-decided p m = go (route_of w.setup p.number) refl
    where
      go : (route : List ℕ) → route_of w.setup p.number ≡ route → IsDecidedBefore w.setup w.end p
      go [] e = inl e
      go (q ∷ route) e =
          let v = ways_end w.setup is p m (subst (λ (l : List ℕ). 0 < length l) (sym e) (omega arith)) in
          inr (v.0, end-last w.setup is p v.0 v.1, all v.0 v.1.among)

  module _ (bytes : List (List ℕ)) (s : ShelvesStand bytes w) where
    pub settled-at : (core : ℕ) (t : ShelfView) → slice_get w.shelves core ≡ Some t → AreAllSettledAt w.setup bytes core t.settled
    settled-at core t e =
        let a = s.settled core t e in
        record {
          settled = a.sound;
          all = λ p m c. a.all p (record { among = m; entered = c }) (all-decided p m);
          once = a.once;
        }

    -- the packets of all cores
    pub settled-all : AreAllSettled w.setup bytes (flat_map (λ (t : ShelfView). t.settled) w.shelves)
    settled-all =
        joined_settled w.setup bytes (λ (t : ShelfView). t.settled) w.shelves is as_many s.one_a_core settled-at
      where
        first : (t : ShelfView) × (slice_get w.shelves 0 ≡ Some t)
        first = at-within w.shelves 0 (let l = is.cores_least in omega (arith, l, s.one_a_core))

        as_many : length bytes ≡ length w.setup.packets
        as_many = (s.settled 0 first.0 first.1).each_has_bytes

    pub counts-all : w.counts ≡ map (counts_of (journal_of w.setup)) (range_with_len 0 (length w.setup.pipes))
    counts-all = s.counts ∙ ap (λ (J : List Visit). map (counts_of J) (range_with_len 0 (length w.setup.pipes))) all-before
