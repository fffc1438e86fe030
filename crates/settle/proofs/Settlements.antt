-- The settled packets of a run are the packets of its outcome.
use Rattle.std.proofs.Common.{◌≡◌, ◌≢◌, ℕ, ◌<◌, ◌==◌, List, [], ◌∷◌, length, map, filter_map, find, Option, Some, None, slice_get, AllPairs, refl, sym, ap, ◌∙◌, subst, inl, inr, arith}
use Rattle.std.specs.Option.{option_map_or, option_and_then}
use Rattle.std.specs.List.{zip, flat_map, range_with_len}
use Rattle.std.specs.List.Sorted.{IsPermutation, IsSortedByKey}
use Rattle.std.specs.Ordering.{nat_cmp}
use Rattle.std.proofs.lemmas.Bool.{eq-eqb, ne_eqb}
use Rattle.std.proofs.lemmas.List.Sorted.{IsPermutation-sym, IsPermutation-trans}
use Rattle.mn_base.specs.Among.{Among}
use Rattle.mn_base.proofs.Members.{Among-map, Among-from-map, Among-filter_map, Among-from-filter_map, All-Among}
use Rattle.journal.specs.declared.setup.PacketPlan.{PacketPlan}
use Rattle.journal.specs.declared.fate.Fate.{Fate}
use Rattle.journal.specs.declared.fate.Fate.TheVariants.{Left, Dropped}
use Rattle.journal.specs.SetupView.{SetupView, packet_of}
use Rattle.journal.specs.IsSetup.{IsSetup}
use Rattle.journal.specs.Journal.{journal_of}
use Rattle.journal.specs.Fates.{fate_of}
use Rattle.journal.proofs.Packets.{among-get, packet-known}
use Rattle.pipe.proofs.HeldOrder.{among-permuted}
use Rattle.parcel.specs.declared.core_result.Settled.{Settled}
use Rattle.parcel.specs.Owners.{entry_core}
use Rattle.parcel.specs.Counts.{counts_of}
use Rattle.parcel.specs.Results.{packet_bytes, bytes_by_fate, IsSettled}
use Rattle.parcel.proofs.Lookaheads.{Among-flat_map, Among-from-flat_map}
use Rattle.parcel.proofs.InOrder.{Within, before-rest, rest-ordered, same_list, permuted-differ, pair_cmp}
use Rattle.settle.specs.declared.outcome.Leaving.{Leaving}
use Rattle.settle.specs.declared.outcome.DropLine.{DropLine}
use Rattle.settle.specs.OutcomeView.{OutcomeView}
use Rattle.settle.specs.IsOutcome.{leaving_of, drop_of, leavings, drop_lines, IsOutcome}
use Rattle.settle.specs.Settlements.{leaving_settled, drop_settled, AreAllSettledAt, AreAllSettled}
use Rattle.settle.proofs.InOrder.{tick_and_packet, leavings-rise, packets-differ, sorted-in_order}
use Rattle.settle.proofs.Joined.{differ-map, same-permuted, sorted-rises, get_of, get-below, pieces-differ, chosen-ordered}

-- ---- packets with their bytes

-- a packet that stands beside bytes is one of the list
beside-among : (ps : List PacketPlan) (bytes : List (List ℕ)) (e : PacketPlan × List ℕ) → Among e (zip ps bytes) → Among e.0 ps
beside-among [] bytes e among = absurd among
beside-among (p ∷ ps) [] e among = absurd among
beside-among (p ∷ ps) (b ∷ bytes) e (inl same) = inl (ap (λ (x : PacketPlan × List ℕ). x.0) same)
beside-among (p ∷ ps) (b ∷ bytes) e (inr among) = inr (beside-among ps bytes e among)

-- where there are as many bytes as packets, some stand beside each
beside-some : (ps : List PacketPlan) (bytes : List (List ℕ)) → length bytes ≡ length ps → (p : PacketPlan) → Among p ps
    → (b : List ℕ) × Among (p, b) (zip ps bytes)
beside-some [] bytes as_many p among = absurd among
beside-some (q ∷ ps) [] as_many p among = absurd (omega (arith, as_many))
beside-some (q ∷ ps) (b ∷ bytes) as_many p (inl same) = (b, inl (ap (λ r. (r, b)) same))
beside-some (q ∷ ps) (b ∷ bytes) as_many p (inr among) =
    let found = beside-some ps bytes (omega (arith, as_many)) p among in (found.0, inr found.1)

-- the bytes found by a packet's number are those that stand beside it
bytes-found : (ps : List PacketPlan) (bytes : List (List ℕ)) → AllPairs (λ p q. p.number < q.number) ps → (e : PacketPlan × List ℕ)
    → Among e (zip ps bytes) → option_map_or (λ x. x.1) (find (λ x. x.0.number == e.0.number) (zip ps bytes)) [] ≡ e.1
bytes-found [] bytes up e among = absurd among
bytes-found (p ∷ ps) [] up e among = absurd among
bytes-found (p ∷ ps) (b ∷ bytes) up e (inl same) =
    rw (eq-eqb p.number e.0.number (ap (λ (x : PacketPlan × List ℕ). x.0.number) same)) (ap (λ (x : PacketPlan × List ℕ). x.1) same)
bytes-found (p ∷ ps) (b ∷ bytes) up e (inr among) =
    let before : p.number < e.0.number = before-rest (λ p q. p.number < q.number) p ps up e.0 (beside-among ps bytes e among) in
    rw (ne_eqb p.number e.0.number (λ (same : p.number ≡ e.0.number). omega (arith, before, same)))
    (bytes-found ps bytes (rest-ordered (λ p q. p.number < q.number) p ps up) e among)

-- ---- what each settled packet adds

-- a packet that is settled with its fate adds what the packet adds
leaving-settled : (t : Settled) (packet : ℕ) (bytes : List ℕ) (fate : Fate) → t.packet ≡ packet → t.fate ≡ fate
    → t.bytes ≡ bytes_by_fate fate bytes → leaving_settled t ≡ leaving_of packet bytes fate
leaving-settled t packet bytes (Left tick) named fate its_bytes = rw (named, fate, its_bytes) refl
leaving-settled t packet bytes (Dropped pipe tick cause) named fate its_bytes = rw (named, fate, its_bytes) refl

leaving-packet : (packet : ℕ) (bytes : List ℕ) (fate : Fate) (left : Leaving) → leaving_of packet bytes fate ≡ Some left → left.packet ≡ packet
leaving-packet packet bytes (Left tick) left is = cc
leaving-packet packet bytes (Dropped pipe tick cause) left is = cc

leaving-settled_packet : (t : Settled) (left : Leaving) → leaving_settled t ≡ Some left → left.packet ≡ t.packet
leaving-settled_packet t left is = go t.bytes refl
  where
    go : (bytes : Option (List ℕ)) → t.bytes ≡ bytes → left.packet ≡ t.packet
    go None at = let none : None ≡ Some left = sym (ap (option_and_then (λ b. leaving_of t.packet b t.fate)) at) ∙ is in cc
    go (Some bytes) at =
        leaving-packet t.packet bytes t.fate left (sym (ap (option_and_then (λ b. leaving_of t.packet b t.fate)) at) ∙ is)

drop-packet : (packet : ℕ) (fate : Fate) (line : DropLine) → drop_of packet fate ≡ Some line → line.packet ≡ packet
drop-packet packet (Left tick) line is = cc
drop-packet packet (Dropped pipe tick cause) line is = cc

-- ---- the settled packets of all cores

module _ {P : Type 0} (S : SetupView) (bytes : List (List ℕ)) (piece : P → List Settled) (ps : List P) (setup : IsSetup S)
    (as_many : length bytes ≡ length S.packets) (one_a_core : length ps ≡ S.cores)
    (each : (core : ℕ) (p : P) → slice_get ps core ≡ Some p → AreAllSettledAt S bytes core (piece p)) where
  joined-there : (t : Settled) → Among t (flat_map piece ps) → (core : ℕ) × IsSettled S bytes core t
  joined-there t among =
      let from = Among-from-flat_map piece t ps among in
      let at = get_of from.0 ps from.1 in
      (at.0, (each at.0 from.0 at.1).settled t from.2)

  joined-once : AllPairs (λ t u. t.packet ≢ u.packet) (flat_map piece ps)
  joined-once =
      pieces-differ (λ (t : Settled). t.packet) (entry_core S) piece 0 ps
      (λ core p at. (each core p at).once)
      (λ core p at t among.
      let settled = (each core p at).settled t among in
      let named : entry_core S t.packet ≡ settled.plan.core =
      ap (entry_core S) settled.packet ∙ ap (λ o. option_map_or (λ (q : PacketPlan). q.core) o 0) (packet-known S setup settled.plan settled.among) in
      let entered : settled.plan.core ≡ core = settled.entered in
      omega (arith, named, entered))

  joined-all : (p : PacketPlan) → Among p S.packets → Among p.number (map (λ t. t.packet) (flat_map piece ps))
  joined-all p among =
      let below : p.core < S.cores = All-Among (λ q. q.core < S.cores) p S.packets setup.packet_cores among in
      let found = get-below ps p.core (omega (arith, below, one_a_core)) in
      let there = Among-from-map (λ (t : Settled). t.packet) p.number (piece found.0) ((each p.core found.0 found.1).all p among refl) in
      subst (λ n. Among n (map (λ t. t.packet) (flat_map piece ps))) there.2
      (Among-map (λ (t : Settled). t.packet) there.0 (flat_map piece ps)
      (Among-flat_map piece found.0 there.0 ps (among-get ps p.core found.0 found.1) there.1))

  -- what each core settled, joined, is what all settled
  pub joined_settled : AreAllSettled S bytes (flat_map piece ps)
  joined_settled = record { each_has_bytes = as_many; settled = joined-there; all = joined-all; once = joined-once }

module _ (S : SetupView) (bytes : List (List ℕ)) (settled : List Settled) (setup : IsSetup S) (is : AreAllSettled S bytes settled) where
  settled-each : (p : PacketPlan) → Among p S.packets → (t : Settled) × Among t settled × (t.packet ≡ p.number)
  settled-each p among = Among-from-map (λ (t : Settled). t.packet) p.number settled (is.all p among)

  -- packets of one number are one
  one-packet : (p q : PacketPlan) → Among p S.packets → Among q S.packets → p.number ≡ q.number → p ≡ q
  one-packet p q in_p in_q same =
      let both : Some p ≡ Some q = sym (packet-known S setup p in_p) ∙ ap (packet_of S) same ∙ packet-known S setup q in_q in cc

  -- how a packet of the setup is settled
  record IsSettledAs (p : PacketPlan) (t : Settled) : Type 0 where
    among : Among t settled
    packet : t.packet ≡ p.number
    fate : t.fate ≡ fate_of S p
    its_bytes : t.bytes ≡ bytes_by_fate (fate_of S p) (packet_bytes S bytes p.number)

  settled-as : (p : PacketPlan) → Among p S.packets → (t : Settled) × IsSettledAs p t
  settled-as p among =
      let found = settled-each p among in
      let one = (is.settled found.0 found.1).1 in
      let same : one.plan ≡ p = one-packet one.plan p one.among among (sym one.packet ∙ found.2) in (
        found.0,
        record {
          among = found.1;
          packet = found.2;
          fate = one.fate ∙ ap (fate_of S) same;
          its_bytes = one.its_bytes ∙ ap (λ q. bytes_by_fate (fate_of S q) (packet_bytes S bytes q.number)) same;
        },
      )

  -- ---- the packets that left

  bytes-beside : (e : PacketPlan × List ℕ) → Among e (zip S.packets bytes) → packet_bytes S bytes e.0.number ≡ e.1
  bytes-beside e among = bytes-found S.packets bytes setup.numbers_rise e among

  left-there : Within (leavings S (journal_of S) bytes) (filter_map leaving_settled settled)
  left-there left among =
      let from = Among-from-filter_map (λ (e : PacketPlan × List ℕ). leaving_of e.0.number e.1 (fate_of S e.0)) left (zip S.packets bytes) among in
      let found = settled-as from.0.0 (beside-among S.packets bytes from.0 from.1) in
      Among-filter_map leaving_settled found.0 left settled found.1.among
      (leaving-settled found.0 from.0.0.number from.0.1 (fate_of S from.0.0) found.1.packet found.1.fate
      (found.1.its_bytes ∙ ap (bytes_by_fate (fate_of S from.0.0)) (bytes-beside from.0 from.1))
      ∙ from.2)

  left-back : Within (filter_map leaving_settled settled) (leavings S (journal_of S) bytes)
  left-back left among =
      let from = Among-from-filter_map leaving_settled left settled among in
      let one = (is.settled from.0 from.1).1 in
      let beside = beside-some S.packets bytes is.each_has_bytes one.plan one.among in
      Among-filter_map (λ (e : PacketPlan × List ℕ). leaving_of e.0.number e.1 (fate_of S e.0)) (one.plan, beside.0) left
      (zip S.packets bytes) beside.1
      (sym (leaving-settled from.0 one.plan.number beside.0 (fate_of S one.plan) one.packet one.fate
      (one.its_bytes ∙ ap (bytes_by_fate (fate_of S one.plan)) (bytes-beside (one.plan, beside.0) beside.1)))
      ∙ from.2)

  left-permuted : IsPermutation (leavings S (journal_of S) bytes) (filter_map leaving_settled settled)
  left-permuted =
      same-permuted (λ (left : Leaving). left.packet) (leavings S (journal_of S) bytes) (filter_map leaving_settled settled)
      (λ i j d lt within same. let before = leavings-rise (fate_of S) S.packets bytes setup.numbers_rise i j d lt within in omega (arith, before, same))
      (chosen-ordered (λ m n. m ≢ n) leaving_settled (λ t. t.packet) (λ left. left.packet) leaving-settled_packet settled is.once)
      left-there left-back

  -- ---- the packets that were dropped

  dropped-there : Within (drop_lines S (journal_of S)) (filter_map drop_settled settled)
  dropped-there line among =
      let from = Among-from-filter_map (λ (p : PacketPlan). drop_of p.number (fate_of S p)) line S.packets among in
      let found = settled-as from.0 from.1 in
      Among-filter_map drop_settled found.0 line settled found.1.among (rw (found.1.packet, found.1.fate) from.2)

  dropped-back : Within (filter_map drop_settled settled) (drop_lines S (journal_of S))
  dropped-back line among =
      let from = Among-from-filter_map drop_settled line settled among in
      let one = (is.settled from.0 from.1).1 in
      Among-filter_map (λ (p : PacketPlan). drop_of p.number (fate_of S p)) one.plan line S.packets one.among
      (ap (λ n. drop_of n (fate_of S one.plan)) (sym one.packet) ∙ ap (drop_of from.0.packet) (sym one.fate) ∙ from.2)

  dropped-is : (lines : List DropLine) → IsPermutation (filter_map drop_settled settled) lines
      → IsSortedByKey (λ line. line.packet) nat_cmp lines → lines ≡ drop_lines S (journal_of S)
  dropped-is lines moved sorted =
      same_list (λ (a b : DropLine). a.packet < b.packet) (λ a b there back. omega (arith, there, back)) lines (drop_lines S (journal_of S))
      (sorted-rises (λ (line : DropLine). line.packet) lines sorted
      (permuted-differ (λ (line : DropLine). line.packet) (filter_map drop_settled settled) lines
      (differ-map (λ (line : DropLine). line.packet) (filter_map drop_settled settled)
      (chosen-ordered (λ m n. m ≢ n) drop_settled (λ t. t.packet) (λ line. line.packet) (λ t line at. drop-packet t.packet t.fate line at)
      settled is.once))
      moved))
      (chosen-ordered (λ m n. m < n) (λ (p : PacketPlan). drop_of p.number (fate_of S p)) (λ p. p.number) (λ line. line.packet)
      (λ p line at. drop-packet p.number (fate_of S p) line at) S.packets setup.numbers_rise)
      (λ line among. dropped-back line (among-permuted line lines _ (IsPermutation-sym _ lines moved) among))
      (λ line among. among-permuted line _ lines moved (dropped-there line among))

  -- ---- the outcome

  pub settled-is_outcome : {o : OutcomeView} → IsPermutation (filter_map leaving_settled settled) o.leaving
      → IsSortedByKey tick_and_packet pair_cmp o.leaving → IsPermutation (filter_map drop_settled settled) o.dropped
      → IsSortedByKey (λ line. line.packet) nat_cmp o.dropped
      → o.pipe_counts ≡ map (counts_of (journal_of S)) (range_with_len 0 (length S.pipes)) → IsOutcome S (journal_of S) bytes o
  settled-is_outcome {o} left left_sorted dropped dropped_sorted counted =
      let permuted = IsPermutation-trans (leavings S (journal_of S) bytes) (filter_map leaving_settled settled) o.leaving left-permuted left in
      record {
        each_has_bytes = is.each_has_bytes;
        leaving = permuted;
        in_order =
            sorted-in_order o.leaving left_sorted
            (packets-differ (leavings S (journal_of S) bytes) o.leaving (leavings-rise (fate_of S) S.packets bytes setup.numbers_rise) permuted);
        dropped = dropped-is o.dropped dropped dropped_sorted;
        pipe_counts = counted;
      }
