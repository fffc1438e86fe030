-- What the cores settled and counted, put together.
use Rattle.std.proofs.Common.{◌≡◌, ◌≢◌, ℕ, suc, ◌+◌, ◌<◌, ◌==◌, List, [], ◌∷◌, length, map, Some, slice_get, AllPairs, refl, sym, ap, ◌∙◌, subst, arith}
use Rattle.std.specs.List.{flat_map, range_with_len}
use Rattle.std.specs.List.Sorted.{IsPermutation, IsSortedByKey}
use Rattle.std.specs.Ordering.{nat_cmp}
use Rattle.std.proofs.lemmas.Bool.{eq-eqb, eqb-true}
use Rattle.std.proofs.lemmas.List.Kept.{AllPairs-filter}
use Rattle.std.proofs.lemmas.List.Sorted.{IsPermutation-sym}
use Rattle.mn_base.specs.Among.{Among}
use Rattle.mn_base.proofs.Members.{Among-map, Among-from-map, Among-filter, Among-from-filter}
use Rattle.journal.specs.SetupView.{SetupView}
use Rattle.journal.specs.IsSetup.{IsSetup}
use Rattle.journal.specs.Journal.{journal_of}
use Rattle.journal.proofs.Packets.{among-get}
use Rattle.pipe.proofs.HeldOrder.{among-permuted}
use Rattle.parcel.specs.declared.counts.PipeCounts.{PipeCounts}
use Rattle.parcel.specs.CoreResultView.{CoreResultView}
use Rattle.parcel.specs.Owners.{owner_of, own_pipes}
use Rattle.parcel.specs.Counts.{counts_of}
use Rattle.parcel.specs.Results.{counts_at, AreResults}
use Rattle.parcel.proofs.Lookaheads.{Among-flat_map, Among-from-flat_map}
use Rattle.parcel.proofs.InOrder.{Within, same_list, permuted-differ}
use Rattle.settle.specs.Settlements.{AreAllSettledAt, AreAllSettled}
use Rattle.settle.proofs.Joined.{differ-map, sorted-rises, get_of, get-below, range-below, pieces-differ, mapped-ordered, range-rises}
use Rattle.settle.proofs.Settlements.{joined_settled}

-- counts that are each those of a core, from this one on
counts-from : (S : SetupView) (first : ℕ) (results : List CoreResultView)
    → ((i : ℕ) (r : CoreResultView) → slice_get results i ≡ Some r → r.counts ≡ counts_at S (first + i))
    → map (λ (r : CoreResultView). r.counts) results ≡ map (counts_at S) (range_with_len first (length results))
counts-from S first [] each = refl
counts-from S first (r ∷ results) each =
    let here : r.counts ≡ counts_at S first = each 0 r refl ∙ ap (counts_at S) (omega arith) in
    let rest =
    counts-from S (first + 1) results (λ i q at. each (suc i) q at ∙ ap (counts_at S) (omega arith)) in
    ap (λ c. c ∷ map (λ (q : CoreResultView). q.counts) results) here ∙ ap (λ cs. counts_at S first ∷ cs) rest

module _ (S : SetupView) (bytes : List (List ℕ)) (results : List CoreResultView) (setup : IsSetup S) (is : AreResults S bytes results) where
  abbrev all_pipe_counts : List PipeCounts
  all_pipe_counts = flat_map (λ r. r.pipe_counts) results

  -- the result of a core
  result-of : (core : ℕ) → core < S.cores → (r : CoreResultView) × (slice_get results core ≡ Some r)
  result-of core below = get-below results core (omega (arith, below, is.one_a_core))

  -- ---- the packets that are settled

  each_has_bytes : length bytes ≡ length S.packets
  each_has_bytes =
      let first = result-of 0 setup.cores_least in (is.each 0 first.0 first.1).each_has_bytes

  settled-at : (core : ℕ) (r : CoreResultView) → slice_get results core ≡ Some r → AreAllSettledAt S bytes core r.settled
  settled-at core r at =
      let here = is.each core r at in record { settled = here.settled; all = here.all; once = here.once }

  pub merged-settled : AreAllSettled S bytes (flat_map (λ r. r.settled) results)
  merged-settled = joined_settled S bytes (λ r. r.settled) results setup each_has_bytes is.one_a_core settled-at

  -- ---- what the pipes did

  abbrev count : ℕ → PipeCounts
  count = counts_of (journal_of S)

  own-rise : (core : ℕ) → AllPairs (λ a b. a < b) (own_pipes S core)
  own-rise core =
      AllPairs-filter (λ a b. a < b) (λ pipe. owner_of S pipe == core) (range_with_len 0 (length S.pipes)) (range-rises 0 (length S.pipes))

  counts-once : AllPairs (λ a b. a.pipe ≢ b.pipe) all_pipe_counts
  counts-once =
      pieces-differ (λ (c : PipeCounts). c.pipe) (owner_of S) (λ r. r.pipe_counts) 0 results
      (λ core r at. subst (AllPairs (λ (a b : PipeCounts). a.pipe ≢ b.pipe)) (sym (is.each core r at).pipe_counts)
      (mapped-ordered (λ m n. m ≢ n) count (λ pipe. pipe) (λ c. c.pipe) (λ pipe. refl) (own_pipes S core)
      (λ i j d lt within same. let before = own-rise core i j d lt within in omega (arith, before, same))))
      (λ core r at c among.
      let from = Among-from-map count c (own_pipes S core) (subst (Among c) (is.each core r at).pipe_counts among) in
      let own = Among-from-filter (λ pipe. owner_of S pipe == core) from.0 (range_with_len 0 (length S.pipes)) from.1 in
      let owned : owner_of S c.pipe ≡ core = ap (λ (c : PipeCounts). owner_of S c.pipe) (sym from.2) ∙ eqb-true (owner_of S from.0) core own.1 in
      omega (arith, owned))

  counts-there : Within (map count (range_with_len 0 (length S.pipes))) all_pipe_counts
  counts-there c among =
      let from = Among-from-map count c (range_with_len 0 (length S.pipes)) among in
      let owned : owner_of S from.0 < S.cores = setup.owners from.0 0 (omega (arith, range-below 0 (length S.pipes) from.0 from.1, setup.one_owner)) in
      let found = result-of (owner_of S from.0) owned in
      let own =
      Among-filter (λ pipe. owner_of S pipe == owner_of S from.0) from.0 (range_with_len 0 (length S.pipes)) from.1
      (eq-eqb (owner_of S from.0) (owner_of S from.0) refl) in
      Among-flat_map (λ (r : CoreResultView). r.pipe_counts) found.0 c results (among-get results (owner_of S from.0) found.0 found.1)
      (subst (Among c) (sym (is.each (owner_of S from.0) found.0 found.1).pipe_counts)
      (subst (λ x. Among x (map count (own_pipes S (owner_of S from.0)))) from.2
      (Among-map count from.0 (own_pipes S (owner_of S from.0)) own)))

  counts-back : Within all_pipe_counts (map count (range_with_len 0 (length S.pipes)))
  counts-back c among =
      let piece = Among-from-flat_map (λ (r : CoreResultView). r.pipe_counts) c results among in
      let at = get_of piece.0 results piece.1 in
      let from = Among-from-map count c (own_pipes S at.0) (subst (Among c) (is.each at.0 piece.0 at.1).pipe_counts piece.2) in
      let own = Among-from-filter (λ pipe. owner_of S pipe == at.0) from.0 (range_with_len 0 (length S.pipes)) from.1 in
      subst (λ x. Among x (map count (range_with_len 0 (length S.pipes)))) from.2
      (Among-map count from.0 (range_with_len 0 (length S.pipes)) own.0)

  pub counts-are : (counts : List PipeCounts) → IsPermutation all_pipe_counts counts → IsSortedByKey (λ c. c.pipe) nat_cmp counts
      → counts ≡ map count (range_with_len 0 (length S.pipes))
  counts-are counts moved sorted =
      same_list (λ (a b : PipeCounts). a.pipe < b.pipe) (λ a b there back. omega (arith, there, back)) counts
      (map count (range_with_len 0 (length S.pipes)))
      (sorted-rises (λ (c : PipeCounts). c.pipe) counts sorted
      (permuted-differ (λ (c : PipeCounts). c.pipe) all_pipe_counts counts
      (differ-map (λ (c : PipeCounts). c.pipe) all_pipe_counts counts-once) moved))
      (mapped-ordered (λ m n. m < n) count (λ pipe. pipe) (λ c. c.pipe) (λ pipe. refl) (range_with_len 0 (length S.pipes))
      (range-rises 0 (length S.pipes)))
      (λ c among. counts-back c (among-permuted c counts all_pipe_counts (IsPermutation-sym all_pipe_counts counts moved) among))
      (λ c among. among-permuted c all_pipe_counts counts moved (counts-there c among))

  -- ---- what the cores did

  pub cores-are : map (λ (r : CoreResultView). r.counts) results ≡ map (counts_at S) (range_with_len 0 S.cores)
  cores-are =
      counts-from S 0 results (λ core r at. (is.each core r at).counts ∙ ap (counts_at S) (omega arith))
      ∙ ap (λ n. map (counts_at S) (range_with_len 0 n)) is.one_a_core
