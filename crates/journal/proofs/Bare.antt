-- The journal and the fates read no core.
use Rattle.std.proofs.Common.{◌≡◌, ℕ, zero, suc, ◌+◌, Bool, true, false, cond, not, nat_lt, ◌==◌, List, [], ◌∷◌, ◌++◌, length, map, filter, filter_map, find, sum_by, slice_index, slice_index_or, Option, Some, None, refl, sym, ap, ap₂, ◌∙◌}
use Rattle.std.specs.List.{cons_option}
use Rattle.std.specs.Option.{option_map, option_map_or}
use Rattle.std.proofs.lemmas.List.Sums.{sum_by-cons}
use Rattle.mn_base.specs.declared.due.Due.{Due}
use Rattle.pipe.specs.declared.step.Step.{Step}
use Rattle.pipe.specs.declared.step.Step.TheVariants.{Lost, Full, Pass}
use Rattle.pipe.specs.Finishes.{PastVisit}
use Rattle.pipe.specs.Dues.{least}
use Rattle.pipe.specs.Scheme.{is_done_by, more_by, grown_by}
use Rattle.pipe.specs.Steps.{step_at}
use Rattle.journal.specs.declared.setup.PacketPlan.{PacketPlan}
use Rattle.journal.specs.declared.visit.Visit.{Visit}
use Rattle.journal.specs.declared.fate.Fate.{Fate}
use Rattle.journal.specs.SetupView.{SetupView, packet_of, route_of, len_of, params_of}
use Rattle.journal.specs.Hops.{pipe_of, entry, hop_after, next_hop}
use Rattle.journal.specs.Steps.{past_visit, visits_to, is_lost, step_of, visit_of}
use Rattle.journal.specs.IsJournal.{scheme_of, dues}
use Rattle.journal.specs.Journal.{hop_count, pending, journal_of}
use Rattle.journal.specs.Fates.{fate_after, fate_of}
use Rattle.journal.specs.Laws.{coreless, bare, CoresDoNotMatter}

find-bare : (n : ℕ) (ps : List PacketPlan)
    → find (λ p. p.number == n) (map coreless ps) ≡ option_map coreless (find (λ p. p.number == n) ps)
find-bare n [] = refl
find-bare n (p ∷ ps) = go (p.number == n) (find-bare n ps)
  where
    go : (b : Bool) → find (λ q. q.number == n) (map coreless ps) ≡ option_map coreless (find (λ q. q.number == n) ps)
        → cond b (Some (coreless p)) (find (λ q. q.number == n) (map coreless ps))
        ≡ option_map coreless (cond b (Some p) (find (λ q. q.number == n) ps))
    go true rest = refl
    go false rest = rest

module _ (S : SetupView) where
  -- what a visit reads of the packets has no core in it
  route-bare : (n : ℕ) → route_of (bare S) n ≡ route_of S n
  route-bare n =
      ap (λ (o : Option PacketPlan). option_map_or (λ p. slice_index_or S.routes p.route []) o []) (find-bare n S.packets)
      ∙ go (packet_of S n)
    where
      go : (o : Option PacketPlan) → option_map_or (λ (p : PacketPlan). slice_index_or S.routes p.route []) (option_map coreless o) []
          ≡ option_map_or (λ (p : PacketPlan). slice_index_or S.routes p.route []) o []
      go None = refl
      go (Some p) = refl

  pub len-bare : (n : ℕ) → len_of (bare S) n ≡ len_of S n
  len-bare n = ap (λ (o : Option PacketPlan). option_map_or (λ p. p.len) o 0) (find-bare n S.packets) ∙ go (packet_of S n)
    where
      go : (o : Option PacketPlan) → option_map_or (λ (p : PacketPlan). p.len) (option_map coreless o) 0
          ≡ option_map_or (λ (p : PacketPlan). p.len) o 0
      go None = refl
      go (Some p) = refl

  -- so the same is due
  entry-bare : (p : PacketPlan) → entry (bare S) (coreless p) ≡ entry S p
  entry-bare p =
      let first : Due = record { tick = p.entry_tick; packet = p.number; hop = 0 } in
      ap (λ (r : List ℕ). cond (nat_lt 0 (length r)) (Some first) None) (route-bare p.number)

  entries-bare : (ps : List PacketPlan) → filter_map (entry (bare S)) (map coreless ps) ≡ filter_map (entry S) ps
  entries-bare [] = refl
  entries-bare (p ∷ ps) = ap₂ (λ (o : Option Due) (l : List Due). cons_option o l) (entry-bare p) (entries-bare ps)

  hop-bare : (packet hop : ℕ) (s : Step) → hop_after (bare S) packet hop s ≡ hop_after S packet hop s
  hop-bare packet hop Lost = refl
  hop-bare packet hop Full = refl
  hop-bare packet hop (Pass exit) =
      let later : Due = record { tick = exit; packet = packet; hop = hop + 1 } in
      ap (λ (r : List ℕ). cond (nat_lt (hop + 1) (length r)) (Some later) None) (route-bare packet)

  nexts-bare : (J : List Visit) → filter_map (next_hop (bare S)) J ≡ filter_map (next_hop S) J
  nexts-bare [] = refl
  nexts-bare (v ∷ J) = ap₂ (λ (o : Option Due) (l : List Due). cons_option o l) (hop-bare v.packet v.hop v.step) (nexts-bare J)

  dues-bare : (J : List Visit) → dues (bare S) J ≡ dues S J
  dues-bare J = ap₂ (λ (a b : List Due). a ++ b) (entries-bare S.packets) (nexts-bare J)

  -- and the same comes of it
  mapped : (vs : List Visit) → map (past_visit (bare S)) vs ≡ map (past_visit S) vs
  mapped [] = refl
  mapped (v ∷ vs) =
      let one : ℕ → PastVisit = λ l. record { tick = v.tick; len = l; step = v.step } in
      ap₂ (λ (a : PastVisit) (l : List PastVisit). a ∷ l) (ap one (len-bare v.packet)) (mapped vs)

  visits_to-bare : (pipe : ℕ) (J : List Visit) → visits_to (bare S) pipe J ≡ visits_to S pipe J
  visits_to-bare pipe J = mapped (filter (λ (v : Visit). v.pipe == pipe) J)

  step-bare : (pipe : ℕ) (x : Due) (h : List PastVisit) → step_of (bare S) pipe x h ≡ step_of S pipe x h
  unfolding step_of
  step-bare pipe x h = ap (λ (l : ℕ). step_at (params_of S pipe) S.tick_ns h x.tick l (is_lost S pipe x h)) (len-bare x.packet)

  pipe-bare : (x : Due) → pipe_of (bare S) x ≡ pipe_of S x
  pipe-bare x = ap (λ (r : List ℕ). slice_index r x.hop) (route-bare x.packet)

  visit-bare : (J : List Visit) (x : Due) → visit_of (bare S) J x ≡ visit_of S J x
  visit-bare J x =
      let made : ℕ → Step → Visit = λ q s. record { tick = x.tick; packet = x.packet; hop = x.hop; pipe = q; step = s } in
      let q : ℕ = pipe_of (bare S) x in
      ap (λ (h : List PastVisit). made q (step_of (bare S) q x h)) (visits_to-bare q J)
      ∙ ap (made q) (step-bare q x (visits_to S q J))
      ∙ ap (λ (k : ℕ). made k (step_of S k x (visits_to S k J))) (pipe-bare x)

  -- so the same list grows
  pending-bare : (J : List Visit) → pending (bare S) J ≡ pending S J
  pending-bare J = ap (λ (l : List Due). filter (λ x. not (is_done_by (scheme_of S) J x)) l) (dues-bare J)

  more-bare : (J : List Visit) (o : Option Due) → more_by (scheme_of (bare S)) J o ≡ more_by (scheme_of S) J o
  more-bare J None = refl
  more-bare J (Some x) = ap (λ (v : Visit). J ++ v ∷ []) (visit-bare J x)

  grown-bare : (n : ℕ) (J : List Visit) → grown_by (scheme_of (bare S)) n J ≡ grown_by (scheme_of S) n J
  grown-bare zero J = refl
  grown-bare (suc n) J =
      grown-bare n (more_by (scheme_of (bare S)) J (least (pending (bare S) J)))
      ∙ ap (grown_by (scheme_of S) n)
      (more-bare J (least (pending (bare S) J)) ∙ ap (λ (w : List Due). more_by (scheme_of S) J (least w)) (pending-bare J))

  counts : (ps : List PacketPlan)
      → sum_by (λ p. length (route_of (bare S) p.number)) (map coreless ps) ≡ sum_by (λ p. length (route_of S p.number)) ps
  counts [] = refl
  counts (p ∷ ps) =
      sum_by-cons (λ (q : PacketPlan). length (route_of (bare S) q.number)) (coreless p) (map coreless ps)
      ∙ ap₂ (λ (a b : ℕ). a + b) (ap length (route-bare p.number)) (counts ps)
      ∙ sym (sum_by-cons (λ (q : PacketPlan). length (route_of S q.number)) p ps)

  journal-bare : journal_of (bare S) ≡ journal_of S
  unfolding journal_of
  journal-bare = ap (λ (n : ℕ). grown_by (scheme_of (bare S)) n []) (counts S.packets) ∙ grown-bare (hop_count S) []

  plain : (J : List Visit) (ps : List PacketPlan) → map (fate_after J) (map coreless ps) ≡ map (fate_after J) ps
  plain J [] = refl
  plain J (p ∷ ps) = ap (λ (l : List Fate). fate_after J p ∷ l) (plain J ps)

  fates-bare : map (fate_of (bare S)) (bare S).packets ≡ map (fate_of S) S.packets
  fates-bare = ap (λ (J : List Visit). map (fate_after J) (map coreless S.packets)) journal-bare ∙ plain (journal_of S) S.packets

pub cores_do_not_matter : CoresDoNotMatter
cores_do_not_matter S R same = (
  sym (journal-bare S) ∙ ap journal_of same ∙ journal-bare R,
  sym (fates-bare S) ∙ ap (λ (T : SetupView). map (fate_of T) T.packets) same ∙ fates-bare R,
)
