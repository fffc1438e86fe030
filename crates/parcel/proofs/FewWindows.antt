-- There are no more windows than visits, and a setup's packets and routes bound both.
use Rattle.std.proofs.Common.{ℕ, ◌*◌, ◌^◌, ◌<◌, ◌≤◌, List, length, slice_index_or, subst, arith}
use Rattle.std.proofs.Math.Nat.{mul-le-mul_right}
use Rattle.std.proofs.lemmas.List.Sums.{sum_by-le}
use Rattle.mn_base.specs.declared.limits.TheConstants.{PACKETS_MAX, ROUTE_PIPES_MAX}
use Rattle.journal.specs.declared.setup.PacketPlan.{PacketPlan}
use Rattle.journal.specs.SetupView.{SetupView, route_of}
use Rattle.journal.specs.IsSetup.{IsSetup}
use Rattle.journal.specs.Journal.{hop_count, journal_of}
use Rattle.mn_base.proofs.Members.{Among-index}
use Rattle.journal.proofs.Meets.{journal-grows}
use Rattle.journal.proofs.Packets.{packet-known, packet-route}
use Rattle.journal.proofs.Count.{growing_count}
use Rattle.journal.proofs.FewVisits.{few_packets}
use Rattle.parcel.specs.Lookahead.{lookahead_of}
use Rattle.parcel.specs.Windows.{window_count}
use Rattle.parcel.specs.Laws.{WindowsAreFew}
use Rattle.parcel.proofs.Starts.{starts-few}
use Rattle.parcel.proofs.WindowLaws.{count-is}

module _ (S : SetupView) (is : IsSetup S) where
  route-short : (k : ℕ) (p : PacketPlan) → k < length S.packets → length (route_of S (slice_index_or S.packets k p).number) ≤ ROUTE_PIPES_MAX
  route-short k p within =
      let q = slice_index_or S.packets k p in
      let r = packet-route S is q (packet-known S is q (Among-index S.packets k p within)) in
      subst (λ (route : List ℕ). length route ≤ ROUTE_PIPES_MAX) r.is r.short

  pub few_visits : length (journal_of S) < 2 ^ 28
  few_visits =
      let count : length (journal_of S) ≤ hop_count S = growing_count S is (journal_of S) (journal-grows S is) in
      let hops : hop_count S ≤ length S.packets * ROUTE_PIPES_MAX =
      sum_by-le (λ (p : PacketPlan). length (route_of S p.number)) ROUTE_PIPES_MAX S.packets (λ k p within. route-short k p within) in
      let packets : length S.packets * ROUTE_PIPES_MAX ≤ PACKETS_MAX * ROUTE_PIPES_MAX = mul-le-mul_right ROUTE_PIPES_MAX (few_packets S is) in
      omega (arith, count, hops, packets)

  pub windows_are_few : WindowsAreFew S
  windows_are_few = record { windows = few; visits = few_visits }
    where
      few : window_count S ≤ length (journal_of S)
      few =
          let e = count-is S in
          let l = starts-few (lookahead_of S) 0 (journal_of S) in
          omega (arith, e, l)

  pub few_windows : window_count S < 2 ^ 28
  few_windows = let w : window_count S ≤ length (journal_of S) = windows_are_few.windows in let v = few_visits in omega (arith, w, v)
