use Rattle.std.proofs.Common.{◌≤◌, length, map, All, sym, ◌∙◌, ap, subst}
use Rattle.std.specs.List.Sorted.{IsPermutation}
use Rattle.mn_base.specs.declared.limits.TheConstants.{PACKET_BYTES_MAX}
use Rattle.pcap_io.specs.Writing.{pcap_text}
use Rattle.red_queue.specs.Fates.{fates_by}
use Rattle.red_queue.specs.Laws.{ExitsFit, AllLeaveInTime}
use Rattle.red_queue.specs.Report.{red_report_text}
use Rattle.modelnet.specs.RedRun.{base_order, red_leavings}
use Rattle.modelnet.proofs.ChainSetup.{is_setup}
use Rattle.modelnet.proofs.Outputs.{packets_are_short}
use Rattle.modelnet.proofs.RedLeavings.{red_can_be_written}
use Rattle.modelnet.proofs.RedSetup.{base_is_order, is_red_setup}
use Rattle.modelnet.proofs.red_run.run_red.Goals as goal

pub red_journal-requires : goal.red_journal-requires
red_journal-requires c =
    let order = c.args.order.now in
    let setup = is_setup (base_order order) c.args.trace c.in_ok-setup.setup (base_is_order order c.requires.order) c.requires.trace
    c.requires.times c.in_ok-setup.ensures in
    let r = is_red_setup order c.args.trace c.in_ok-setup.setup c.in_ok-red.red c.requires.order c.requires.trace c.in_ok-setup.ensures setup
    c.in_ok-red.ensures in
    record {
      tick = r.tick;
      pipes_least = r.pipes_least;
      pipes_most = r.pipes_most;
      ranges = r.ranges;
      packets_most = r.packets_most;
      lens_most = r.lens_most;
      entries_fit = r.entries_fit;
      delays_fit = r.delays_fit;
    }

pub print_red_fates-requires : goal.print_red_fates-requires
print_red_fates-requires c = record {
  fates =
      c.deref-3.ensures.value ∙ c.in_ok-fates.ensures.fates
      ∙ ap (λ J. fates_by c.in_ok-red.red J) (c.deref.ensures.value ∙ sym c.deref-2.ensures.value);
}

pub out_trace-requires : goal.out_trace-requires
out_trace-requires c =
    let order = c.args.order.now in
    let S = c.in_ok-setup.setup in
    let setup = is_setup (base_order order) c.args.trace S (base_is_order order c.requires.order) c.requires.trace c.requires.times
    c.in_ok-setup.ensures in
    let bytes_are = ap (λ ps. map (λ p. p.bytes) ps) c.into_packets.ensures.value in
    let short = subst (All (λ b. length b ≤ PACKET_BYTES_MAX)) (sym bytes_are) (packets_are_short c.args.trace c.requires.trace) in
    let red_is = c.in_ok-red.ensures in
    let fits = subst (λ J. ExitsFit c.in_ok-red.red J) (sym c.deref.ensures.value) c.in_ok-visits.ensures.exits in
    let in_time = subst (λ fates. AllLeaveInTime c.in_ok-red.red fates) (sym c.deref-4.ensures.value) (c.in_ok-fates.ensures.in_time fits) in
    let here = red_can_be_written {S = S} c.in_ok-red.red c.deref-4.result.now (map (λ p. p.bytes) c.into_packets.result.items)
    c.in_ok-leaving.leaving.items setup (red_is.tick_ns ∙ sym c.in_ok-setup.ensures.tick_ns) red_is.packets in_time short
    c.in_ok-leaving.ensures.moved in
    record { of_setup = here.of_setup; different = here.different; lengths = here.lengths; times = here.times }

pub returns-clause-run : goal.returns-clause-run
returns-clause-run c =
    let S = c.in_ok-setup.setup in
    let R = c.in_ok-red.red in
    let visits = c.in_ok-visits.visits.items in
    let leaving = c.in_ok-leaving.leaving.items in
    let fates = c.deref-4.ensures.value ∙ c.in_ok-fates.ensures.fates ∙ ap (λ J. fates_by R J) c.deref.ensures.value in
    let listed = ap (λ fs. red_leavings S.packets fs (map (λ p. p.bytes) c.into_packets.result.items)) fates
    ∙ ap (λ ps. red_leavings S.packets (fates_by R visits) (map (λ p. p.bytes) ps)) c.into_packets.ensures.value in
    record {
      setup = S;
      red = R;
      visits = visits;
      leaving = leaving;
      setup_is = c.in_ok-setup.ensures;
      red_is = c.in_ok-red.ensures;
      visits_are = c.in_ok-visits.ensures.journal;
      leaving_is = subst (λ xs. IsPermutation xs leaving) listed c.in_ok-leaving.ensures.moved;
      in_order = c.in_ok-leaving.ensures.in_order;
      out_is = ap (λ t. pcap_text t) c.in_ok-out.ensures;
      report_is = c.in_ok-report.ensures.text ∙ ap (λ J. red_report_text R J) c.deref-2.ensures.value;
    }
