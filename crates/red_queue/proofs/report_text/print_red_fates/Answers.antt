use Rattle.std.proofs.Common.{Vec, ℕ, Global, length, ap, ◌∙◌, arith}
use Rattle.std.specs.Prelude.{string_bytes}
use Rattle.red_queue.specs.SetupView.{RedSetupView}
use Rattle.red_queue.proofs.Reports.{report-written}
use Rattle.red_queue.proofs.report_text.print_red_fates.Goals as goal

pub returns : goal.returns
returns c = record {
  text =
      c.from_vec.ensures.same ∙ ap (λ (v : Vec ℕ Global). v.items) c.into_bytes.ensures.value
      ∙ report-written c.args.setup.now c.args.visits.now c.args.fates.now c.len.result
      (string_bytes c.writeln.new.self) (string_bytes c.write_packets.new.text) (string_bytes c.write_pipes.new.text)
      (string_bytes c.write_drops.new.text)
      c.requires.fates
      (omega (arith, c.len.ensures, ap (λ (s : RedSetupView). length s.pipes) c.setup.view_is))
      (simp (c.in_ok-writeln.ensures.bytes, c.new-text.ensures.bytes))
      c.in_ok-write_packets.ensures c.in_ok-write_pipes.ensures c.in_ok-write_drops.ensures;
}
