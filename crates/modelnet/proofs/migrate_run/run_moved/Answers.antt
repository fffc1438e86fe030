use Rattle.std.proofs.Common.{◌<◌, ◌≤◌, length, map, All, AllPairs, ◌∙◌, sym, ap, subst}
use Rattle.std.proofs.lemmas.List.Elements.{All-map}
use Rattle.mn_base.specs.declared.limits.TheConstants.{PACKET_BYTES_MAX}
use Rattle.journal.specs.Journal.{journal_of}
use Rattle.migrate.specs.declared.moves.Move.{Move}
use Rattle.migrate.specs.RanView.{RanView}
use Rattle.pcap_io.specs.Writing.{pcap_text}
use Rattle.plan.specs.PlannedView.{PlannedView}
use Rattle.settle.specs.IsOutcome.{IsOutcome}
use Rattle.modelnet.specs.Moving.{move_of}
use Rattle.modelnet.specs.Running.{IsRunOf}
use Rattle.modelnet.proofs.Moved.{windows_rise}
use Rattle.modelnet.proofs.migrate_run.run_moved.Goals as goal

pub run_moves-requires-clause-order : goal.run_moves-requires-clause-order
run_moves-requires-clause-order c =
    subst (λ ms. AllPairs (λ (m n : Move). m.window ≤ n.window) ms) (sym (c.deref.ensures.value ∙ c.in_ok-moves.ensures))
    (windows_rise c.args.moves.now c.requires.windows)

pub run_moves-requires-clause-pipes : goal.run_moves-requires-clause-pipes
run_moves-requires-clause-pipes c =
    let pipes = c.planned.inside.setup.pipes in
    subst (λ ms. All (λ (m : Move). m.pipe < length pipes) ms) (sym (c.deref.ensures.value ∙ c.in_ok-moves.ensures))
    (All-map (λ (m : Move). m.pipe < length pipes) move_of c.args.moves.now
    (subst (λ (p : PlannedView). All (λ m. m.pipe < length p.setup.pipes) c.args.moves.now) (sym c.planned.view_is) c.requires.pipes))

pub run_moves-requires-clause-cores : goal.run_moves-requires-clause-cores
run_moves-requires-clause-cores c =
    let cores = c.planned.inside.setup.cores in
    subst (λ ms. All (λ (m : Move). m.core < cores) ms) (sym (c.deref.ensures.value ∙ c.in_ok-moves.ensures))
    (All-map (λ (m : Move). m.core < cores) move_of c.args.moves.now
    (subst (λ (p : PlannedView). All (λ m. m.core < p.setup.cores) c.args.moves.now) (sym c.planned.view_is) c.requires.cores))

pub outcome_texts-requires : goal.outcome_texts-requires
outcome_texts-requires c =
    let S = c.planned.inside.setup in
    let bytes = c.planned.inside.bytes.items in
    record {
      bytes = bytes;
      outcome_is = subst (λ (r : RanView). IsOutcome S (journal_of S) bytes r.outcome) (sym c.ran.view_is)
          (c.in_ok-ran.ensures.outcome bytes c.in_ok-stores.ensures.bytes);
      short = subst (λ (p : PlannedView). All (λ b. length b ≤ PACKET_BYTES_MAX) p.bytes) (sym c.planned.view_is) c.requires.runnable.short;
    }

pub returns-clause-run : goal.returns-clause-run
returns-clause-run c =
    let S = c.planned.inside.setup in
    let bytes = c.planned.inside.bytes.items in
    let texts = c.in_ok-texts.texts in
    subst (λ p. IsRunOf p (pcap_text texts.out) texts.report) c.planned.view_is
    (subst (λ us. IsRunOf (record { setup = S; bytes = bytes; unbounds = us }) (pcap_text texts.out) texts.report) c.deref-3.ensures.value
    (c.in_ok-texts.ensures.run bytes
    (subst (λ (r : RanView). IsOutcome S (journal_of S) bytes r.outcome) (sym c.ran.view_is)
    (c.in_ok-ran.ensures.outcome bytes c.in_ok-stores.ensures.bytes))))
