use Rattle.std.proofs.Common.{◌≡◌, ◌<◌, length, ap, arith}
use Rattle.std.proofs.lemmas.List.Elements.{All-set}
use Rattle.ownership.proofs.EntrySteps.{entry_written, all_entries}
use Rattle.ownership.proofs.entries.entries_of.Goals as goal

pub pipes-preserved : goal.pipes-preserved
pipes-preserved c =
    let len : length c.pipes-pipes.result.now ≡ length c.args.distilled.now.pipes = ap length c.pipes-pipes.ensures.lent in
    record {
      most = omega arith;
      entries =
          entry_written c.pipes-pipes.result.now c.pipes.pipe c.index-pipes-pipe.result c.pipes-pipes.ensures.lent c.pipes-pipes.ensures.valid
          c.pipes-test.true c.pipes.invariant.most c.pipes.invariant.entries;
      below =
          All-set (λ core. core < c.args.cores) c.pipes.entries.items _ _
          (c.requires.owners _ _ (omega (arith, len, c.requires.len, c.pipes.invariant.most, c.pipes-test.true))) c.pipes.invariant.below;
    }

pub returns-clause-entries : goal.returns-clause-entries
returns-clause-entries c =
    all_entries c.args.distilled.now c.args.owners.now c.pipes.entries.items c.pipes.pipe (omega arith) c.pipes.invariant.entries
