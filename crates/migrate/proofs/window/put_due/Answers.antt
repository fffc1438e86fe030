use Rattle.std.proofs.Common.{◌<◌, ℕ, length, slice_index, slice_index_or, ap, ◌∙◌, arith}
use Rattle.journal.specs.SetupView.{route_of}
use Rattle.journal.specs.Hops.{pipe_of}
use Rattle.migrate.specs.Running.{PutsDue}
use Rattle.migrate.proofs.ShelfSteps.{changes-set, get-at}
use Rattle.migrate.proofs.window.put_due.Goals as goal

pub put_due-requires-clause-alone : goal.put_due-requires-clause-alone
put_due-requires-clause-alone c =
    c.requires.alone (slice_index_or c.args.owners.now c.pipe_at.result 0) c.index_mut.result.now
    (get-at c.args.shelves.now.items (slice_index_or c.args.owners.now c.pipe_at.result 0) c.index_mut.result.now
    (let n : c.pipe_at.result < length c.args.setup.now.pipes = c.pipe_at.ensures.named in
    c.requires.owned c.pipe_at.result 0 (omega (arith, n, c.requires.one_a_pipe)))
    c.index_mut.ensures.value)

pub returns : goal.returns
returns c =
    changes-set (slice_index c.args.owners.now (pipe_of c.args.setup.now c.args.due)) (PutsDue c.args.due) c.args.shelves.now.items
    (slice_index_or c.args.owners.now c.pipe_at.result 0) c.index_mut.result.now c.put_due.new.self
    (ap (slice_index c.args.owners.now)
    (c.pipe_at.ensures.pipe ∙ ap (λ (n : ℕ). slice_index (route_of c.args.setup.now n) c.args.due.hop) c.requires.packet))
    (let n : c.pipe_at.result < length c.args.setup.now.pipes = c.pipe_at.ensures.named in
    c.requires.owned c.pipe_at.result 0 (omega (arith, n, c.requires.one_a_pipe)))
    c.index_mut.ensures.value c.in_ok-put_due.ensures
