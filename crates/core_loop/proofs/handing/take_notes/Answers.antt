use Rattle.std.proofs.lemmas.List.{get_or_default}
use Rattle.core_loop.proofs.Takes.{taking-more}
use Rattle.core_loop.proofs.handing.take_notes.Goals as goal

pub loop-note-preserved : goal.loop-note-preserved
loop-note-preserved c =
    taking-more c.loop-note.invariant c.loop-note-test.true
    (get_or_default c.args.notes.now c.loop-note.note-index _ _ c.loop-note-test.true) c.in_ok-take_note.ensures.taken
    c.in_ok-take_note.ensures.same
