use Rattle.core_loop.proofs.Takes.{IsTaking}
use Rattle.core_loop.proofs.handing.take_notes.Given as goal

abbrev pub invariant-loop-note : goal.invariant-loop-note
invariant-loop-note l = IsTaking l.notes l.note-index l.initial.work l.work l.initial.entrants l.entrants
