use Rattle.std.proofs.Common.{◌<◌, false, length, sym, subst}
use Rattle.std.specs.Vec.{with_item}
use Rattle.migrate.specs.ShelvesView.{ShelvesView}
use Rattle.migrate.specs.Standing.{ShelvesStand}
use Rattle.migrate.specs.Moving.{MovesPipe}
use Rattle.migrate.specs.Inside.{shelves_view}
use Rattle.migrate.proofs.AtRest.{at-rest, rest-known}
use Rattle.migrate.proofs.PipeMoved.{IsToMove, move-routed, move-alone, move-same, move-moves, move-visits, move-stands}
use Rattle.migrate.proofs.shelves.Shelves.move_pipe.Goals as goal
use Rattle.migrate.proofs.shelves.Shelves.move_pipe.Goals.{After-index-giver}

-- the pipe moves from the owner that is read
to-move : (c : After-index-giver) → IsToMove (shelves_view c.self.inside) c.args.pipe c.index-giver.result.now c.args.core
to-move c = record {
  named = subst (λ (w : ShelvesView). c.args.pipe < length w.setup.pipes) (sym c.self.view_is) c.requires.pipe;
  owner_read = c.index-giver.ensures;
  within = subst (λ (w : ShelvesView). c.args.core < w.setup.cores) (sym c.self.view_is) c.requires.core;
}

pub returns-then-giver-core-clause-moves : goal.returns-then-giver-core-clause-moves
returns-then-giver-core-clause-moves c =
    let at = goal.at.returns-then-giver-core-clause-moves c in
    subst (λ (w : ShelvesView). MovesPipe w c.args.pipe c.args.core w) c.self.view_is
    (move-same (rest-known c.self.invariant c.if-self.false) (to-move at.After-index-giver) c.if-giver-core.true)

pub carry-requires-clause-routed : goal.carry-requires-clause-routed
carry-requires-clause-routed c = move-routed (rest-known c.self.invariant c.if-self.false) c.index-giver.result.now

pub carry-requires-clause-alone : goal.carry-requires-clause-alone
carry-requires-clause-alone c = λ s t x.
    move-alone (rest-known c.self.invariant c.if-self.false) c.index-giver.result.now c.args.core s t x c.if-giver-core.false

pub invariant_of-self-2 : goal.invariant_of-self-2
invariant_of-self-2 c =
    let at = goal.at.invariant_of-self-2 c in
    let before = rest-known c.self.invariant c.if-self.false in
    let move = to-move at.After-index-giver in
    record {
      is_setup = before.is;
      stands = λ e. (_, move-stands before move c.if-giver-core.false c.in_ok-carry.ensures);
      few = λ e. before.windows;
      few_visits = λ e. move-visits before move c.if-giver-core.false c.in_ok-carry.ensures;
      growing = λ e. before.grows;
    }

pub returns-clause-moves : goal.returns-clause-moves
returns-clause-moves c =
    let at = goal.at.returns-clause-moves c in
    let owners = with_item c.self.inside.owners c.args.pipe c.args.core in
    subst
    (λ (v : ShelvesView). MovesPipe v c.args.pipe c.args.core
    (shelves_view (record c.self.inside { owners = owners; shelves = c.carry.new.shelves; failed = false })))
    c.self.view_is
    (move-moves (rest-known c.self.invariant c.if-self.false) (to-move at.After-index-giver) c.if-giver-core.false c.in_ok-carry.ensures)

pub returns-clause-stands : goal.returns-clause-stands
returns-clause-stands c = λ bytes s.
    let before = at-rest c.self.invariant c.if-self.false (subst (ShelvesStand bytes) (sym c.self.view_is) s) in
    move-stands before (to-move (goal.at.returns-clause-stands c).After-index-giver) c.if-giver-core.false c.in_ok-carry.ensures
