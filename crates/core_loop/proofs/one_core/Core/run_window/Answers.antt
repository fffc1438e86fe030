use Rattle.std.proofs.Common.{ℕ, false, List, inr, refl, sym, ◌∙◌, subst, arith}
use Rattle.core_loop.specs.declared.one_core.Core.TheInside.{Inside}
use Rattle.core_loop.specs.Inside.{core_view}
use Rattle.core_loop.specs.WorldState.{CoreStands}
use Rattle.core_loop.proofs.WindowRun.{HasRunWindow, at-window, can-run, end-is-few, windows-few, to-hand-out, to-settle, some-to-settle, setup-still, number-still, of-parts}
use Rattle.core_loop.proofs.one_core.Core.run_window.Goals as goal
use Rattle.core_loop.proofs.one_core.Core.run_window.Goals.{In_ok-run, In_ok-hand_out}

pub overflow_add-start : goal.overflow_add-start
overflow_add-start c =
    let at = at-window c.self.invariant c.self.view_is c.requires.works c.requires.traded c.requires.starts in
    omega (arith, end-is-few at)

pub run-requires-clause-runs : goal.run-requires-clause-runs
run-requires-clause-runs c =
    can-run (at-window c.self.invariant c.self.view_is c.requires.works c.requires.traded c.requires.starts)

-- the window is run
has_run : (c : In_ok-run) → HasRunWindow c.self.inside c.args.start c.run.new.self
has_run c = record {
  before = at-window c.self.invariant c.self.view_is c.requires.works c.requires.traded c.requires.starts;
  run = c.in_ok-run.ensures.run;
  stays = c.run.ensures.stays;
}

pub end_window-requires : goal.end_window-requires
end_window-requires c = windows-few (has_run (goal.at.end_window-requires c).In_ok-run)

pub hand_out-requires-clause-ready : goal.hand_out-requires-clause-ready
hand_out-requires-clause-ready c = to-hand-out (has_run (goal.at.hand_out-requires-clause-ready c).In_ok-run) c.end_window.ensures

pub hand_out-requires-clause-settled : goal.hand_out-requires-clause-settled
hand_out-requires-clause-settled c =
    some-to-settle (has_run (goal.at.hand_out-requires-clause-settled c).In_ok-run) c.end_window.ensures

-- the core stands when all of its window is handed out
stands : (c : In_ok-hand_out) → HasRunWindow c.self.inside c.args.start c.run.new.self → (bytes : List (List ℕ))
    → CoreStands bytes (core_view c.self.inside)
    → CoreStands bytes (core_view (record c.self.inside {
      peers = c.hand_out.new.peers;
      work = c.hand_out.new.work;
      entrants = c.hand_out.new.entrants;
      failed = false;
    }))
stands c ran bytes stood =
    let setup = setup-still ran c.end_window.ensures c.hand_out.ensures.same in
    let number = number-still ran c.end_window.ensures c.hand_out.ensures.same in
    let new : Inside = record c.self.inside {
      peers = c.hand_out.new.peers;
      work = c.hand_out.new.work;
      entrants = c.hand_out.new.entrants;
      failed = false;
    } in
    subst (CoreStands bytes) (of-parts new setup number refl)
    (c.in_ok-hand_out.ensures.stands bytes (to-settle ran c.end_window.ensures bytes stood))

pub invariant_of-self-2 : goal.invariant_of-self-2
invariant_of-self-2 c =
    let ran = has_run (goal.at.invariant_of-self-2 c).In_ok-run in
    let stood = c.self.invariant.stands ran.before.works in
    record {
      is_setup = c.self.invariant.is_setup;
      lookahead = c.self.invariant.lookahead;
      same_setup = setup-still ran c.end_window.ensures c.hand_out.ensures.same;
      same_number = number-still ran c.end_window.ensures c.hand_out.ensures.same;
      known = c.self.invariant.known;
      one_peer_each = c.hand_out.ensures.numbers.as_many ∙ c.self.invariant.one_peer_each;
      none_told = λ _. c.in_ok-hand_out.ensures.none_told;
      stands = λ _. (stood.0, stands (goal.at.invariant_of-self-2 c).In_ok-hand_out ran stood.0 stood.1);
    }

pub returns-clause-stands : goal.returns-clause-stands
returns-clause-stands c = λ bytes s.
    inr (stands (goal.at.returns-clause-stands c).In_ok-hand_out (has_run (goal.at.returns-clause-stands c).In_ok-run) bytes
    (subst (CoreStands bytes) (sym c.self.view_is) s))
