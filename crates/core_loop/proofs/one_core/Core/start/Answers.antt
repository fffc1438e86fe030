use Rattle.std.proofs.Common.{ℕ, List, length, slice_index_or, sym, ap, ◌∙◌, subst}
use Rattle.std.proofs.lemmas.List.{length-replicate}
use Rattle.core_loop.specs.CoreView.{PeerView, no_peer}
use Rattle.core_loop.specs.Work.{EntrantsView}
use Rattle.core_loop.specs.Entering.{EntersAll, CanEnterAll}
use Rattle.core_loop.specs.Handing.{parts_view}
use Rattle.core_loop.proofs.Started.{HasEntered, can-enter-all, bytes_held, bytes-are, windows, ready, ready-settled, setup-then, number-then, stands-then, peer-at-start}
use Rattle.core_loop.proofs.one_core.Core.start.Goals as goal
use Rattle.core_loop.proofs.one_core.Core.start.Goals.{In_ok-enter_all}

pub enter_all-requires-clause-can : goal.enter_all-requires-clause-can
enter_all-requires-clause-can c =
    let S = c.args.setup.now in
    let w = c.in_ok-work.work in
    subst (λ (k : ℕ). CanEnterAll k S.packets w.heap c.in_ok-entrants.entrants) (sym c.in_ok-work.ensures.number)
    (subst (λ (d : EntrantsView). CanEnterAll c.args.core S.packets w.heap d) (sym c.in_ok-entrants.ensures)
    (can-enter-all c.parts-parts.ensures.kept c.requires.store w c.in_ok-work.ensures.heap))

-- all packets of the core have entered
has_entered : (c : In_ok-enter_all) → HasEntered c.args.setup.now c.args.core c.args.store c.in_ok-work.work
    c.enter_all.new.work c.enter_all.new.entrants
has_entered c = record {
  is_setup = c.parts-parts.ensures.kept;
  holds = c.requires.store;
  idle = record {
    same_setup = c.in_ok-work.ensures.setup;
    same_number = c.in_ok-work.ensures.number;
    heap_empty = c.in_ok-work.ensures.heap;
    none_told = c.in_ok-work.ensures.told;
    pipes_idle = c.in_ok-work.ensures.pipes;
    counts_are = c.in_ok-work.ensures.counts ∙ ap (λ (k : ℕ). record {
      pipes = length c.in_ok-work.work.pipes.pipes;
      entered = k;
      visits = 0;
      arrivals = 0;
      settles = 0;
      windows = 0;
    }) c.count_entrants.ensures;
  };
  entered =
      subst (λ (d : EntrantsView).
      EntersAll c.args.setup.now c.args.setup.now.packets c.in_ok-work.work d c.enter_all.new.work c.enter_all.new.entrants)
      c.in_ok-entrants.ensures c.in_ok-enter_all.ensures;
}

pub hand_out-requires-clause-ready : goal.hand_out-requires-clause-ready
hand_out-requires-clause-ready c =
    let entered = has_entered (goal.at.hand_out-requires-clause-ready c).In_ok-enter_all in
    ready entered c.requires.core c.in_ok-peers.peers.items c.in_ok-peers.ensures

pub hand_out-requires-clause-settled : goal.hand_out-requires-clause-settled
hand_out-requires-clause-settled c =
    let entered = has_entered (goal.at.hand_out-requires-clause-settled c).In_ok-enter_all in
    let held = bytes_held entered.is_setup entered.holds in
    (held, ready-settled entered held (bytes-are entered.is_setup entered.holds))

pub returns-clause-stands : goal.returns-clause-stands
returns-clause-stands c = λ bytes are.
    let entered = has_entered (goal.at.returns-clause-stands c).In_ok-enter_all in
    stands-then entered c.in_ok-hand_out.ensures.same
    (parts_view c.hand_out.new.work c.hand_out.new.entrants c.hand_out.new.peers.items) bytes
    (c.in_ok-hand_out.ensures.stands bytes (ready-settled entered bytes are))

pub returns-clause-in_step : goal.returns-clause-in_step
returns-clause-in_step c =
    let is = c.parts-parts.ensures.kept in
    let holds = c.requires.store in
    (returns-clause-stands c (bytes_held is holds) (bytes-are is holds)).in_step

pub returns-clause-windows : goal.returns-clause-windows
returns-clause-windows c =
    c.in_ok-hand_out.ensures.same.same_windows ∙ windows (has_entered (goal.at.returns-clause-windows c).In_ok-enter_all)

pub returns-clause-posted : goal.returns-clause-posted
returns-clause-posted c = λ other.
    c.in_ok-hand_out.ensures.numbers.posts other
    ∙ ap (λ (ps : List PeerView). (slice_index_or ps other no_peer).posted) c.in_ok-peers.ensures
    ∙ ap (λ (p : PeerView). p.posted) (peer-at-start c.args.setup.now.cores other)

pub returns-clause-taken : goal.returns-clause-taken
returns-clause-taken c = λ other.
    c.in_ok-hand_out.ensures.numbers.takes other
    ∙ ap (λ (ps : List PeerView). (slice_index_or ps other no_peer).taken) c.in_ok-peers.ensures
    ∙ ap (λ (p : PeerView). p.taken) (peer-at-start c.args.setup.now.cores other)

pub invariant_of-result : goal.invariant_of-result
invariant_of-result c =
    let entered = has_entered (goal.at.invariant_of-result c).In_ok-enter_all in
    let held = bytes_held entered.is_setup entered.holds in
    let view = parts_view c.hand_out.new.work c.hand_out.new.entrants c.hand_out.new.peers.items in
    record {
      is_setup = entered.is_setup;
      lookahead = c.lookahead.ensures;
      same_setup = setup-then entered c.in_ok-hand_out.ensures.same;
      same_number = number-then entered c.in_ok-hand_out.ensures.same;
      known = c.requires.core;
      one_peer_each =
          c.in_ok-hand_out.ensures.numbers.as_many ∙ ap length c.in_ok-peers.ensures
          ∙ length-replicate c.args.setup.now.cores no_peer;
      none_told = λ f. c.in_ok-hand_out.ensures.none_told;
      stands = λ f. (
        held,
        stands-then entered c.in_ok-hand_out.ensures.same view held
            (c.in_ok-hand_out.ensures.stands held (ready-settled entered held (bytes-are entered.is_setup entered.holds))),
      );
    }
