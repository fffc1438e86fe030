use Rattle.std.proofs.Common.{◌%◌, sym, refl, ◌∙◌, mod-lt}
use Rattle.ownership.proofs.Places.{near_below, some_pipe, some_holds, far_pipe_is, far_holds}
use Rattle.ownership.proofs.turns.Turns.pick.Goals as goal

pub take_unowned-near-requires : goal.take_unowned-near-requires
take_unowned-near-requires c =
    near_below c.args.distilled.now c.args.cores _ _ c.args.self.now (c.args.turn % c.args.cores) c.index_mut-reach.result.now c.deref.result.now
    (record {
      holds = c.requires.before;
      low = mod-lt c.args.turn c.requires.some_core;
      reach_is = c.index_mut-reach.ensures.value;
    })
    c.deref.ensures.value

pub returns-then-is_some-clause-pipe : goal.returns-then-is_some-clause-pipe
returns-then-is_some-clause-pipe c =
    some_pipe c.args.distilled.now c.args.cores _ c.args.self.now (c.args.turn % c.args.cores) c.take_unowned-near.result
    (record {
      keeps = c.pipes-pipes.ensures.valid;
      low = mod-lt c.args.turn c.requires.some_core;
      holds = c.requires.before;
      reach = c.index_mut-reach.result.now;
      reach_is = c.index_mut-reach.ensures.value;
      owners = c.deref.result.now;
      owners_are = c.deref.ensures.value;
      left = c.take_unowned-near.new.self;
      found = c.take_unowned-near.ensures;
    })
    (sym c.is_some.ensures ∙ c.if-is_some.true)

pub returns-then-is_some-clause-holds : goal.returns-then-is_some-clause-holds
returns-then-is_some-clause-holds c =
    some_holds c.args.distilled.now c.args.cores _ c.args.self.now _ (c.args.turn % c.args.cores) c.take_unowned-near.result
    (record {
      keeps = c.pipes-pipes.ensures.valid;
      low = mod-lt c.args.turn c.requires.some_core;
      holds = c.requires.before;
      reach = c.index_mut-reach.result.now;
      reach_is = c.index_mut-reach.ensures.value;
      owners = c.deref.result.now;
      owners_are = c.deref.ensures.value;
      left = c.take_unowned-near.new.self;
      found = c.take_unowned-near.ensures;
    })
    (sym c.is_some.ensures ∙ c.if-is_some.true) (record { owners = refl; reaches = refl; least_is = refl })

pub returns-clause-pipe : goal.returns-clause-pipe
returns-clause-pipe c =
    c.then_some.ensures
    ∙ far_pipe_is c.args.distilled.now c.args.cores _ c.args.self.now (c.args.turn % c.args.cores) c.take_unowned-near.result
    (record {
      keeps = c.pipes-pipes.ensures.valid;
      low = mod-lt c.args.turn c.requires.some_core;
      holds = c.requires.before;
      reach = c.index_mut-reach.result.now;
      reach_is = c.index_mut-reach.ensures.value;
      owners = c.deref.result.now;
      owners_are = c.deref.ensures.value;
      left = c.take_unowned-near.new.self;
      found = c.take_unowned-near.ensures;
    })
    (record {
      none = sym c.is_some.ensures ∙ c.if-is_some.false;
      owners = c.deref-2.result.now;
      owners_are = c.deref-2.ensures.value;
      next = c.next_unowned-self.result;
      next_is = c.next_unowned-self.ensures;
    })
    c.len.result (c.len.ensures ∙ c.args.self.now.owners.ok.0)

pub returns-clause-holds : goal.returns-clause-holds
returns-clause-holds c =
    far_holds c.args.distilled.now c.args.cores _ c.args.self.now (c.args.turn % c.args.cores) c.take_unowned-near.result
    (record {
      keeps = c.pipes-pipes.ensures.valid;
      low = mod-lt c.args.turn c.requires.some_core;
      holds = c.requires.before;
      reach = c.index_mut-reach.result.now;
      reach_is = c.index_mut-reach.ensures.value;
      owners = c.deref.result.now;
      owners_are = c.deref.ensures.value;
      left = c.take_unowned-near.new.self;
      found = c.take_unowned-near.ensures;
    })
    (record {
      none = sym c.is_some.ensures ∙ c.if-is_some.false;
      owners = c.deref-2.result.now;
      owners_are = c.deref-2.ensures.value;
      next = c.next_unowned-self.result;
      next_is = c.next_unowned-self.ensures;
    })
    _ c.then_some.result (record { owners = refl; reaches = refl; least_is = refl })
