use Rattle.std.proofs.Common.{length, ap, ◌∙◌, arith}
use Rattle.std.proofs.lemmas.List.{get_or_default, length-map}
use Rattle.journal.specs.Fates.{fate_of}
use Rattle.settle.proofs.Tallies.{tally-below, below-long, below-more, below-all}
use Rattle.settle.proofs.counting.count_visits.Goals as goal

pub count_way-requires-clause-tally : goal.count_way-requires-clause-tally
count_way-requires-clause-tally c =
    let many = ap length c.requires.fates ∙ length-map c.args.setup.now.packets (fate_of c.args.setup.now) in
    tally-below c.args.setup.now c.parts.ensures.kept c.loop-index.index c.loop-index.all.items (length c.route_at.result.now) c.loop-index.invariant
    (omega (arith, many)) c.route_at.ensures.short

pub count_way-requires-clause-named : goal.count_way-requires-clause-named
count_way-requires-clause-named c =
    let long = below-long c.args.setup.now c.parts.ensures.kept c.loop-index.index c.loop-index.all.items c.loop-index.invariant in
    λ k d within. omega (arith, long, c.route_at.ensures.named k d within)

pub loop-index-preserved : goal.loop-index-preserved
loop-index-preserved c =
    below-more c.args.setup.now c.parts.ensures.kept
    (record {
      all = c.loop-index.all.items;
      route = c.route_at.result.now;
      fate = _;
      fates = c.args.fates.now;
      counted = c.loop-index.invariant;
      within = c.loop-index-test.true;
      fates_are = c.requires.fates;
      fate_is = get_or_default c.args.fates.now c.loop-index.index _ _ c.loop-index-test.true;
      route_is = c.route_at.ensures.route;
      writes = c.count_way.ensures;
    })

pub returns : goal.returns
returns c =
    let many = ap length c.requires.fates ∙ length-map c.args.setup.now.packets (fate_of c.args.setup.now) in
    below-all c.args.setup.now c.parts.ensures.kept c.loop-index.index c.loop-index.all.items c.loop-index.invariant (omega (arith, many))
