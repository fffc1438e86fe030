use Rattle.std.proofs.Common.{◌≡◌, ℕ, List, Bor, get_or, Option, Some, None, ◌∙◌}
use Rattle.std.specs.Option.{IfSome, option_copied}
use Rattle.pipe.proofs.Above.{above-rising}
use Rattle.red_queue.proofs.queue.drop_finished.Goals as goal

first_item : (r : Option (Bor ℕ)) (xs : List ℕ) (time : ℕ) → IfSome r (λ x. x.now ≡ get_or xs 0 x.now) → Some time ≡ option_copied r → time ≡ get_or xs 0 time
first_item None xs time is same = cc
first_item (Some x) xs time is same = cc

pub returns-then-now-time-clause-items : goal.returns-then-now-time-clause-items
returns-then-now-time-clause-items c =
    let first : c.in-Some.time ≡ get_or c.loop-time.times.items 0 c.in-Some.time =
    first_item c.front.result c.loop-time.times.items c.in-Some.time c.front.ensures.lookup (cc) in
    above-rising c.args.now c.in-Some.time c.loop-time.times.items c.loop-time.invariant.rising first c.if-now-time.true
    ∙ c.loop-time.invariant.same
