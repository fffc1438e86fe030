use Rattle.std.proofs.Common.{subst, sym, arith, rules, ◌≤◌}
use Rattle.std.proofs.lemmas.Fn.{always_returns_same}
use Rattle.pipe.proofs.HeldOrder.{many_of, held-firsts, among-sorted, tick_and_packet, sorted-once, sorted-rising}
use Rattle.pipe.proofs.due_visits.DueVisits.of_firsts.Goals as goal

pub invariant_of-result : goal.invariant_of-result
invariant_of-result c =
    let once =
    sorted-once c.args.firsts.items c.sort_unstable_by_key.new.self.items c.requires c.sort_unstable_by_key.ensures.permutation in
    record {
      within = omega arith;
      rising =
          sorted-rising c.sort_unstable_by_key.new.self.items once
          (c.sort_unstable_by_key.ensures.sorted tick_and_packet (always_returns_same _ _ _ (λ a r f k. search rules)));
      heap = c.new.ensures.heap_order;
      once =
          λ n. subst (λ ws. many_of n ws ≤ 1)
          (sym (held-firsts c.sort_unstable_by_key.new.self.items c.new.result.data.items c.new.ensures.items)) (once n);
    }

pub returns : goal.returns
returns c =
    among-sorted c.args.firsts.items c.sort_unstable_by_key.new.self.items _ c.sort_unstable_by_key.ensures.permutation
    (held-firsts c.sort_unstable_by_key.new.self.items c.new.result.data.items c.new.ensures.items)
