-- `NothingFalls` is reflexive and transitive.
use Rattle.std.specs.Prelude.{refl}
use Rattle.std.proofs.Common.{arith, ◌∙◌}
use Rattle.gate_ports.specs.GatePortsView.{GatePortsView, NothingFalls}

pub falls_nowhere : (p : GatePortsView) → NothingFalls p p
falls_nowhere p = record {
  setup = refl;
  core = refl;
  post_lanes = refl;
  take_lanes = refl;
  posts = λ j. omega arith;
  takes = λ j. omega arith;
  post_misses = λ j. omega arith;
  take_misses = λ j. omega arith;
}

pub falls_nowhere_between : (p q r : GatePortsView) → NothingFalls p q → NothingFalls q r → NothingFalls p r
falls_nowhere_between p q r a b = record {
  setup = b.setup ∙ a.setup;
  core = b.core ∙ a.core;
  post_lanes = b.post_lanes ∙ a.post_lanes;
  take_lanes = b.take_lanes ∙ a.take_lanes;
  posts = λ j. omega (arith, a.posts j, b.posts j);
  takes = λ j. omega (arith, a.takes j, b.takes j);
  post_misses = λ j. omega (arith, a.post_misses j, b.post_misses j);
  take_misses = λ j. omega (arith, a.take_misses j, b.take_misses j);
}
