-- `Keeps` is reflexive and transitive.
use Rattle.std.specs.Prelude.{ℕ, refl}
use Rattle.std.proofs.Common.{arith, ap, ◌∙◌}
use Rattle.parcel.specs.PlainBoxesView.{PlainBoxesView, Keeps, box_at}

pub keeps_refl : (p : PlainBoxesView) → Keeps p p
keeps_refl p = record {
  setup = refl;
  core = refl;
  posts_of_others = λ sender receiver within other. refl;
  takes_of_others = λ sender receiver within other. refl;
  posts = λ receiver. omega arith;
  takes = λ sender. omega arith;
}

pub keeps_trans : (p q r : PlainBoxesView) → Keeps p q → Keeps q r → Keeps p r
keeps_trans p q r a b = record {
  setup = b.setup ∙ a.setup;
  core = b.core ∙ a.core;
  posts_of_others = λ sender receiver within other.
      b.posts_of_others sender receiver within (λ e. other (e ∙ a.core)) ∙ a.posts_of_others sender receiver within other;
  takes_of_others = λ sender receiver within other.
      b.takes_of_others sender receiver within (λ e. other (e ∙ a.core)) ∙ a.takes_of_others sender receiver within other;
  posts = λ receiver. omega (arith, a.posts receiver, b.posts receiver, ap (λ (core : ℕ). (box_at q core receiver).posted) a.core);
  takes = λ sender. omega (arith, a.takes sender, b.takes sender, ap (λ (core : ℕ). (box_at q sender core).taken) a.core);
}
