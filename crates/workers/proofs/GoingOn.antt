-- A core that is turned again and again goes on from where it was.
use Rattle.std.proofs.Common.{◌≡◌, inl, inr, ⊎_elim, Bool, true, false, refl, sym, ap, ◌∙◌}
use Rattle.core_loop.specs.declared.turn.Turn.{Turn}
use Rattle.core_loop.specs.declared.turn.Turn.TheVariants.{Done, NoMemory}
use Rattle.core_loop.specs.CoreView.{CoreView}
use Rattle.core_loop.specs.Turns.{NoCountFalls, StillStands}
use Rattle.workers.specs.Standing.{ComesBack, GoesOn}

-- before its first turn
pub goes-nowhere : (c : CoreView) → GoesOn c c
goes-nowhere c = record { comes = record { setup = refl; number = refl; stands = λ bytes s. inr s }; fails = λ f. f }

-- by a turn; one that has failed is not changed by it
pub goes-by_turn : (c d : CoreView) → NoCountFalls c d → StillStands c d → (c.failed ≡ true → d ≡ c) → GoesOn c d
goes-by_turn c d rises stands same = record {
  comes = record { setup = rises.setup; number = rises.number; stands = stands };
  fails = λ f. ap (λ (x : CoreView). x.failed) (same f) ∙ f;
}

-- what came back and goes on could have come back so
pub comes-on : (given c d : CoreView) → ComesBack given c → GoesOn c d → ComesBack given d
comes-on given c d back on = record {
  setup = on.comes.setup ∙ back.setup;
  number = on.comes.number ∙ back.number;
  stands = λ bytes s. ⊎_elim (λ f. inl (on.fails f)) (λ t. on.comes.stands bytes t) (back.stands bytes s);
}

pub goes-on : (c d e : CoreView) → GoesOn c d → GoesOn d e → GoesOn c e
goes-on c d e first next = record { comes = comes-on c d e first.comes next; fails = λ f. next.fails (first.fails f) }

-- a turn that answered Done found its memory
pub works-done : (turn : Turn) (failed : Bool) → (failed ≡ true → turn ≡ NoMemory) → turn ≡ Done → failed ≡ false
works-done turn false says done = refl
works-done turn true says done = let both : NoMemory ≡ Done = sym (says refl) ∙ done in cc
