-- A turn as a whole: the pipe that is picked, and what holds when it is given.
use Rattle.std.proofs.Common.{◌≡◌, ◌<◌, ◌≤◌, ◌+◌, ◌%◌, ⊎_elim, ℕ, List, [], ◌∷◌, ◌++◌, length, get_or, set, Option, Some, None, sym, ap, ◌∙◌, subst, arith, add-one, length-set}
use Rattle.std.specs.Option.{option_map_or, option_or}
use Rattle.std.proofs.lemmas.Bool.{cases_eq}
use Rattle.std.proofs.lemmas.List.{get_or-set_same, get_or-set_other}
use Rattle.distill.specs.Distilled.{DistilledView, KeepsPipeLimits}
use Rattle.ownership.specs.declared.reach.Reach.{Reach}
use Rattle.ownership.specs.declared.turns.Turns.{Turns}
use Rattle.ownership.specs.Owners.{AreOwners}
use Rattle.ownership.specs.Assignment.{Owned, nearest, least_unowned, pipe_of_turn, after_turn, owned_after}
use Rattle.ownership.specs.Turning.{FindsNone, FindsLeast, IsNextUnowned, IsReach, HoldsTurns}
use Rattle.ownership.proofs.Reaches.{nearest_is, none_near, below_next, least_is, none_least, taken_out, none_taken, any_gone}

-- after a turn, by the pipe that it takes
pub owned_next : (d : DistilledView) (cores r : ℕ) → owned_after d cores (r + 1) ≡ after_turn d cores (owned_after d cores r) (r % cores)
unfolding owned_after
owned_next d cores r = ap (owned_after d cores) (add-one r)

pub after_taken : (d : DistilledView) (cores : ℕ) (owned : List Owned) (core pipe : ℕ) → pipe_of_turn d cores owned core ≡ Some pipe
    → after_turn d cores owned core ≡ owned ++ record { pipe = pipe; core = core } ∷ []
after_taken d cores owned core pipe is =
    ap (λ (o : Option ℕ). option_map_or (λ q. owned ++ record { pipe = q; core = core } ∷ []) o owned) is

pub after_none : (d : DistilledView) (cores : ℕ) (owned : List Owned) (core : ℕ) → pipe_of_turn d cores owned core ≡ None
    → after_turn d cores owned core ≡ owned
after_none d cores owned core is =
    ap (λ (o : Option ℕ). option_map_or (λ q. owned ++ record { pipe = q; core = core } ∷ []) o owned) is

-- ---- the pipe that is picked is free
pub near_pipe : (d : DistilledView) (cores : ℕ) (owned : List Owned) (core pipe : ℕ) → nearest d cores owned core ≡ Some pipe
    → pipe_of_turn d cores owned core ≡ Some pipe
near_pipe d cores owned core pipe is = ap (λ (o : Option ℕ). option_or o (least_unowned d owned)) is

pub far_pipe : (d : DistilledView) (cores : ℕ) (owned : List Owned) (core : ℕ) (o : Option ℕ) → nearest d cores owned core ≡ None
    → least_unowned d owned ≡ o → pipe_of_turn d cores owned core ≡ o
far_pipe d cores owned core o none is = ap (λ (n : Option ℕ). option_or n (least_unowned d owned)) none ∙ is

-- one core's reach is another, and the others stay
pub reaches_set : (d : DistilledView) (cores : ℕ) (owned owned' : List Owned) (gone gone' : Option ℕ) (rs : List Reach) (core : ℕ) (reach : Reach)
    → length rs ≡ cores → core < cores → IsReach d cores owned' gone' core reach
    → ((c : ℕ) (other : Reach) → c < cores → (c ≡ core → ⊥) → IsReach d cores owned' gone' c (get_or rs c other))
    → (c : ℕ) (other : Reach) → c < cores → IsReach d cores owned' gone' c (get_or (set rs core reach) c other)
reaches_set d cores owned owned' gone gone' rs core reach len low is others c other within =
    ⊎_elim
    (λ (same : c ≡ core).
    subst (λ k. IsReach d cores owned' gone' k (get_or (set rs core reach) k other)) (sym same)
    (subst (IsReach d cores owned' gone' core) (sym (get_or-set_same rs core reach other (omega (arith, len, low)))) is))
    (λ (away : c ≡ core → ⊥).
    subst (IsReach d cores owned' gone' c) (sym (get_or-set_other rs core c reach other away)) (others c other within away))
    (cases_eq c core)

-- a near pipe was picked
pub picked_near : (d : DistilledView) (cores : ℕ) (owned : List Owned) (t t' : Turns) (core pipe : ℕ) (reach reach' : Reach)
    → KeepsPipeLimits d → core < cores → HoldsTurns d cores owned None t → reach ≡ get_or t.reaches.items core reach
    → reach'.nodes ≡ reach.nodes → FindsLeast t.owners.items reach.near pipe reach'.near
    → t'.owners.items ≡ t.owners.items → t'.reaches.items ≡ set t.reaches.items core reach' → t'.least ≡ t.least
    → HoldsTurns d cores owned (Some pipe) t'
picked_near d cores owned t t' core pipe reach reach' keeps low holds read nodes found owners reaches least = record {
  owners = subst (AreOwners (length d.pipes) owned) (sym owners) holds.owners;
  len = ap length reaches ∙ length-set t.reaches.items core reach' ∙ holds.len;
  reaches = λ c other within.
      subst (λ (rs : List Reach). IsReach d cores owned (Some pipe) c (get_or rs c other)) (sym reaches)
      (reaches_set d cores owned owned None (Some pipe) t.reaches.items core reach' holds.len low
      (taken_out d cores owned t.owners.items core reach reach' pipe holds.owners
      (subst (IsReach d cores owned None core) (sym read) (holds.reaches core reach low)) nodes found)
      (λ k o inside away. any_gone d cores owned k (get_or t.reaches.items k o) (Some pipe) (holds.reaches k o inside))
      c other within);
  below = λ q before. holds.below q (subst (λ n. q < n) least before);
  least = subst (λ n. n ≤ length d.pipes) (sym least) holds.least;
}

pub near_is_turn : (d : DistilledView) (cores : ℕ) (owned : List Owned) (t : Turns) (core pipe : ℕ) (reach : Reach) (new : List ℕ)
    → KeepsPipeLimits d → core < cores → HoldsTurns d cores owned None t → reach ≡ get_or t.reaches.items core reach
    → FindsLeast t.owners.items reach.near pipe new → pipe_of_turn d cores owned core ≡ Some pipe
near_is_turn d cores owned t core pipe reach new keeps low holds read found =
    near_pipe d cores owned core pipe
    (nearest_is d cores owned t.owners.items core reach pipe new keeps holds.owners
    (subst (IsReach d cores owned None core) (sym read) (holds.reaches core reach low)) found)

-- none was near, and the next unowned one was looked for
pub picked_far : (d : DistilledView) (cores : ℕ) (owned : List Owned) (t t' : Turns) (core next : ℕ) (gone : Option ℕ) (reach reach' : Reach)
    → core < cores → HoldsTurns d cores owned None t → reach ≡ get_or t.reaches.items core reach
    → reach'.nodes ≡ reach.nodes → FindsNone t.owners.items reach.near reach'.near → IsNextUnowned t.owners.items t.least next
    → t'.owners.items ≡ t.owners.items → t'.reaches.items ≡ set t.reaches.items core reach' → t'.least ≡ next
    → HoldsTurns d cores owned gone t'
picked_far d cores owned t t' core next gone reach reach' low holds read nodes found is owners reaches least = record {
  owners = subst (AreOwners (length d.pipes) owned) (sym owners) holds.owners;
  len = ap length reaches ∙ length-set t.reaches.items core reach' ∙ holds.len;
  reaches = λ c other within.
      subst (λ (rs : List Reach). IsReach d cores owned gone c (get_or rs c other)) (sym reaches)
      (reaches_set d cores owned owned None gone t.reaches.items core reach' holds.len low
      (none_taken d cores owned t.owners.items core reach reach' gone holds.owners
      (subst (IsReach d cores owned None core) (sym read) (holds.reaches core reach low)) nodes found)
      (λ k o inside away. any_gone d cores owned k (get_or t.reaches.items k o) gone (holds.reaches k o inside))
      c other within);
  below = λ q before.
      below_next (length d.pipes) owned t.owners.items t.least next holds.owners holds.below is q (subst (λ n. q < n) least before);
  least =
      subst (λ n. n ≤ length d.pipes) (sym least)
      (let most = is.most in let len = holds.owners.len in omega (arith, most, len));
}

pub far_is_turn : (d : DistilledView) (cores : ℕ) (owned : List Owned) (t : Turns) (core next : ℕ) (reach : Reach) (new : List ℕ)
    → KeepsPipeLimits d → core < cores → HoldsTurns d cores owned None t → reach ≡ get_or t.reaches.items core reach
    → FindsNone t.owners.items reach.near new → IsNextUnowned t.owners.items t.least next → next < length t.owners.items
    → pipe_of_turn d cores owned core ≡ Some next
far_is_turn d cores owned t core next reach new keeps low holds read found is within =
    far_pipe d cores owned core (Some next)
    (none_near d cores owned t.owners.items core reach new keeps holds.owners
    (subst (IsReach d cores owned None core) (sym read) (holds.reaches core reach low)) found)
    (least_is d owned t.owners.items t.least next holds.owners holds.below is within)

pub none_is_turn : (d : DistilledView) (cores : ℕ) (owned : List Owned) (t : Turns) (core next : ℕ) (reach : Reach) (new : List ℕ)
    → KeepsPipeLimits d → core < cores → HoldsTurns d cores owned None t → reach ≡ get_or t.reaches.items core reach
    → FindsNone t.owners.items reach.near new → IsNextUnowned t.owners.items t.least next → length t.owners.items ≤ next
    → pipe_of_turn d cores owned core ≡ None
none_is_turn d cores owned t core next reach new keeps low holds read found is past =
    far_pipe d cores owned core None
    (none_near d cores owned t.owners.items core reach new keeps holds.owners
    (subst (IsReach d cores owned None core) (sym read) (holds.reaches core reach low)) found)
    (none_least d owned t.owners.items t.least next holds.owners holds.below is past)
