-- What a turn of a world says, by what the turn of its core said.
use Rattle.std.proofs.Common.{◌≡◌, ◌≢◌, ◌⊎◌, inl, inr, ℕ, ◌<◌, Bool, true, false, List, length, get_or, Some, slice_get, refl, sym, ap, ◌∙◌, subst, arith}
use Rattle.std.proofs.Math.ListN.{set}
use Rattle.std.proofs.lemmas.List.{set-get_or}
use Rattle.std.proofs.lemmas.Option.{get_or_from_slice_get, slice_get_read}
use Rattle.parcel.specs.PlainBoxesView.{PlainBoxesView, Keeps, HasParcel, HasNoParcel, WasFull, WasEmpty, box_at, posted_to, taken_from}
use Rattle.core_loop.specs.declared.turn.PortName.{PortName}
use Rattle.core_loop.specs.declared.turn.Turn.{Turn}
use Rattle.core_loop.specs.declared.turn.Turn.TheVariants.{Moved, Waiting, Done, NoMemory}
use Rattle.core_loop.specs.CoreView.{CoreView, IsOtherCore}
use Rattle.core_loop.specs.WorldState.{CoreStands, IsInStep}
use Rattle.core_loop.specs.Turns.{StandAt, NoCountFalls, HasMoved, StillStands, OwesPost, OwesTake, Owes, IsCoreDone, HasEnded, RefusedBetween, IfWaiting, MayFail}
use Rattle.world.specs.WorldView.{WorldView, IsCoreOf, IsWorld}
use Rattle.world.specs.Worlds.{WorldStands, WorldStillStands, Turned}
use Rattle.world.proofs.OneTurn.{TurnsTo, world_then, now-here, now-other, turn-keeps, turn-stands, turn-turned}
use Rattle.world.proofs.NoEvents.{was-full, was-empty, turn-moves}

-- what the turn of a core says of it, over boxes
pub record CoreTurned (c d : CoreView) (p q : PlainBoxesView) (turn : Turn) : Type 0 where
  pub keeps : Keeps p q
  pub stand : StandAt (λ (b : PlainBoxesView). b.setup) (λ (b : PlainBoxesView). b.core) posted_to taken_from q d
  pub rises : NoCountFalls c d
  pub stands : StillStands c d
  pub in_step : d.failed ≡ false → IsInStep d
  pub moved : turn ≡ Moved → HasMoved c d
  pub not_done : turn ≡ Moved → IsCoreDone d → ⊥
  pub waits : IfWaiting turn (λ on. Owes c on)
  pub same : IfWaiting turn (λ on. d ≡ c)
  pub posts : IfWaiting turn (λ on. (other : ℕ) → OwesPost c other → RefusedBetween Keeps WasFull p other q)
  pub takes : IfWaiting turn (λ on. (other : ℕ) → OwesTake c other → RefusedBetween Keeps WasEmpty p other q)
  pub done : turn ≡ Done → IsCoreDone d
  pub ended : turn ≡ Done → HasEnded d
  pub no_memory : d.failed ≡ true → turn ≡ NoMemory
  pub may_fail : turn ≡ NoMemory → MayFail c d

-- a fact of a turn that waits gives another
pub waiting-map : (turn : Turn) (P Q : PortName → Type 0) → ((on : PortName) → turn ≡ Waiting on → P on → Q on) → IfWaiting turn P → IfWaiting turn Q
waiting-map Moved P Q f h = tt
waiting-map (Waiting on) P Q f h = f on refl h
waiting-map Done P Q f h = tt
waiting-map NoMemory P Q f h = tt

-- two facts of a turn that waits
waiting-both : (turn : Turn) (P Q R : PortName → Type 0) → ((on : PortName) → P on → Q on → R on) → IfWaiting turn P → IfWaiting turn Q
    → IfWaiting turn R
waiting-both Moved P Q R f h k = tt
waiting-both (Waiting on) P Q R f h k = f on h k
waiting-both Done P Q R f h k = tt
waiting-both NoMemory P Q R f h k = tt

-- the core at a place of a world, as it was found there
pub found-core : (cores : List CoreView) (core : ℕ) (c : CoreView) → core < length cores
    → c ≡ get_or cores core c
    → slice_get cores core ≡ Some c
found-core cores core c below is = slice_get_read cores (length cores) core c refl below is

module _ (w : WorldView) (core : ℕ) (c d : CoreView) (q : PlainBoxesView) (turn : Turn) (is : IsWorld w) (here : IsCoreOf w core c)
    (t : CoreTurned c d (record w.boxes { core = core }) q turn) where
  pub turns-to : TurnsTo w core c d q
  turns-to = record { is_world = is; here = here; keeps = t.keeps; stand = t.stand; rises = t.rises; in_step = t.in_step }

  same-core : (e : CoreView) → IsCoreOf w core e → c ≡ e
  same-core e at = (let s : Some c ≡ Some e = sym here ∙ at in cc)

  now-core : (e : CoreView) (f : Bool) → IsCoreOf (world_then w core d q f) core e → d ≡ e
  now-core e f at = (let s : Some d ≡ Some e = sym (now-here w core c d q f turns-to) ∙ at in cc)

  works : (turn ≡ NoMemory → ⊥) → d.failed ≡ false
  works memory = go d.failed refl
    where
      go : (b : Bool) → d.failed ≡ b → d.failed ≡ false
      go true e = absurd (memory (t.no_memory e))
      go false e = e

  pub says-stands : (f : Bool) → (turn ≡ NoMemory → ⊥) → WorldStillStands w (world_then w core d q f)
  says-stands f memory = λ bytes s. go bytes s (t.stands bytes (s core c here))
    where
      go : (bytes : List (List ℕ)) → WorldStands bytes w → (d.failed ≡ true) ⊎ CoreStands bytes d
          → (f ≡ true) ⊎ WorldStands bytes (world_then w core d q f)
      go bytes s (inl failed) = absurd (memory (t.no_memory failed))
      go bytes s (inr now) = inr (turn-stands w core c d q f turns-to bytes s now)

  pub says-turned : (f : Bool) → (turn ≡ NoMemory → ⊥) → Turned core w (world_then w core d q f)
  says-turned f memory =
      turn-turned w core c d q f turns-to
      (turn-moves w core c d q turns-to turn t.moved t.waits t.same t.posts t.takes t.done memory)

  pub says-moved : (f : Bool) → turn ≡ Moved → (b e : CoreView) → IsCoreOf w core b → IsCoreOf (world_then w core d q f) core e
      → HasMoved b e × (IsCoreDone e → ⊥)
  says-moved f moved b e at_b at_e =
      subst (λ (z : CoreView). HasMoved z e × (IsCoreDone e → ⊥)) (same-core b at_b)
      (subst (λ (z : CoreView). HasMoved c z × (IsCoreDone z → ⊥)) (now-core e f at_e) (t.moved moved, t.not_done moved))

  pub says-waits : IfWaiting turn (λ on. (b : CoreView) → IsCoreOf w core b → Owes b on)
  says-waits =
      waiting-map turn (λ on. Owes c on) (λ on. (b : CoreView) → IsCoreOf w core b → Owes b on)
      (λ on _ owes b at. subst (λ (z : CoreView). Owes z on) (same-core b at) owes) t.waits

  pub says-same : IfWaiting turn (λ on. set w.cores core d ≡ w.cores)
  says-same =
      waiting-map turn (λ on. d ≡ c) (λ on. set w.cores core d ≡ w.cores)
      (λ on _ e.
      ap (λ (z : CoreView). set w.cores core z) (e ∙ sym (get_or_from_slice_get w.cores core c c here)) ∙ set-get_or w.cores core c)
      t.same

  pub says-posts : IfWaiting turn (λ on. (b : CoreView) (other : ℕ) → IsCoreOf w core b → OwesPost b other → HasParcel (box_at w.boxes core other))
  says-posts =
      waiting-both turn (λ on. d ≡ c) (λ on. (other : ℕ) → OwesPost c other → RefusedBetween Keeps WasFull (record w.boxes { core = core }) other q)
      (λ on. (b : CoreView) (other : ℕ) → IsCoreOf w core b → OwesPost b other → HasParcel (box_at w.boxes core other))
      (λ on same refused b other at owes.
      let own : OwesPost c other = subst (λ (z : CoreView). OwesPost z other) (sym (same-core b at)) owes in
      was-full w core c d q turns-to same other own.0 (refused other own))
      t.same t.posts

  pub says-takes : IfWaiting turn (λ on. (b : CoreView) (other : ℕ) → IsCoreOf w core b → OwesTake b other → HasNoParcel (box_at w.boxes other core))
  says-takes =
      waiting-both turn (λ on. d ≡ c) (λ on. (other : ℕ) → OwesTake c other → RefusedBetween Keeps WasEmpty (record w.boxes { core = core }) other q)
      (λ on. (b : CoreView) (other : ℕ) → IsCoreOf w core b → OwesTake b other → HasNoParcel (box_at w.boxes other core))
      (λ on same refused b other at owes.
      let own : OwesTake c other = subst (λ (z : CoreView). OwesTake z other) (sym (same-core b at)) owes in
      was-empty w core c d q turns-to same other own.0 (refused other own))
      t.same t.takes

  pub says-done : (f : Bool) → turn ≡ Done → (e : CoreView) → IsCoreOf (world_then w core d q f) core e → IsCoreDone e × HasEnded e
  says-done f done e at = subst (λ (z : CoreView). IsCoreDone z × HasEnded z) (now-core e f at) (t.done done, t.ended done)

  pub says-may-fail : (f : Bool) → turn ≡ NoMemory → (b e : CoreView) → IsCoreOf w core b → IsCoreOf (world_then w core d q f) core e
      → MayFail b e
  says-may-fail f memory b e at_b at_e =
      subst (λ (z : CoreView). MayFail z e) (same-core b at_b)
      (subst (λ (z : CoreView). MayFail c z) (now-core e f at_e) (t.may_fail memory))

  pub says-others : (other : ℕ) → other ≢ core → slice_get (set w.cores core d) other ≡ slice_get w.cores other
  says-others other ne = now-other w core c d q false turns-to other ne

  -- what is true of all worlds stays true
  pub says-world : (f : Bool) → (f ≡ false → (w.failed ≡ false) × (turn ≡ NoMemory → ⊥)) → IsWorld (world_then w core d q f)
  says-world f ok = turn-keeps w core c d q f turns-to (λ e. ((ok e).0, works (ok e).1))
