-- What one turn of a core makes of a world: the other cores and their ends of the boxes stay as they were.
use Rattle.std.proofs.Common.{◌≡◌, ◌≢◌, ◌⊎◌, inl, inr, ℕ, ◌+◌, ◌<◌, ◌≤◌, Bool, true, false, List, length, Option, Some, None, slice_get, refl, sym, ap, ◌∙◌, subst, arith, get_or-set_same, get_or-set_other}
use Rattle.std.proofs.Math.ListN.{set, length-set}
use Rattle.std.proofs.lemmas.Option.{slice_get_read, slice_get-get_or, slice_get_past, slice_get_within}
use Rattle.std.proofs.lemmas.Bool.{cases_eq, cases_lt}
use Rattle.mn_base.specs.declared.limits.TheConstants.{CORES_MAX}
use Rattle.journal.specs.SetupView.{SetupView}
use Rattle.parcel.specs.PlainBoxesView.{PlainBoxesView, Keeps, HasParcel, HasNoParcel, WasFull, WasEmpty, box_at, posted_to, taken_from}
use Rattle.core_loop.specs.CoreView.{CoreView, windows_of, posted_of, taken_of, IsOtherCore}
use Rattle.core_loop.specs.WorldState.{CoreStands, IsInStep}
use Rattle.core_loop.specs.Turns.{StandAt, NoCountFalls, HasMoved, StillStands}
use Rattle.world.specs.WorldView.{WorldView, IsCoreOf, IsWorld}
use Rattle.world.specs.Worlds.{WorldStands, HasNoEvent, Turned}

-- ---- a list of which one element is another

get-set-same : {X : Type 0} (xs : List X) (i : ℕ) (x : X) → i < length xs → slice_get (set xs i x) i ≡ Some x
get-set-same xs i x below =
    slice_get_read (set xs i x) (length (set xs i x)) i x refl (let n = length-set xs i x in omega (arith, below, n))
    (sym (get_or-set_same xs i x x below))

get-set-other : {X : Type 0} (xs : List X) (i : ℕ) (x : X) (j : ℕ) → j ≢ i → slice_get (set xs i x) j ≡ slice_get xs j
get-set-other xs i x j ne = go (cases_lt j (length xs))
  where
    go : (j < length xs) ⊎ (length xs ≤ j) → slice_get (set xs i x) j ≡ slice_get xs j
    go (inl below) =
        slice_get-get_or (set xs i x) j x (let n = length-set xs i x in omega (arith, below, n))
        ∙ (ap (λ y. Some y) (get_or-set_other xs i j x x ne) ∙ sym (slice_get-get_or xs j x below))
    go (inr past) =
        slice_get_past (set xs i x) j (let n = length-set xs i x in omega (arith, past, n)) ∙ sym (slice_get_past xs j past)

same-element : {X : Type 0} (x y : X) → Some x ≡ Some y → x ≡ y
same-element x y e = cc

-- ---- a world of which one core has had a turn

-- a core c of a world becomes d, and the boxes become q
pub record TurnsTo (w : WorldView) (core : ℕ) (c d : CoreView) (q : PlainBoxesView) : Type 0 where
  pub is_world : IsWorld w
  pub here : IsCoreOf w core c
  pub keeps : Keeps (record w.boxes { core = core }) q
  pub stand : StandAt (λ (b : PlainBoxesView). b.setup) (λ (b : PlainBoxesView). b.core) posted_to taken_from q d
  pub rises : NoCountFalls c d
  pub in_step : d.failed ≡ false → IsInStep d

abbrev pub world_then : WorldView → ℕ → CoreView → PlainBoxesView → Bool → WorldView
world_then w core d q failed = record { setup = w.setup; cores = set w.cores core d; boxes = q; failed = failed }

module _ (w : WorldView) (core : ℕ) (c d : CoreView) (q : PlainBoxesView) (failed : Bool) (t : TurnsTo w core c d q) where
  abbrev x : WorldView
  x = world_then w core d q failed

  below : core < length w.cores
  below = slice_get_within w.cores core c t.here

  pub now-here : IsCoreOf x core d
  now-here = get-set-same w.cores core d below

  pub now-other : (k : ℕ) → k ≢ core → slice_get x.cores k ≡ slice_get w.cores k
  now-other k ne = get-set-other w.cores core d k ne

  -- what holds of d, and of each other core, holds of each core
  each : (P : ℕ → CoreView → Type 0) → P core d → ((k : ℕ) (e : CoreView) → k ≢ core → IsCoreOf w k e → P k e) → (k : ℕ) (e : CoreView)
      → IsCoreOf x k e
      → P k e
  each P at_d others k e is = go (cases_eq k core)
    where
      go : (k ≡ core) ⊎ (k ≢ core) → P k e
      go (inl same) =
          let is_here : slice_get x.cores core ≡ Some e = subst (λ (n : ℕ). slice_get x.cores n ≡ Some e) same is in
          let e_is : d ≡ e = same-element d e (sym now-here ∙ is_here) in
          subst (λ (n : ℕ). P n e) (sym same) (subst (λ (z : CoreView). P core z) e_is at_d)
      go (inr ne) = others k e ne (sym (now-other k ne) ∙ is)

  few : (k : ℕ) → k < w.setup.cores → k < CORES_MAX
  few k less = (let most = t.is_world.is_setup.cores_most in omega arith)

  pub few-core : (k : ℕ) (e : CoreView) → IsCoreOf w k e → k < CORES_MAX
  few-core k e is = few k (let l = slice_get_within w.cores k e is in let n = t.is_world.one_a_core in omega arith)

  pub few-other : (k : ℕ) (e : CoreView) (other : ℕ) → IsCoreOf w k e → IsOtherCore e other → other < CORES_MAX
  few-other k e other is o =
      few other (subst (λ (n : ℕ). other < n) (ap (λ (S : SetupView). S.cores) (t.is_world.setups k e is)) o.0)

  pub turn-keeps : (failed ≡ false → (w.failed ≡ false) × (d.failed ≡ false)) → IsWorld x
  turn-keeps works = record {
    boxes = t.keeps.setup ∙ t.is_world.boxes;
    one_a_core = length-set w.cores core d ∙ t.is_world.one_a_core;
    setups = each (λ k e. e.setup ≡ w.setup) (t.rises.setup ∙ t.is_world.setups core c t.here) (λ k e ne is. t.is_world.setups k e is);
    numbers = each (λ k e. e.number ≡ k) (t.rises.number ∙ t.is_world.numbers core c t.here) (λ k e ne is. t.is_world.numbers k e is);
    posts = each (λ k e. (other : ℕ) → IsOtherCore e other → (box_at q k other).posted ≡ posted_of e other)
        (λ other o. subst (λ (n : ℕ). (box_at q n other).posted ≡ posted_of d other) t.keeps.core (t.stand.posts other o))
        (λ k e ne is other o. t.keeps.posts_of_others k other (few-other k e other is o) ne ∙ t.is_world.posts k e is other o);
    takes = each (λ k e. (other : ℕ) → IsOtherCore e other → (box_at q other k).taken ≡ taken_of e other)
        (λ other o. subst (λ (n : ℕ). (box_at q other n).taken ≡ taken_of d other) t.keeps.core (t.stand.takes other o))
        (λ k e ne is other o. t.keeps.takes_of_others other k (few-core k e is) ne ∙ t.is_world.takes k e is other o);
    works = λ f. each (λ k e. e.failed ≡ false) (works f).1 (λ k e ne is. t.is_world.works (works f).0 k e is);
    is_setup = t.is_world.is_setup;
    in_step = λ f. each (λ k e. IsInStep e) (t.in_step (works f).1) (λ k e ne is. t.is_world.in_step (works f).0 k e is);
  }

  pub turn-turned : HasMoved c d ⊎ HasNoEvent w core c → Turned core w x
  turn-turned moves = record {
    setup = refl;
    others = λ other ne. now-other other ne;
    rises = λ c2 d2 is_c is_d. subst (λ (z : CoreView). NoCountFalls z d2) (c-is c2 is_c)
        (subst (λ (z : CoreView). NoCountFalls c z) (d-is d2 is_d) t.rises);
    moves = λ c2 d2 is_c is_d. subst (λ (z : CoreView). HasMoved z d2 ⊎ HasNoEvent w core z) (c-is c2 is_c)
        (subst (λ (z : CoreView). HasMoved c z ⊎ HasNoEvent w core c) (d-is d2 is_d) moves);
  }
    where
      c-is : (c2 : CoreView) → IsCoreOf w core c2 → c ≡ c2
      c-is c2 is = same-element c c2 (sym t.here ∙ is)

      d-is : (d2 : CoreView) → IsCoreOf x core d2 → d ≡ d2
      d-is d2 is = same-element d d2 (sym now-here ∙ is)

  -- it stands still for whatever bytes it stood, where the core does
  pub turn-stands : (bytes : List (List ℕ)) → WorldStands bytes w → CoreStands bytes d → WorldStands bytes x
  turn-stands bytes s now = each (λ k e. CoreStands bytes e) now (λ k e ne is. s k e is)
