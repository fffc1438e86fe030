-- A visit comes to an own pipe: at which index the pipe stands, and what the pipes are once the visit is made.
use Rattle.std.proofs.Common.{◌≡◌, ◌⊎◌, inl, inr, ℕ, zero, suc, ◌<◌, List, [], ◌∷◌, ◌++◌, length, get_or, slice_get, slice_set, option_map, Some, length-set, refl, sym, ap, ◌∙◌, subst, arith}
use Rattle.std.proofs.lemmas.Option.{slice_get_within, get_or_from_slice_get, slice_get-map}
use Rattle.mn_base.specs.declared.due.Due.{Due}
use Rattle.mn_base.specs.declared.limits.TheConstants.{PACKETS_MAX}
use Rattle.pipe.specs.declared.step.Step.{Step}
use Rattle.journal.specs.declared.visit.Visit.{Visit}
use Rattle.journal.specs.SetupView.{SetupView}
use Rattle.journal.specs.Steps.{visit_of}
use Rattle.journal.specs.IsPipe.{SetupPipeView, IsPipe}
use Rattle.parcel.specs.declared.counts.PipeCounts.{PipeCounts}
use Rattle.parcel.specs.Owners.{own_pipes}
use Rattle.parcel.specs.Counts.{counts_of}
use Rattle.journal.proofs.VisitsTo.{Decided, made, decided-visit, decided-pipe}
use Rattle.core_loop.specs.Work.{OwnPipesView, HaveRun, AreIndexed, ComesTo, IsBelow}
use Rattle.parcel.specs.Counts.{counted}
use Rattle.core_loop.proofs.OwnRuns.{own-index, have_run-push}
use Rattle.core_loop.proofs.Counting.{counts-below}

get-set : {X : Type 0} (xs : List X) (k i : ℕ) (x y : X) → slice_get (slice_set xs k x) i ≡ Some y
    → ((i ≡ k) × (x ≡ y)) ⊎ (slice_get xs i ≡ Some y)
get-set [] k i x y e = inr e
get-set (z ∷ xs) zero zero x y e = inl (refl, cc)
get-set (z ∷ xs) zero (suc i) x y e = inr e
get-set (z ∷ xs) (suc k) zero x y e = inr e
get-set (z ∷ xs) (suc k) (suc i) x y e = go (get-set xs k i x y e)
  where
    go : ((i ≡ k) × (x ≡ y)) ⊎ (slice_get xs i ≡ Some y) → ((suc i ≡ suc k) × (x ≡ y)) ⊎ (slice_get xs i ≡ Some y)
    go (inl f) = inl (ap suc f.0, f.1)
    go (inr f) = inr f

-- a visit comes to an own pipe, and k is the index at which the table has this pipe
pub record Finds (S : SetupView) (core : ℕ) (J : List Visit) (x : Due) (pipe : ℕ) (own : OwnPipesView) (index_of : List ℕ) (k : ℕ) : Type 0 where
  pub comes : ComesTo S core J x pipe own
  pub table : AreIndexed index_of own.pipes own.counts
  pub read : k ≡ get_or index_of pipe k

-- the pipe found there, once, and new after it, has made the visit with this step
pub record HasMade (S : SetupView) (core : ℕ) (J : List Visit) (x : Due) (pipe : ℕ) (own : OwnPipesView) (index_of : List ℕ) (k : ℕ)
    (old new : SetupPipeView) (step : Step) : Type 0 where
  pub found : Finds S core J x pipe own index_of k
  pub old_is : old ≡ get_or own.pipes k old
  pub decided : Decided S x pipe old new step

module _ {S : SetupView} {core : ℕ} {J : List Visit} {x : Due} {pipe : ℕ} {own : OwnPipesView} {index_of : List ℕ}
    (comes : ComesTo S core J x pipe own) (table : AreIndexed index_of own.pipes own.counts) where
  place : (index : ℕ) × (m : SetupPipeView) × (slice_get (own_pipes S core) index ≡ Some pipe) × (slice_get own.pipes index ≡ Some m)
      × IsPipe S J pipe m
  place = own-index S core J own pipe comes.have_run comes.owner comes.named

  table-at : slice_get index_of pipe ≡ Some place.0
  table-at = ap (slice_get index_of) (sym place.4.number) ∙ table.indexed place.0 place.1 place.3

  pub table-within : pipe < length index_of
  table-within = slice_get_within index_of pipe place.0 table-at

-- the same by what contracts see of the pipes, now
pub finds : {S : SetupView} {core : ℕ} {J : List Visit} {x : Due} {pipe : ℕ} {own now : OwnPipesView} {index_of : List ℕ} {k : ℕ}
    → own ≡ now → AreIndexed index_of own.pipes own.counts → k ≡ get_or index_of pipe k → ComesTo S core J x pipe now
    → Finds S core J x pipe own index_of k
finds {S} {core} {J} {x} {pipe} is table read comes = record {
  comes = subst (ComesTo S core J x pipe) (sym is) comes;
  table = table;
  read = read;
}

module _ {S : SetupView} {core : ℕ} {J : List Visit} {x : Due} {pipe : ℕ} {own : OwnPipesView} {index_of : List ℕ} {k : ℕ}
    (f : Finds S core J x pipe own index_of k) where
  index-is : k ≡ (place f.comes f.table).0
  index-is = f.read ∙ get_or_from_slice_get index_of pipe (place f.comes f.table).0 k (table-at f.comes f.table)

  at : slice_get own.pipes k ≡ Some (place f.comes f.table).1
  at = ap (slice_get own.pipes) index-is ∙ (place f.comes f.table).3

  pub pipe-within : k < length own.pipes
  pipe-within = slice_get_within own.pipes k (place f.comes f.table).1 at

  pub count-within : k < length own.counts
  count-within = let l : k < length own.pipes = pipe-within in omega (arith, l, f.table.count)

  -- what stands there is the pipe
  pub in-hand : {m : SetupPipeView} → m ≡ get_or own.pipes k m → IsPipe S J pipe m
  in-hand {m} is =
      subst (IsPipe S J pipe) (sym (is ∙ get_or_from_slice_get own.pipes k (place f.comes f.table).1 m at)) (place f.comes f.table).4

  counts-at : {c : PipeCounts} → c ≡ get_or own.counts k c → c ≡ counts_of J pipe
  counts-at {c} is = is ∙ get_or_from_slice_get own.counts k (counts_of J pipe) c
      (ap (λ (l : List PipeCounts). slice_get l k) f.comes.have_run.counts_are
      ∙ slice_get-map (counts_of J) (own_pipes S core) k
      ∙ ap (λ (i : ℕ). option_map (counts_of J) (slice_get (own_pipes S core) i)) index-is
      ∙ ap (option_map (counts_of J)) (place f.comes f.table).2)

  -- and what stands there are its counts, each below the most
  pub few-counted : {c : PipeCounts} → c ≡ get_or own.counts k c → IsBelow c PACKETS_MAX
  few-counted is = subst (λ (d : PipeCounts). IsBelow d PACKETS_MAX) (sym (counts-at is)) (counts-below S J pipe PACKETS_MAX f.comes.few)

module _ {S : SetupView} {core : ℕ} {J : List Visit} {x : Due} {pipe : ℕ} {own : OwnPipesView} {index_of : List ℕ} {k : ℕ}
    {old new : SetupPipeView} {step : Step} (m : HasMade S core J x pipe own index_of k old new step) where
  -- the visit that is made
  pub visited : made x pipe step ≡ visit_of S J x
  visited = decided-visit m.decided J (in-hand m.found m.old_is)

  -- the table still leads to all pipes
  pub table-after : (c : PipeCounts) → AreIndexed index_of (slice_set own.pipes k new) (slice_set own.counts k c)
  table-after c = record {
    count = length-set own.counts k c ∙ m.found.table.count ∙ sym (length-set own.pipes k new);
    indexed = indexed;
  }
    where
      indexed : (index : ℕ) (p : SetupPipeView) → slice_get (slice_set own.pipes k new) index ≡ Some p
          → slice_get index_of p.number ≡ Some index
      indexed index p e = go (get-set own.pipes k index new p e)
        where
          number : new.number ≡ pipe
          number = m.decided.number ∙ (in-hand m.found m.old_is).number

          go : ((index ≡ k) × (new ≡ p)) ⊎ (slice_get own.pipes index ≡ Some p) → slice_get index_of p.number ≡ Some index
          go (inl here) =
              ap (slice_get index_of) (ap (λ (q : SetupPipeView). q.number) (sym here.1) ∙ number)
              ∙ table-at m.found.comes m.found.table
              ∙ ap Some (sym (index-is m.found) ∙ sym here.0)
          go (inr old_at) = m.found.table.indexed index p old_at

  -- the pipes and the counts with this visit
  pub run : {c d : PipeCounts} → c ≡ get_or own.counts k c → d ≡ counted c step
      → HaveRun S core (J ++ visit_of S J x ∷ []) (record { pipes = slice_set own.pipes k new; counts = slice_set own.counts k d })
  run {c} {d} at_c is_d =
      subst (λ (e : PipeCounts).
      HaveRun S core (J ++ visit_of S J x ∷ []) (record { pipes = slice_set own.pipes k new; counts = slice_set own.counts k e }))
      (ap (λ (e : PipeCounts). counted e step) (sym (counts-at m.found at_c)) ∙ sym is_d)
      (subst (λ (v : Visit). HaveRun S core (J ++ v ∷ [])
      (record { pipes = slice_set own.pipes k new; counts = slice_set own.counts k (counted (counts_of J pipe) step) })) visited
      (have_run-push S core J own (made x pipe step) k new m.found.comes.have_run
      (ap (slice_get (own_pipes S core)) (index-is m.found) ∙ (place m.found.comes m.found.table).2)
      (decided-pipe m.decided J (in-hand m.found m.old_is))))
