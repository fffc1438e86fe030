-- When all cores are here and done: what they come to.
use Rattle.std.proofs.Common.{◌≡◌, ◌≢◌, inr, ⊎_elim, ℕ, ◌+◌, ◌<◌, false, List, Some, sym, ap, ◌∙◌, subst}
use Rattle.std.specs.Prelude.{All, slice_get}
use Rattle.std.specs.List.{AllZip}
use Rattle.std.proofs.lemmas.Slice.Zip.{AllZip-long}
use Rattle.std.proofs.lemmas.List.{length-map}
use Rattle.journal.specs.SetupView.{SetupView}
use Rattle.parcel.specs.CoreResultView.{CoreResultView}
use Rattle.parcel.specs.Results.{IsResult, AreResults}
use Rattle.parcel.specs.Windows.{window_count}
use Rattle.payload_store.specs.StoreView.{StoreView}
use Rattle.gate_ports.specs.GatePortsView.{GatePortsView}
use Rattle.core_loop.specs.CoreView.{CoreView, windows_of}
use Rattle.core_loop.specs.WorldState.{CoreStands}
use Rattle.core_loop.specs.TallyView.{TallyView, added}
use Rattle.core_loop.specs.Turns.{own_visit_count}
use Rattle.core_loop.proofs.Tallying.{IsCounted, counted-more}
use Rattle.workers.specs.declared.place.Place.{Place}
use Rattle.workers.specs.declared.place.Place.TheVariants.{Here, There}
use Rattle.workers.specs.declared.ran.Ran.{Ran}
use Rattle.workers.specs.declared.station.Station.{Station}
use Rattle.core_loop.specs.Stocked.{AreBytesIn}
use Rattle.workers.specs.Places.{IsPlaceOf, IsHere, IsDoneHere, HasEndedAt, IsEndedAt, AreEnded, IsRanAt}
use Rattle.workers.specs.Ran.{results_of, HaveCarriedAll}
use Rattle.workers.specs.Starting.{IsAtStart, AreAtStart}
use Rattle.workers.proofs.Zipped.{zip-at, All-at, map-at}

-- ---- one core

-- the place of a core that was at its start, when the core is here and done
ended-at : (S : SetupView) (stores : List StoreView) (core : ℕ) (given : Station) (place : Place) → IsAtStart S stores core given.core
    → IsPlaceOf given place → IsHere place → IsDoneHere place → IsEndedAt S core place
ended-at S stores core given (Here station) start is here done = record {
  setup = is.setup ∙ start.setup;
  number = is.number ∙ start.number;
  done = done.0;
  works = done.1;
}
ended-at S stores core given (There handle) start is here done = elim here [ ]

-- it stands for the bytes in the stores
stands-at : (S : SetupView) (stores : List StoreView) (core : ℕ) (given station : Station) → IsAtStart S stores core given.core
    → IsPlaceOf given (Here station) → station.core.failed ≡ false
    → (bytes : List (List ℕ)) → AreBytesIn S stores bytes → CoreStands bytes station.core
stands-at S stores core given station start is works bytes are =
    ⊎_elim (λ f. cc) (λ s. s) (is.stands bytes (start.stands bytes are))

-- its result is that of the journal
result-at : (S : SetupView) (stores : List StoreView) (core : ℕ) (given : Station) (place : Place) (ran : Ran) → IsAtStart S stores core given.core
    → IsPlaceOf given place → IsDoneHere place → IsRanAt place ran
    → (bytes : List (List ℕ)) → AreBytesIn S stores bytes → IsResult S bytes core ran.result
result-at S stores core given (Here station) ran start is done has bytes are =
    subst (λ (k : ℕ). IsResult S bytes k ran.result) (is.number ∙ start.number)
    (subst (λ (T : SetupView). IsResult T bytes station.core.number ran.result) (is.setup ∙ start.setup)
    (has.result bytes (stands-at S stores core given station start is done.1 bytes are)))
result-at S stores core given (There handle) ran start is done has bytes are = elim has [ ]

-- its ports have carried all parcels
ports-at : (S : SetupView) (core : ℕ) (place : Place) (ran : Ran) → IsEndedAt S core place → IsRanAt place ran → HaveCarriedAll S core ran.ports
ports-at S core (Here station) ran ended has = subst (λ (p : GatePortsView). HaveCarriedAll S core p) (sym has.ports) record {
  setup = station.stand.same_setup ∙ ended.setup;
  core_is = station.stand.same_core ∙ ended.number;
  posted = λ other within differs. (let o = is_other other within differs in
      station.stand.posts other o ∙ ended.done.trades.posts other o ∙ all_windows);
  taken = λ other within differs. (let o = is_other other within differs in
      station.stand.takes other o ∙ ended.done.trades.takes other o ∙ all_windows);
}
  where
    is_other : (other : ℕ) → other < S.cores → other ≢ core → (other < station.core.setup.cores) × (other ≢ station.core.number)
    is_other other within differs = (
      subst (λ (T : SetupView). other < T.cores) (sym ended.setup) within,
      (λ e. differs (e ∙ ended.number)),
    )

    all_windows : windows_of station.core + 1 ≡ window_count S + 1
    all_windows = ap (λ (n : ℕ). n + 1) (ended.done.windows ∙ ap window_count ended.setup)
ports-at S core (There handle) ran ended has = elim ended [ ]

-- it counts in the tally
pub one-counted : (S : SetupView) (before : TallyView) (many : ℕ) (now next : TallyView) (c : CoreView) → HasEndedAt S many c
    → IsCounted S before many now → next ≡ added now 1 (window_count c.setup) (own_visit_count c.setup c.number)
    → IsCounted S before (many + 1) next
one-counted S before many now next c ended counted more =
    inr (counted-more S before many now next counted
    (more
    ∙ ap (λ (T : SetupView). added now 1 (window_count T) (own_visit_count T c.number)) ended.setup
    ∙ ap (λ (k : ℕ). added now 1 (window_count S) (own_visit_count S k)) ended.number))

-- ---- all cores, in core order

pub all-ended : (S : SetupView) (stores : List StoreView) (all : List Station) (places : List Place) → AreAtStart S stores S.cores all
    → AllZip IsPlaceOf all places → All IsHere places → All IsDoneHere places → AreEnded S places
all-ended S stores all places start are here done = record {
  count = AllZip-long IsPlaceOf all places are ∙ start.count;
  each = λ core place e. (let g = zip-at IsPlaceOf all places core place are e in
      ended-at S stores core g.0 place (start.each core g.0 g.1) g.2 (All-at IsHere places core place here e) (All-at IsDoneHere places core place done e));
}

pub all-results : {S : SetupView} {stores : List StoreView} {all : List Station} (places : List Place) (rans : List Ran)
    → AreAtStart S stores S.cores all → AllZip IsPlaceOf all places → All IsDoneHere places → AllZip IsRanAt places rans
    → (bytes : List (List ℕ)) → AreBytesIn S stores bytes → AreResults S bytes (results_of rans)
all-results {S} {stores} {all} places rans start are done have bytes bytes_are = record {
  one_a_core = length-map rans (λ (r : Ran). r.result) ∙ AllZip-long IsRanAt places rans have ∙ AllZip-long IsPlaceOf all places are ∙ start.count;
  each = λ core result e. (let r = map-at (λ (r : Ran). r.result) rans core result e in
      let p = zip-at IsRanAt places rans core r.0 have r.1 in
      let g = zip-at IsPlaceOf all places core p.0 are p.1 in
      subst (λ (v : CoreResultView). IsResult S bytes core v) r.2
      (result-at S stores core g.0 p.0 r.0 (start.each core g.0 g.1) g.2 (All-at IsDoneHere places core p.0 done p.1) p.2 bytes bytes_are));
}

pub all-ports : (S : SetupView) (places : List Place) (rans : List Ran) → AreEnded S places → AllZip IsRanAt places rans
    → (core : ℕ) (ran : Ran) → slice_get rans core ≡ Some ran → HaveCarriedAll S core ran.ports
all-ports S places rans ended have core ran e =
    let p = zip-at IsRanAt places rans core ran have e in ports-at S core p.0 ran (ended.each core p.0 p.1) p.2
