-- A pipe is carried: two cores of a list change.
use Rattle.std.proofs.Common.{◌≡◌, ◌≢◌, ℕ, ◌<◌, ◌==◌, List, length, Some, slice_get, slice_set, slice_index_or, length-set, sym, ◌∙◌, subst, arith}
use Rattle.std.proofs.lemmas.List.{get_or-set_other}
use Rattle.mn_base.specs.Among.{Among}
use Rattle.mn_base.specs.declared.due.Due.{Due}
use Rattle.journal.specs.SetupView.{SetupView}
use Rattle.journal.specs.Hops.{pipe_of}
use Rattle.deadline_heap.specs.Canonical.{HasNoneOf}
use Rattle.mn_base.proofs.Members.{Among-index, Among-from-filter}
use Rattle.migrate.specs.ShelvesView.{ShelfView}
use Rattle.migrate.specs.Moving.{LoadView, GivesPipe, CanReceive, ReceivesPipe, CarriesPipe}
use Rattle.migrate.proofs.ShelfSteps.{get-at, get-set-here, get-set-other}

-- the giver has handed out the pipe, and then the taker, another core, is read
pub record AreBetween (S : SetupView) (pipe giver taker : ℕ) (shelves : List ShelfView) (given : ShelfView) (load : LoadView)
    (t : ShelfView) : Type 0 where
  pub from : giver < length shelves
  pub to : taker < length shelves
  pub apart : giver ≢ taker
  pub was : ShelfView
  pub was_read : was ≡ slice_index_or shelves giver was
  pub gives : GivesPipe S pipe was load given
  pub taker_read : t ≡ slice_index_or (slice_set shelves giver given) taker t

module _ {S : SetupView} {pipe giver taker : ℕ} {shelves : List ShelfView} {given : ShelfView} {load : LoadView} {t : ShelfView}
    (b : AreBetween S pipe giver taker shelves given load t) where
  abbrev between : List ShelfView
  between = slice_set shelves giver given

  giver-at : slice_get shelves giver ≡ Some b.was
  giver-at = get-at shelves giver b.was b.from b.was_read

  taker-at : slice_get shelves taker ≡ Some t
  taker-at =
      get-at shelves taker t b.to (b.taker_read ∙ get_or-set_other shelves giver taker given t (λ e. b.apart (sym e)))

  -- the taker can take in what the giver hands out
  pub carry-can : ((s u : ShelfView) (x : Due) → slice_get shelves giver ≡ Some s → slice_get shelves taker ≡ Some u → Among x s.due
      → HasNoneOf x.packet u.due) → CanReceive load t
  carry-can alone = record { ticks = b.gives.parts.ticks; apart = b.gives.parts.apart; alone = each }
    where
      each : (k : ℕ) (d : Due) → k < length load.due → HasNoneOf (slice_index_or load.due k d).packet t.due
      each k d l =
          let x : Due = slice_index_or load.due k d in
          alone b.was t x giver-at taker-at
          (Among-from-filter (λ (y : Due). pipe_of S y == pipe) x b.was.due
          (subst (Among x) b.gives.parts.going_are (Among-index load.due k d l))).0

  -- and so the pipe is carried
  pub carried : {taken : ShelfView} → ReceivesPipe pipe load t taken
      → CarriesPipe S pipe giver taker shelves (slice_set (slice_set shelves giver given) taker taken)
  carried {taken} takes = record {
    as_many = length-set between taker taken ∙ length-set shelves giver given;
    others = λ core not other. get-set-other between taker core taken other ∙ get-set-other shelves giver core given not;
    load = load;
    gives = λ s u e f.
        (let one : Some s ≡ Some b.was = sym e ∙ giver-at in
        let two : Some u ≡ Some given =
        sym f ∙ get-set-other between taker giver taken b.apart ∙ get-set-here shelves giver given b.from in
        let was : b.was ≡ s = cc in
        let now : given ≡ u = cc in
        subst (λ (k : ShelfView). GivesPipe S pipe k load u) was (subst (GivesPipe S pipe b.was load) now b.gives));
    receives = λ s u e f.
        (let one : Some s ≡ Some t = sym e ∙ taker-at in
        let two : Some u ≡ Some taken =
        sym f ∙ get-set-here between taker taken (let l = length-set shelves giver given in let k = b.to in omega (arith, k, l)) in
        let was : t ≡ s = cc in
        let now : taken ≡ u = cc in
        subst (λ (k : ShelfView). ReceivesPipe pipe load k u) was (subst (ReceivesPipe pipe load t) now takes));
  }
