-- What is due at a core once it has taken one parcel more, and that no packet has two visits due there.
use Rattle.std.proofs.Common.{◌≡◌, ◌≢◌, ◌⊎◌, inl, inr, ℕ, ◌+◌, ◌<◌, ◌≤◌, sym, ap, ◌∙◌, subst, arith}
use Rattle.std.proofs.lemmas.Bool.{cases_eq, cases_order}
use Rattle.std.specs.Prelude.{◌↔◌}
use Rattle.journal.specs.declared.visit.Visit.{Visit}
use Rattle.journal.specs.SetupView.{SetupView}
use Rattle.journal.specs.IsSetup.{IsSetup}
use Rattle.journal.specs.IsJournal.{scheme_of}
use Rattle.journal.specs.Journal.{journal_of}
use Rattle.parcel.specs.Windows.{window_of}
use Rattle.parcel.specs.Known.{Origin, origin_of}
use Rattle.parcel.specs.Parcels.{IsArrival}
use Rattle.parcel.specs.DueAt.{WasTold, IsDueAt}
use Rattle.pipe.proofs.Growing.{one_visit}
use Rattle.journal.proofs.Orderly.{orderly}
use Rattle.journal.proofs.Meets.{journal-grows}
use Rattle.parcel.proofs.WindowLaws.{window-rises}
use Rattle.parcel.proofs.Origins.{IsPredecessor, Comes, comes, origin-next}
use Rattle.parcel.proofs.Notes.{hops-order, arrival-late}

-- one parcel more is taken of this core, and none of another
pub record TakesOne (old new : ℕ → ℕ) (sender : ℕ) : Type 0 where
  pub here : new sender ≡ old sender + 1
  pub others : (other : ℕ) → other ≢ sender → new other ≡ old other

module _ (S : SetupView) (is : IsSetup S) where
  due-taken : (core windows sender : ℕ) (old new : ℕ → ℕ) → TakesOne old new sender → old sender ≡ windows
      → (v : Visit) → IsDueAt S core windows new v → IsDueAt S core windows old v ⊎ IsArrival S sender core windows v
  due-taken core windows sender old new t at v d = go d.told
    where
      before : WasTold S core windows old v → IsDueAt S core windows old v ⊎ IsArrival S sender core windows v
      before told = inl (record { among = d.among; owner = d.owner; window = d.window; told = told })

      go : WasTold S core windows new v → IsDueAt S core windows old v ⊎ IsArrival S sender core windows v
      go (inl m) = before (inl m)
      go (inr m) = choose (cases_eq (origin_of S v).core sender)
        where
          less : (origin_of S v).number < new (origin_of S v).core
          less = m.1

          choose : ((origin_of S v).core ≡ sender) ⊎ ((origin_of S v).core ≢ sender)
              → IsDueAt S core windows old v ⊎ IsArrival S sender core windows v
          choose (inr other) =
              let same : new (origin_of S v).core ≡ old (origin_of S v).core = t.others (origin_of S v).core other in
              before (inr (m.0, omega (arith, same, less)))
          choose (inl e) = split (cases_eq (origin_of S v).number windows)
            where
              count : new (origin_of S v).core ≡ old (origin_of S v).core + 1
              count = subst (λ (c : ℕ). new c ≡ old c + 1) (sym e) t.here

              stood : old (origin_of S v).core ≡ windows
              stood = ap old e ∙ at

              split : ((origin_of S v).number ≡ windows) ⊎ ((origin_of S v).number ≢ windows)
                  → IsDueAt S core windows old v ⊎ IsArrival S sender core windows v
              split (inl n) = inr (record { among = d.among; owner = d.owner; from_core = e; from_number = n })
              split (inr n) = before (inr (m.0, omega (arith, count, stood, less, n)))

  taken-due : (core windows sender : ℕ) (old new : ℕ → ℕ) → TakesOne old new sender → sender ≢ core → old sender ≡ windows
      → (v : Visit) → IsDueAt S core windows old v ⊎ IsArrival S sender core windows v → IsDueAt S core windows new v
  taken-due core windows sender old new t other at v (inr i) =
      record { among = i.among; owner = i.owner; window = arrival-late S is sender core windows v other i; told = inr (away, late) }
    where
      away : (origin_of S v).core ≢ core
      away same = other (sym i.from_core ∙ same)

      late : (origin_of S v).number < new (origin_of S v).core
      late =
          let n : (origin_of S v).number ≡ windows = i.from_number in
          let count : new (origin_of S v).core ≡ old sender + 1 = ap new i.from_core ∙ t.here in
          omega (arith, n, count, at)
  taken-due core windows sender old new t other at v (inl d) =
      record { among = d.among; owner = d.owner; window = d.window; told = go d.told }
    where
      go : WasTold S core windows old v → WasTold S core windows new v
      go (inl m) = inl m
      go (inr m) = inr (m.0, choose (cases_eq (origin_of S v).core sender))
        where
          less : (origin_of S v).number < old (origin_of S v).core
          less = m.1

          choose : ((origin_of S v).core ≡ sender) ⊎ ((origin_of S v).core ≢ sender) → (origin_of S v).number < new (origin_of S v).core
          choose (inl e) =
              let count : new (origin_of S v).core ≡ old (origin_of S v).core + 1 =
              subst (λ (c : ℕ). new c ≡ old c + 1) (sym e) t.here in
              omega (arith, count, less)
          choose (inr n) =
              let same : new (origin_of S v).core ≡ old (origin_of S v).core = t.others (origin_of S v).core n in
              omega (arith, same, less)

  -- with a parcel its arrivals come to be due, and nothing else
  pub due-takes : (core windows sender : ℕ) (old new : ℕ → ℕ) → TakesOne old new sender → sender ≢ core → old sender ≡ windows
      → (v : Visit) → IsDueAt S core windows new v ↔ (IsDueAt S core windows old v ⊎ IsArrival S sender core windows v)
  due-takes core windows sender old new t other at v =
      (due-taken core windows sender old new t at v, taken-due core windows sender old new t other at v)

  -- what is due follows a visit of an earlier window
  due-behind : (core windows : ℕ) (taken : ℕ → ℕ) → ((other : ℕ) → other ≢ core → taken other ≤ windows + 1)
      → (u w : Visit) → IsPredecessor S u w → IsDueAt S core windows taken w → window_of S u.tick < windows
  due-behind core windows taken most u w i d = go d.told
    where
      number : (origin_of S w).number ≡ window_of S u.tick + 1
      number = ap (λ (x : Origin). x.number) (origin-next S is u w i)

      go : WasTold S core windows taken w → window_of S u.tick < windows
      go (inl m) = let l : (origin_of S w).number ≤ windows = m.1 in omega (arith, number, l)
      go (inr m) =
          let l : (origin_of S w).number < taken (origin_of S w).core = m.1 in
          let t : taken (origin_of S w).core ≤ windows + 1 = most (origin_of S w).core m.0 in
          omega (arith, number, l, t)

  -- of a packet one visit at most is due at a core
  pub one_due : (core windows : ℕ) (taken : ℕ → ℕ) → ((other : ℕ) → other ≢ core → taken other ≤ windows + 1)
      → (v w : Visit) → IsDueAt S core windows taken v → IsDueAt S core windows taken w → v.packet ≡ w.packet → v ≡ w
  one_due core windows taken most v w d e p = go (cases_order v.hop w.hop)
    where
      behind : (x y : Visit) → IsDueAt S core windows taken x → IsDueAt S core windows taken y → x.packet ≡ y.packet → x.hop < y.hop → ⊥
      behind x y a b q l = split (comes S is y b.among)
        where
          split : Comes S y → ⊥
          split (inl z) = omega (arith, z, l)
          split (inr u) =
              let hop : y.hop ≡ u.0.hop + 1 = u.1.hop in
              let early : x.tick ≤ u.0.tick = hops-order S is x u.0 a.among u.1.among (q ∙ sym u.1.packet) (omega (arith, l, hop)) in
              let rises : window_of S x.tick ≤ window_of S u.0.tick = window-rises S x.tick u.0.tick early in
              let past : window_of S u.0.tick < windows = due-behind core windows taken most u.0 y u.1 b in
              let late : windows ≤ window_of S x.tick = a.window in
              omega (arith, rises, past, late)

      go : (v.hop ≡ w.hop) ⊎ ((v.hop < w.hop) ⊎ (w.hop < v.hop)) → v ≡ w
      go (inl h) = one_visit (scheme_of S) (orderly S is) (journal_of S) (journal-grows S is) v w d.among e.among p h
      go (inr (inl l)) = absurd (behind v w d e p l)
      go (inr (inr l)) = absurd (behind w v e d (sym p) l)

  -- the packet of an arrival has no visit due there before
  pub arrival-fresh : (core windows sender : ℕ) (old : ℕ → ℕ) → ((other : ℕ) → other ≢ core → old other ≤ windows + 1)
      → sender ≢ core → old sender ≡ windows
      → (v w : Visit) → IsArrival S sender core windows v → IsDueAt S core windows old w → v.packet ≢ w.packet
  arrival-fresh core windows sender old most other at v w i d p = go (comes S is w d.among)
    where
      late : windows ≤ window_of S v.tick
      late = arrival-late S is sender core windows v other i

      number : (origin_of S v).number ≡ windows
      number = i.from_number

      -- the arrival itself isn't due yet
      not_due : v ≡ w → ⊥
      not_due same = clash (subst (λ (x : Visit). IsDueAt S core windows old x) (sym same) d).told
        where
          clash : WasTold S core windows old v → ⊥
          clash (inl m) = other (sym i.from_core ∙ m.0)
          clash (inr m) =
              let l : (origin_of S v).number < old (origin_of S v).core = m.1 in
              let e : old (origin_of S v).core ≡ windows = ap old i.from_core ∙ at in
              omega (arith, l, e, number)

      same_hop : v.hop ≡ w.hop → ⊥
      same_hop h = not_due (one_visit (scheme_of S) (orderly S is) (journal_of S) (journal-grows S is) v w i.among d.among p h)

      -- nor does w follow it
      before : v.hop < w.hop → Comes S w → ⊥
      before l (inl z) = omega (arith, z, l)
      before l (inr u) =
          let hop : w.hop ≡ u.0.hop + 1 = u.1.hop in
          let early : v.tick ≤ u.0.tick = hops-order S is v u.0 i.among u.1.among (p ∙ sym u.1.packet) (omega (arith, l, hop)) in
          let rises : window_of S v.tick ≤ window_of S u.0.tick = window-rises S v.tick u.0.tick early in
          let past : window_of S u.0.tick < windows = due-behind core windows old most u.0 w u.1 d in
          omega (arith, rises, past, late)

      -- nor it w: its predecessor is in the window before
      after : w.hop < v.hop → Comes S v → ⊥
      after l (inl z) = omega (arith, z, l)
      after l (inr u) =
          let hop : v.hop ≡ u.0.hop + 1 = u.1.hop in
          let early : w.tick ≤ u.0.tick = hops-order S is w u.0 d.among u.1.among (sym p ∙ sym u.1.packet) (omega (arith, l, hop)) in
          let rises : window_of S w.tick ≤ window_of S u.0.tick = window-rises S w.tick u.0.tick early in
          let count : (origin_of S v).number ≡ window_of S u.0.tick + 1 = ap (λ (x : Origin). x.number) (origin-next S is u.0 v u.1) in
          let there : windows ≤ window_of S w.tick = d.window in
          omega (arith, rises, count, number, there)

      go : Comes S w → ⊥
      go c = split (cases_order v.hop w.hop)
        where
          split : (v.hop ≡ w.hop) ⊎ ((v.hop < w.hop) ⊎ (w.hop < v.hop)) → ⊥
          split (inl h) = same_hop h
          split (inr (inl l)) = before l c
          split (inr (inr l)) = after l (comes S is v i.among)
