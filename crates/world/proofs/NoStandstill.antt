-- A world doesn't stand still: where each core is done, or waits at ports that refuse, all are done.
use Rattle.std.proofs.Common.{◌≡◌, ◌≢◌, ◌⊎◌, inl, inr, ⊎_elim, ℕ, zero, suc, ◌+◌, ◌<◌, ◌≤◌, false, List, length, get_or, Some, refl, sym, ap, ◌∙◌, subst, arith}
use Rattle.std.specs.Prelude.{slice_get}
use Rattle.std.proofs.lemmas.Bool.{cases_lt}
use Rattle.std.proofs.lemmas.Option.{slice_get_within, slice_get-get_or}
use Rattle.parcel.specs.Windows.{window_count}
use Rattle.parcel.specs.PlainBoxesView.{BoxView, box_at, HasParcel, HasNoParcel}
use Rattle.core_loop.specs.declared.turn.PortName.{PortName}
use Rattle.core_loop.specs.declared.turn.PortName.TheVariants.{Post, Take}
use Rattle.core_loop.specs.CoreView.{CoreView, windows_of, posted_of, taken_of, IsOtherCore}
use Rattle.core_loop.specs.WorldState.{IsNumber, IsInStep}
use Rattle.core_loop.specs.Turns.{OwesPost, OwesTake, Owes, IsCoreDone}
use Rattle.world.specs.WorldView.{WorldView, IsWorld, IsCoreOf}

-- a core waits: each box to which it owes a post is full, and each from which it owes a take is empty
pub record IsWaiting (w : WorldView) (core : ℕ) (c : CoreView) : Type 0 where
  pub on : PortName
  pub owes : Owes c on
  pub posts : (other : ℕ) → OwesPost c other → HasParcel (box_at w.boxes core other)
  pub takes : (other : ℕ) → OwesTake c other → HasNoParcel (box_at w.boxes other core)

module _ (w : WorldView) (is : IsWorld w) (works : w.failed ≡ false)
    (each : (core : ℕ) (c : CoreView) → IsCoreOf w core c → IsCoreDone c ⊎ IsWaiting w core c) where
  -- the core of a number
  core-of : (core : ℕ) → core < w.setup.cores → CoreView → (c : CoreView) × IsCoreOf w core c
  core-of core l d = (get_or w.cores core d, slice_get-get_or w.cores core d (let n = is.one_a_core in omega (arith, l, n)))

  below : (core : ℕ) (c : CoreView) → IsCoreOf w core c → core < w.setup.cores
  below core c here = let l = slice_get_within w.cores core c here in let n = is.one_a_core in omega (arith, l, n)

  -- two cores, each another one for the other
  other-way : (i j : ℕ) (c d : CoreView) → IsCoreOf w i c → IsCoreOf w j d → IsOtherCore c j → IsOtherCore d i
  other-way i j c d here there o = (
    (let l = below i c here in let e = ap (λ S. S.cores) (is.setups j d there) in omega (arith, l, e)),
    λ same. o.1 (sym (is.numbers j d there) ∙ sym same ∙ sym (is.numbers i c here)),
  )

  -- no core waits that has run no more windows than the others
  waits-not : (i n : ℕ) (c : CoreView) → IsCoreOf w i c → windows_of c ≡ n → IsWaiting w i c
      → ((j : ℕ) (d : CoreView) → IsCoreOf w j d → n ≤ windows_of d) → ⊥
  waits-not i n c here at waits least = go waits.on waits.owes
    where
      other : (j : ℕ) → IsOtherCore c j → (d : CoreView) × IsCoreOf w j d
      other j o = core-of j (let l : j < c.setup.cores = o.0 in let e = ap (λ S. S.cores) (is.setups i c here) in omega (arith, l, e)) c

      go : (on : PortName) → Owes c on → ⊥
      go (Post j) o = number (step.taken i (other-way i j c d.0 here d.1 o.0))
        where
          d : (d : CoreView) × IsCoreOf w j d
          d = other j o.0

          step : IsInStep d.0
          step = is.in_step works j d.0 d.1

          number : IsNumber (windows_of d.0) (taken_of d.0 i) → ⊥
          number m =
              let full : (box_at w.boxes i j).posted ≡ (box_at w.boxes i j).taken + 1 = waits.posts j o in
              let posted : (box_at w.boxes i j).posted ≡ posted_of c j = is.posts i c here j o.0 in
              let taken : (box_at w.boxes i j).taken ≡ taken_of d.0 i = is.takes j d.0 d.1 i (other-way i j c d.0 here d.1 o.0) in
              let owed : posted_of c j ≡ windows_of c = o.1 in
              let l : n ≤ windows_of d.0 = least j d.0 d.1 in
              ⊎_elim (λ e. omega (arith, full, posted, taken, owed, l, at, e)) (λ e. omega (arith, full, posted, taken, owed, l, at, e)) m
      go (Take j) o = number (step.posted i (other-way i j c d.0 here d.1 o.0))
        where
          d : (d : CoreView) × IsCoreOf w j d
          d = other j o.0

          step : IsInStep d.0
          step = is.in_step works j d.0 d.1

          empty : (box_at w.boxes j i).posted ≡ (box_at w.boxes j i).taken
          empty = waits.takes j o

          posted : (box_at w.boxes j i).posted ≡ posted_of d.0 i
          posted = is.posts j d.0 d.1 i (other-way i j c d.0 here d.1 o.0)

          taken : (box_at w.boxes j i).taken ≡ taken_of c j
          taken = is.takes i c here j o.0

          owed : taken_of c j ≡ windows_of c
          owed = o.1

          l : n ≤ windows_of d.0
          l = least j d.0 d.1

          number : IsNumber (windows_of d.0) (posted_of d.0 i) → ⊥
          number (inr e) = omega (arith, empty, posted, taken, owed, l, at, e)
          number (inl e) = split (each j d.0 d.1)
            where
              split : IsCoreDone d.0 ⊎ IsWaiting w j d.0 → ⊥
              split (inl done) =
                  let all : posted_of d.0 i ≡ windows_of d.0 + 1 = done.trades.posts i (other-way i j c d.0 here d.1 o.0) in
                  omega (arith, all, e)
              split (inr wait) =
                  let full : (box_at w.boxes j i).posted ≡ (box_at w.boxes j i).taken + 1 =
                  wait.posts i (other-way i j c d.0 here d.1 o.0, e) in
                  omega (arith, full, empty)

  -- so, windows by windows, none waits
  none-below : (n i : ℕ) (c : CoreView) → IsCoreOf w i c → windows_of c < n → IsWaiting w i c → ⊥
  none-below zero i c here l waits = omega (arith, l)
  none-below (suc n) i c here l waits =
      waits-not i (windows_of c) c here refl waits (λ j d there. least j d there (λ m. none-below n j d there m))
    where
      least : (j : ℕ) (d : CoreView) → IsCoreOf w j d → (windows_of d < n → IsWaiting w j d → ⊥) → windows_of c ≤ windows_of d
      least j d there never = go (cases_lt (windows_of d) (windows_of c)) (each j d there)
        where
          go : (windows_of d < windows_of c) ⊎ (windows_of c ≤ windows_of d) → IsCoreDone d ⊎ IsWaiting w j d → windows_of c ≤ windows_of d
          go (inr m) e = m
          go (inl m) (inr wait) = absurd (never (omega (arith, l, m)) wait)
          go (inl m) (inl done) =
              let most : windows_of c ≤ window_count c.setup = (is.in_step works i c here).within in
              let all : windows_of d ≡ window_count d.setup = done.windows in
              let same : window_count c.setup ≡ window_count d.setup = ap window_count (is.setups i c here ∙ sym (is.setups j d there)) in
              omega (arith, most, all, same)

  pub no-standstill : (core : ℕ) (c : CoreView) → IsCoreOf w core c → IsCoreDone c
  no-standstill core c here =
      ⊎_elim (λ done. done) (λ waits. absurd (none-below (windows_of c + 1) core c here (omega arith) waits)) (each core c here)
