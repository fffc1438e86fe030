-- The windows of a setup: each visit is in one, and each starts at the least tick after the one before it.
use Rattle.std.proofs.Common.{◌≡◌, ◌⊎◌, inl, inr, ℕ, ◌+◌, ◌<◌, ◌≤◌, List, [], ◌∷◌, length, Some, refl, sym, ap, ◌∙◌, subst, arith}
use Rattle.std.proofs.lemmas.Bool.{cases_lt, cases_order}
use Rattle.std.proofs.lemmas.Option.{slice_get_within, slice_get-get_or}
use Rattle.mn_base.specs.Among.{Among}
use Rattle.pipe.specs.Scheme.{Rises}
use Rattle.journal.specs.declared.visit.Visit.{Visit}
use Rattle.journal.specs.SetupView.{SetupView}
use Rattle.journal.specs.IsSetup.{IsSetup}
use Rattle.journal.specs.Hops.{due_of}
use Rattle.journal.specs.IsJournal.{scheme_of}
use Rattle.journal.specs.Journal.{journal_of}
use Rattle.parcel.specs.Lookahead.{lookahead_of}
use Rattle.parcel.specs.Windows.{window_starts, window_count, window_of}
use Rattle.parcel.specs.Laws.{Starts, IsInWindow, WindowsHold}
use Rattle.pipe.proofs.CanonicalOrder.{before-tick}
use Rattle.journal.proofs.Meets.{meets}
use Rattle.parcel.proofs.Lookaheads.{least_is_lookahead}
use Rattle.parcel.proofs.Starts.{AreSpaced, ended, TicksRise, starts-spaced, start-apart, ended-in, ended-past, ended-rises, covered, start-visit}

pub ticks-rise : (S : SetupView) (J : List Visit) → Rises (scheme_of S) J → TicksRise J
ticks-rise S [] r = tt
ticks-rise S (v ∷ J) r = (λ w a. before-tick (due_of v) (due_of w) (r.0 w a), ticks-rise S J r.1)

-- the window of a tick counts the windows that have ended by then
pub window-is : (S : SetupView) (tick : ℕ) → window_of S tick ≡ ended (lookahead_of S) tick (window_starts S)
unfolding window_of
window-is S tick = refl

pub count-is : (S : SetupView) → window_count S ≡ length (window_starts S)
unfolding window_count
count-is S = refl

module _ (S : SetupView) where
  len : ℕ
  len = lookahead_of S

  spaced : AreSpaced (lookahead_of S) 0 (window_starts S)
  spaced = starts-spaced (lookahead_of S) 0 (journal_of S)

  -- a later window has a later tick
  pub window-rises : (t u : ℕ) → t ≤ u → window_of S t ≤ window_of S u
  window-rises t u l =
      let a : window_of S t ≡ ended (lookahead_of S) t (window_starts S) = window-is S t in
      let b : window_of S u ≡ ended (lookahead_of S) u (window_starts S) = window-is S u in
      let r : ended (lookahead_of S) t (window_starts S) ≤ ended (lookahead_of S) u (window_starts S) = ended-rises (lookahead_of S) t u (window_starts S) l in
      omega (arith, a, b, r)

  -- starts are numbered as windows are
  pub window-in : (number tick : ℕ) → IsInWindow S number tick → window_of S tick ≡ number
  window-in number tick i =
      window-is S tick ∙ ended-in (lookahead_of S) tick 0 (window_starts S) number i.start spaced i.starts i.low i.high

  -- from the end of a window on only later windows come
  pub window-past : (number start tick : ℕ) → Starts S number start → start + lookahead_of S ≤ tick → number < window_of S tick
  window-past number start tick s l =
      let a : window_of S tick ≡ ended (lookahead_of S) tick (window_starts S) = window-is S tick in
      let r : number + 1 ≤ ended (lookahead_of S) tick (window_starts S) =
      ended-past (lookahead_of S) tick 0 (window_starts S) number start spaced s l in
      omega (arith, a, r)

  -- of two starts the one with the greater number is at the other's end or later
  pub starts-apart : (m n s t : ℕ) → Starts S m s → Starts S n t → m < n → s + lookahead_of S ≤ t
  starts-apart m n s t a b l = start-apart (lookahead_of S) 0 (window_starts S) m n s t spaced a b l

  pub starts-counted : (number start : ℕ) → Starts S number start → number < window_count S
  starts-counted number start s =
      let e : window_count S ≡ length (window_starts S) = count-is S in
      let l : number < length (window_starts S) = slice_get_within (window_starts S) number start s in
      omega (arith, e, l)

  pub counted-starts : (number : ℕ) → number < window_count S → (start : ℕ) × Starts S number start
  counted-starts number l =
      let e : window_count S ≡ length (window_starts S) = count-is S in
      (_, slice_get-get_or (window_starts S) number 0 (omega (arith, e, l)))

  -- a window starts with a visit
  pub starts-visit : (number start : ℕ) → Starts S number start → (v : Visit) × Among v (journal_of S) × (v.tick ≡ start)
  starts-visit number start s = start-visit (lookahead_of S) 0 (journal_of S) number start s

  pub lookahead-positive : 1 ≤ lookahead_of S
  lookahead-positive = (least_is_lookahead S).positive

  pub starts-window : (number start : ℕ) → Starts S number start → window_of S start ≡ number
  starts-window number start s =
      let l : 1 ≤ lookahead_of S = lookahead-positive in
      window-in number start (record { start = start; starts = s; low = omega arith; high = omega (arith, l) })

module _ (S : SetupView) (is : IsSetup S) where
  pub in-window : (v : Visit) → Among v (journal_of S) → IsInWindow S (window_of S v.tick) v.tick
  in-window v a =
      let c =
      covered (lookahead_of S) (lookahead-positive S) 0 (journal_of S) (ticks-rise S (journal_of S) (meets S is).rises) v a (omega arith) in
      let i : IsInWindow S c.number v.tick = record { start = c.start; starts = c.at; low = c.low; high = c.high } in
      subst (λ (n : ℕ). IsInWindow S n v.tick) (sym (window-in S c.number v.tick i)) i

  -- a visit that is later by the lookahead is in a later window
  pub window-behind : (u : Visit) (tick : ℕ) → Among u (journal_of S) → u.tick + lookahead_of S ≤ tick
      → window_of S u.tick < window_of S tick
  window-behind u tick a l =
      let i = in-window u a in
      let low : i.start ≤ u.tick = i.low in
      window-past S (window_of S u.tick) i.start tick i.starts (omega (arith, low, l))

  -- a visit in this window or a later one isn't before its start
  pub window-late : (number start : ℕ) (v : Visit) → Starts S number start → Among v (journal_of S) → number ≤ window_of S v.tick
      → start ≤ v.tick
  window-late number start v s a l = go (cases_lt v.tick start)
    where
      i : IsInWindow S (window_of S v.tick) v.tick
      i = in-window v a

      go : (v.tick < start) ⊎ (start ≤ v.tick) → start ≤ v.tick
      go (inr late) = late
      go (inl early) = split (cases_order number (window_of S v.tick))
        where
          split : (number ≡ window_of S v.tick) ⊎ ((number < window_of S v.tick) ⊎ (window_of S v.tick < number)) → start ≤ v.tick
          split (inl e) =
              let here : Starts S number i.start = subst (λ (n : ℕ). Starts S n i.start) (sym e) i.starts in
              let both : Some start ≡ Some i.start = sym s ∙ here in
              let same : start ≡ i.start = cc in
              let low : i.start ≤ v.tick = i.low in
              omega (arith, same, low)
          split (inr (inl m)) =
              let after : start + lookahead_of S ≤ i.start = starts-apart S number (window_of S v.tick) start i.start s i.starts m in
              let low : i.start ≤ v.tick = i.low in
              omega (arith, after, low)
          split (inr (inr m)) = absurd (omega (arith, l, m))

  -- and one that is before the start of a window is in an earlier one
  pub window-early : (number start : ℕ) (v : Visit) → Starts S number start → Among v (journal_of S) → v.tick < start
      → window_of S v.tick < number
  window-early number start v s a l = go (cases_lt (window_of S v.tick) number)
    where
      go : (window_of S v.tick < number) ⊎ (number ≤ window_of S v.tick) → window_of S v.tick < number
      go (inl m) = m
      go (inr m) = let late : start ≤ v.tick = window-late number start v s a m in absurd (omega (arith, late, l))

  pub windows_hold : WindowsHold S
  windows_hold = record {
    first = λ start s. record {
      late = omega arith;
      visited = starts-visit S 0 start s;
      least = λ v a l. window-late 0 start v s a (omega arith);
    };
    next = λ number start behind s t. record {
      late = starts-apart S number (number + 1) start behind s t (omega arith);
      visited = starts-visit S (number + 1) behind t;
      least = λ v a l. (let past : number < window_of S v.tick = window-past S number start v.tick s l in
          window-late (number + 1) behind v t a (omega (arith, past)));
    };
    visit = in-window;
    one = λ v number a i. sym (window-in S number v.tick i);
    counted = λ v a. (let i = in-window v a in starts-counted S (window_of S v.tick) i.start i.starts);
    window = each;
  }
    where
      each : (number : ℕ) → number < window_count S → (v : Visit) × Among v (journal_of S) × (window_of S v.tick ≡ number)
      each number l =
          let s = counted-starts S number l in
          let v = starts-visit S number s.0 s.1 in
          (v.0, v.1, ap (window_of S) v.2 ∙ starts-window S number s.0 s.1)
