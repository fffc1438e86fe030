-- The end of a window, and the number of the next one, fit 64 bits.
use Rattle.std.proofs.Common.{◌≡◌, ℕ, ◌+◌, ◌*◌, ◌^◌, ◌<◌, ◌≤◌, List, [], ◌∷◌, min, arith}
use Rattle.std.specs.List.{fold}
use Rattle.std.proofs.Math.Nat.{mul-le-mul_left}
use Rattle.mn_base.specs.declared.limits.TheConstants.{LOOKAHEAD_MAX, TIME_NS_END}
use Rattle.mn_base.specs.Ranges.{IsTickLength}
use Rattle.journal.specs.SetupView.{SetupView}
use Rattle.journal.specs.IsSetup.{IsSetup}
use Rattle.journal.specs.Hops.{due_of}
use Rattle.journal.specs.Journal.{journal_of}
use Rattle.journal.proofs.Meets.{journal-grows}
use Rattle.journal.proofs.Times.{due_fits}
use Rattle.parcel.specs.Lookahead.{lookahead_of, crossing_latencies}
use Rattle.parcel.specs.Windows.{window_count}
use Rattle.parcel.specs.Laws.{Starts}
use Rattle.parcel.proofs.FewWindows.{windows_are_few}
use Rattle.parcel.proofs.WindowLaws.{starts-visit, starts-counted}

fold-min-least : (a : ℕ) (xs : List ℕ) → fold min a xs ≤ a
fold-min-least a [] = omega arith
fold-min-least a (x ∷ xs) = let l : fold min (min a x) xs ≤ min a x = fold-min-least (min a x) xs in omega (arith, l)

lookahead-most : (S : SetupView) → lookahead_of S ≤ LOOKAHEAD_MAX
unfolding lookahead_of
lookahead-most S = fold-min-least LOOKAHEAD_MAX (crossing_latencies S)

module _ (S : SetupView) (is : IsSetup S) (number start : ℕ) (starts : Starts S number start) where
  pub end-fits : start + lookahead_of S < 2 ^ 64
  end-fits =
      let v = starts-visit S number start starts in
      let tick : v.0.tick ≡ start = v.2 in
      let time : v.0.tick * S.tick_ns < TIME_NS_END =
      due_fits S is (journal_of S) (journal-grows S is) (due_of v.0) ((journal-grows S is).sound v.0 v.1) in
      let length : IsTickLength S.tick_ns = is.tick in
      let one : 1 ≤ S.tick_ns = omega (arith, length.0) in
      let most : v.0.tick * 1 ≤ v.0.tick * S.tick_ns = mul-le-mul_left v.0.tick one in
      omega (arith, tick, time, most, lookahead-most S)

  pub number-few : number < 2 ^ 28
  number-few =
      let counted : number < window_count S = starts-counted S number start starts in
      omega (arith, counted, (windows_are_few S is).windows, (windows_are_few S is).visits)
