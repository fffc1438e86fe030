-- What windows and rounds that follow one another come to.
use Rattle.std.proofs.Common.{◌≡◌, ◌≢◌, ◌⊎◌, inl, inr, ◌<◌, ◌≤◌, true, false, sym, ap, ◌∙◌, arith}
use Rattle.std.proofs.lemmas.Bool.{cases_eq}
use Rattle.parcel.specs.Windows.{window_count}
use Rattle.core_loop.specs.declared.turn.Turn.{Turn}
use Rattle.core_loop.specs.declared.turn.Turn.TheVariants.{Moved, Waiting, Done, NoMemory}
use Rattle.core_loop.specs.CoreView.{CoreView, windows_of}
use Rattle.core_loop.specs.Turns.{NoCountFalls, HasTradedAll, MayFail}
use Rattle.core_loop.specs.Turns.MayFail.{before, takes, windows, begins}
use Rattle.core_loop.specs.Trading.{SameTrades, TurnComesTo}
use Rattle.core_loop.proofs.Rounds.{other-before}

module _ (c d : CoreView) (same : SameTrades c d) where
  -- a window that was to be run may find no memory, whether its number rises or not
  pub window-fails : HasTradedAll c → windows_of c < window_count c.setup → windows_of c ≤ windows_of d → MayFail c d
  window-fails t less up = go (cases_eq (windows_of c) (windows_of d))
    where
      go : (windows_of c ≡ windows_of d) ⊎ (windows_of c ≢ windows_of d) → MayFail c d
      go (inl e) = begins
          (let count : window_count d.setup ≡ window_count c.setup = ap window_count same.setup in omega (arith, less, e, count))
          (record {
            posts = λ other is. (let a = t.posts other (other-before c d same.setup same.number other is) in
                let b = same.posts other in
                omega arith);
            takes = λ other is. (let a = t.takes other (other-before c d same.setup same.number other is) in
                let b = same.takes other in
                omega arith);
          })
      go (inr ne) = windows (omega arith)

-- what may fail later may fail
pub fails-later : (c m d : CoreView) → NoCountFalls c m → m.failed ≡ false → MayFail m d → MayFail c d
fails-later c m d r works (before f) = absurd (let e : true ≡ false = sym f ∙ works in cc)
fails-later c m d r works (takes other is more) =
    takes other (other-before c m r.setup r.number other is) (let x = r.takes other in omega arith)
fails-later c m d r works (windows more) = windows (let x = r.windows in omega arith)
fails-later c m d r works (begins less t) = begins less t

-- so a turn that answers want of memory may do so
pub ends-may_fail : (c m d : CoreView) → NoCountFalls c m → m.failed ≡ false → (r : Turn) → TurnComesTo m r d → r ≡ NoMemory → MayFail c d
ends-may_fail c m d up works Moved t e = absurd (let q : ⊥ = cc in q)
ends-may_fail c m d up works (Waiting on) t e = absurd t
ends-may_fail c m d up works Done t e = absurd (let q : ⊥ = cc in q)
ends-may_fail c m d up works NoMemory t e = fails-later c m d up works t.0
