-- The posts and takes of a round, one by one and together, and what a round comes to.
use Rattle.std.specs.Prelude.{◌≡◌, ◌≢◌, ◌↔◌, ℕ, ◌+◌, ◌<◌, ◌≤◌, Bool, true, false, ◌||◌, Option, Some, None, unwrap_or, slice_set}
use Rattle.parcel.specs.Windows.{window_count}
use Rattle.parcel.specs.Laws.{Starts}
use Rattle.core_loop.specs.declared.round.Round.{Round}
use Rattle.core_loop.specs.declared.round.Round.TheVariants.{Complete, Owing, NoMemory}
use Rattle.core_loop.specs.declared.round.Sweep.{Sweep}
use Rattle.core_loop.specs.declared.round.Trade.{Trade}
use Rattle.core_loop.specs.declared.round.Trade.TheVariants.{Past, Made, Refused}
use Rattle.core_loop.specs.declared.turn.PortName.TheVariants.{Post, Take}
use Rattle.core_loop.specs.declared.turn.Turn.{Turn}
use Rattle.core_loop.specs.declared.turn.Turn.TheVariants as turn
use Rattle.core_loop.specs.CoreView.{CoreView, windows_of, peer_at, posted_of, taken_of, IsOtherCore}
use Rattle.core_loop.specs.Turns.{NoCountFalls, HasMoved, StillStands, Owes, HasTradedAll, IsCoreDone, HasEnded, RefusedBetween, MayFail}

-- ---- one post, one take, one window

-- the parcel that was owed is posted
abbrev pub posted_once : CoreView → ℕ → CoreView
posted_once c other = record c {
  peers = slice_set c.peers other (record (peer_at c other) { posted = (peer_at c other).posted + 1; owed = None });
}

-- the parcel of a core is taken, and no other
pub record TakesIn (c : CoreView) (other : ℕ) (d : CoreView) : Type 0 where
  pub setup : d.setup ≡ c.setup
  pub number : d.number ≡ c.number
  pub windows : windows_of d ≡ windows_of c
  pub posts : (core : ℕ) → posted_of d core ≡ posted_of c core
  pub taken : taken_of d other ≡ taken_of c other + 1
  pub others : (core : ℕ) → core ≢ other → taken_of d core ≡ taken_of c core

-- parcels are taken, and nothing else is done
pub record OnlyTakes (c d : CoreView) : Type 0 where
  pub setup : d.setup ≡ c.setup
  pub number : d.number ≡ c.number
  pub windows : windows_of d ≡ windows_of c
  pub posts : (core : ℕ) → posted_of d core ≡ posted_of c core
  pub takes : (core : ℕ) → taken_of c core ≤ taken_of d core

-- nothing is posted or taken
pub record SameTrades (c d : CoreView) : Type 0 where
  pub setup : d.setup ≡ c.setup
  pub number : d.number ≡ c.number
  pub posts : (core : ℕ) → posted_of d core ≡ posted_of c core
  pub takes : (core : ℕ) → taken_of d core ≡ taken_of c core

-- ---- all posts, or all takes, of a round

-- no window is run, and a core that worked works on
pub record Trades (c d : CoreView) : Type 0 where
  pub rises : NoCountFalls c d
  pub windows : windows_of d ≡ windows_of c
  pub stands : StillStands c d
  pub works : d.failed ≡ false

-- one that was owed is owed no longer, and what else is owed was owed before
pub record MakesOne (OwesOne : CoreView → ℕ → Type 0) (c : CoreView) (other : ℕ) (d : CoreView) : Type 0 where
  pub owed : OwesOne c other
  pub moved : HasMoved c d
  pub trades : Trades c d
  pub made : OwesOne d other → ⊥
  pub others : (core : ℕ) → core ≢ other → OwesOne d core ↔ OwesOne c core

-- what comes of the post to a core, or of the take from it
abbrev pub TradeComesTo : {P : Type 0} → (P → ℕ → P → Type 0) → (CoreView → ℕ → Type 0) → P → CoreView → P → CoreView → ℕ → Trade → Type 0
TradeComesTo refuses OwesOne p c q d other Past = (d ≡ c) × (q ≡ p) × (OwesOne c other → ⊥)
TradeComesTo refuses OwesOne p c q d other Made = MakesOne OwesOne c other d
TradeComesTo refuses OwesOne p c q d other Refused = (d ≡ c) × OwesOne c other × refuses p other q

-- what a sweep says of the core before and after it
abbrev pub SaysMoved : Bool → CoreView → CoreView → Type 0
SaysMoved true c d = HasMoved c d
SaysMoved false c d = d ≡ c

-- the first that is still owed, if one is
abbrev pub IsOwed : (ℕ → Type 0) → Option ℕ → Type 0
IsOwed Is None = (other : ℕ) → Is other → ⊥
IsOwed Is (Some other) = Is other

-- after a sweep over the posts, or the takes, of the cores below `end`: what is still owed of them was refused
pub record Swept {P : Type 0} (keeps : P → P → Type 0) (refuses : P → ℕ → P → Type 0) (OwesOne : CoreView → ℕ → Type 0) (p : P)
    (c : CoreView) (q : P) (d : CoreView) (end : ℕ) (s : Sweep) : Type 0 where
  pub keeps_to : keeps p q
  pub trades : Trades c d
  pub says_moved : SaysMoved s.moved c d
  pub each : (other : ℕ) → other < end → OwesOne d other → RefusedBetween keeps refuses p other q
  pub first : IsOwed (λ other. (other < end) × OwesOne d other) s.refused

-- a sweep with one more post or take
abbrev pub and_trade : Sweep → Trade → ℕ → Sweep
and_trade s Past other = s
and_trade s Made other = record s { moved = true }
and_trade s Refused other = record s { refused = Some (unwrap_or s.refused other) }

-- ---- a round

-- what the posts that were refused, and then the takes, leave of a round
abbrev pub round_of : Option ℕ → Option ℕ → Bool → Round
round_of (Some other) takes moved = Owing (Post other) moved
round_of None (Some other) moved = Owing (Take other) moved
round_of None None moved = Complete

abbrev pub both_swept : Sweep → Sweep → Round
both_swept posts takes = round_of posts.refused takes.refused (posts.moved || takes.moved)

-- what a round comes to
abbrev pub RoundComesTo : CoreView → Round → CoreView → Type 0
RoundComesTo c Complete d = HasTradedAll d × (d.failed ≡ false)
RoundComesTo c (Owing on moved) d = Owes d on × SaysMoved moved c d × (d.failed ≡ false)
RoundComesTo c NoMemory d = (d.failed ≡ true) × ((other : ℕ) × IsOtherCore c other × (taken_of c other < taken_of d other))

-- what the windows and rounds that are gone on with come to
abbrev pub TurnComesTo : CoreView → Turn → CoreView → Type 0
TurnComesTo c turn.Moved d = HasMoved c d × (d.failed ≡ false) × (IsCoreDone d → ⊥)
TurnComesTo c (turn.Waiting on) d = ⊥
TurnComesTo c turn.Done d = IsCoreDone d × HasEnded d × (d.failed ≡ false)
TurnComesTo c turn.NoMemory d = MayFail c d × (d.failed ≡ true)

-- what the least of all least ticks says where all posts and takes of the round are made: the next window starts there, or the core
-- is done
abbrev pub LeastSays : CoreView → Option ℕ → Type 0
LeastSays c None = IsCoreDone c × HasEnded c
LeastSays c (Some start) = Starts c.setup (windows_of c) start × (windows_of c < window_count c.setup)

-- the least number with this property; none where no number has it
abbrev pub IsLeastBy : (ℕ → Type 0) → Option ℕ → Type 0
IsLeastBy P None = (t : ℕ) → P t → ⊥
IsLeastBy P (Some least) = P least × ((t : ℕ) → P t → least ≤ t)
