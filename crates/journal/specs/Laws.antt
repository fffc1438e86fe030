-- What holds of each setup.
use Rattle.std.specs.Prelude.{◌≡◌, ℕ, ◌+◌, ◌*◌, ◌<◌, ◌≤◌, List, [], ◌∷◌, ◌++◌, length, map, All, AllPairs, None}
use Rattle.mn_base.specs.Among.{Among}
use Rattle.mn_base.specs.Units.{latency_in_ticks}
use Rattle.mn_base.specs.Times.{output_time}
use Rattle.mn_base.specs.Ranges.{IsTickLength}
use Rattle.mn_base.specs.declared.limits.TheConstants.{ROUTE_PIPES_MAX, TIME_NS_END, ROUTE_DELAY_NS_END, RECORD_NS_END}
use Rattle.mn_base.specs.declared.due.Due.{Due}
use Rattle.pipe.specs.declared.step.Step.TheVariants.{Pass}
use Rattle.pipe.specs.Finishes.{PastVisit}
use Rattle.mn_base.specs.Canonical.{Before}
use Rattle.pipe.specs.Scheme.{IsGrowingBy}
use Rattle.journal.specs.declared.setup.PacketPlan.{PacketPlan}
use Rattle.journal.specs.declared.setup.LossBy.TheVariants.{Arrival}
use Rattle.journal.specs.declared.visit.Visit.{Visit}
use Rattle.journal.specs.declared.fate.Fate.TheVariants.{Left}
use Rattle.journal.specs.SetupView.{SetupView, route_of, len_of, params_of}
use Rattle.journal.specs.IsSetup.{longest_way}
use Rattle.journal.specs.Hops.{due_of, next_hop}
use Rattle.journal.specs.Steps.{step_of}
use Rattle.journal.specs.IsJournal.{IsJournal, scheme_of}
use Rattle.journal.specs.Journal.{hop_count, journal_of}
use Rattle.journal.specs.Fates.{fate_of_visit, fate_of}

-- there is at most one journal
abbrev pub HasOneJournal : SetupView → Type 0
HasOneJournal S = (J K : List Visit) → IsJournal S J → IsJournal S K → J ≡ K

-- it rises strictly by tick, then by packet number
abbrev pub VisitsRise : SetupView → Type 0
VisitsRise S = AllPairs (λ v w. Before (due_of v) (due_of w)) (journal_of S)

-- no packet visits a hop of its route twice
abbrev pub HopsDiffer : SetupView → Type 0
HopsDiffer S =
    (v w : Visit) → Among v (journal_of S) → Among w (journal_of S) → v.packet ≡ w.packet → v.hop ≡ w.hop
    → v ≡ w

-- a later hop of a packet stands at a later tick
abbrev pub HopsAreLater : SetupView → Type 0
HopsAreLater S =
    (v w : Visit) → Among v (journal_of S) → Among w (journal_of S) → v.packet ≡ w.packet → v.hop < w.hop
    → v.tick < w.tick

-- the next hop of a packet is later by at least the latency that the pipe has at the tick of the visit
abbrev pub HopsWait : SetupView → Type 0
HopsWait S =
    (v w : Visit) → Among v (journal_of S) → Among w (journal_of S) → v.packet ≡ w.packet → w.hop ≡ v.hop + 1
    → v.tick + (params_of S v.pipe v.tick).latency_ticks ≤ w.tick

-- a list that grows into the journal, visit by visit, is a front of it
abbrev pub GrowsToJournal : SetupView → Type 0
GrowsToJournal S = (J : List Visit) → IsGrowingBy (scheme_of S) J → (rest : List Visit) × (journal_of S ≡ J ++ rest)

-- v ends the way of p: p is dropped there, or v is to the last pipe of its route
pub record EndsWay (S : SetupView) (p : PacketPlan) (v : Visit) : Type 0 where
  pub among : Among v (journal_of S)
  pub packet : v.packet ≡ p.number
  pub last : next_hop S v ≡ None

-- each packet with a nonempty route has exactly one visit that ends its way
abbrev pub WaysEnd : SetupView → Type 0
WaysEnd S =
    (p : PacketPlan) → Among p S.packets → 0 < length (route_of S p.number)
    → (v : Visit) × EndsWay S p v × ((w : Visit) → EndsWay S p w → w ≡ v)

-- a packet with an empty route leaves at its entry tick, and the fate of any other is read off the visit that ends its way
pub record FatesHold (S : SetupView) : Type 0 where
  pub at_once : (p : PacketPlan) → route_of S p.number ≡ [] → fate_of S p ≡ Left p.entry_tick
  pub by_end : (p : PacketPlan) (v : Visit) → EndsWay S p v → fate_of S p ≡ fate_of_visit v

-- there are at most as many visits as the lengths of the packets' routes add up to
abbrev pub VisitsAreFew : SetupView → Type 0
VisitsAreFew S = length (journal_of S) ≤ hop_count S

-- every time since the base fits: those of all visits, and those at which packets that pass leave the pipe
pub record TimesFit (S : SetupView) : Type 0 where
  pub visits : (v : Visit) → Among v (journal_of S) → v.tick * S.tick_ns < TIME_NS_END
  pub exits :
      (v : Visit) (exit : ℕ) → Among v (journal_of S) → v.step ≡ Pass exit → exit * S.tick_ns < TIME_NS_END

-- a packet that leaves does so at a time that a record can hold: its seconds are below 2^32
abbrev pub OutputsFit : SetupView → Type 0
OutputsFit S =
    (p : PacketPlan) (tick : ℕ) → Among p S.packets → fate_of S p ≡ Left tick
    → output_time S.base_ns S.tick_ns tick < RECORD_NS_END

-- pipes whose latency in ticks is that of their microseconds, at first and after each change, never keep a packet longer than a
-- setup allows, on any route
abbrev pub UsualDelaysFit : Type 0
UsualDelaysFit =
    (S : SetupView) (route : List ℕ) → IsTickLength S.tick_ns
    → All (λ p. p.latency_ticks ≡ latency_in_ticks p.latency_us S.tick_ns) S.pipes
    → All (λ c. c.params.latency_ticks ≡ latency_in_ticks c.params.latency_us S.tick_ns) S.changes
    → length route ≤ ROUTE_PIPES_MAX
    → longest_way S route < ROUTE_DELAY_NS_END

-- the plan of a packet without its entry core
abbrev pub coreless : PacketPlan → PacketPlan
coreless p = record p { core = 0 }

-- a setup without its cores, and without what only the output trace reads
abbrev pub bare : SetupView → SetupView
bare S = record {
  tick_ns = S.tick_ns;
  seed = S.seed;
  base_ns = 0;
  link_type = 0;
  cores = 0;
  pipes = S.pipes;
  owners = [];
  routes = S.routes;
  packets = map coreless S.packets;
  changes = S.changes;
  loss = S.loss;
}

-- setups that differ in cores, owners and entry cores alone have one journal and the same fates
abbrev pub CoresDoNotMatter : Type 0
CoresDoNotMatter =
    (S R : SetupView) → bare S ≡ bare R
    → (journal_of S ≡ journal_of R) × (map (fate_of S) S.packets ≡ map (fate_of R) R.packets)

-- two setups have the same ticks, pipes, changes and loss words; their packets may differ
pub record SamePipes (S R : SetupView) : Type 0 where
  pub tick_ns : S.tick_ns ≡ R.tick_ns
  pub seed : S.seed ≡ R.seed
  pub pipes : S.pipes ≡ R.pipes
  pub changes : S.changes ≡ R.changes
  pub loss : S.loss ≡ R.loss

-- the visits of a pipe that come of these due ones in turn, after the earlier ones
abbrev pub visits_in_turn : SetupView → ℕ → List PastVisit → List Due → List PastVisit
visits_in_turn S pipe earlier [] = earlier
visits_in_turn S pipe earlier (x ∷ xs) =
    visits_in_turn S pipe
    (earlier ++ record { tick = x.tick; len = len_of S x.packet; step = step_of S pipe x earlier } ∷ []) xs

-- the tick and the length of a due visit
abbrev pub tick_and_len : SetupView → Due → ℕ × ℕ
tick_and_len S x = (x.tick, len_of S x.packet)

-- by arrival, lists of visits to one pipe with equal ticks and lengths have equal steps, whatever the numbers of their packets are
abbrev pub ArrivalBlind : Type 0
ArrivalBlind =
    (S R : SetupView) → SamePipes S R → S.loss ≡ Arrival
    → (pipe : ℕ) (xs ys : List Due) → map (tick_and_len S) xs ≡ map (tick_and_len R) ys
    → visits_in_turn S pipe [] xs ≡ visits_in_turn R pipe [] ys
