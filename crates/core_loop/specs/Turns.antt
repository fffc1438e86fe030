-- What a turn of a core says: what it still owes in its round, when it is done, and what it found at its ports.
use Rattle.std.specs.Prelude.{◌≡◌, ℕ, ◌+◌, ◌<◌, ◌≤◌, ◌⊎◌, List, length, map, filter, ◌==◌, true, None}
use Rattle.std.specs.FinMap as fin
use Rattle.mn_base.specs.Among.{Among}
use Rattle.journal.specs.declared.setup.PacketPlan.{PacketPlan}
use Rattle.journal.specs.declared.visit.Visit.{Visit}
use Rattle.journal.specs.SetupView.{SetupView}
use Rattle.journal.specs.Journal.{journal_of}
use Rattle.parcel.specs.Owners.{owner_of}
use Rattle.parcel.specs.Windows.{window_of, window_count}
use Rattle.core_loop.specs.declared.turn.PortName.{PortName}
use Rattle.core_loop.specs.declared.turn.PortName.TheVariants.{Post, Take}
use Rattle.core_loop.specs.declared.turn.Turn.{Turn}
use Rattle.core_loop.specs.declared.turn.Turn.TheVariants.{Moved, Waiting, Done, NoMemory}
use Rattle.core_loop.specs.CoreView.{CoreView, windows_of, peer_at, posted_of, taken_of, IsOtherCore}
use Rattle.core_loop.specs.Stocked.{Enters}
use Rattle.core_loop.specs.WorldState.{CoreStands}

-- the ports are of the core's setup and number, and stand where the core's own counts stand
pub record StandAt {P : Type 0} (setup : P → SetupView) (core : P → ℕ) (posted taken : P → ℕ → ℕ) (p : P) (c : CoreView) : Type 0 where
  pub same_setup : setup p ≡ c.setup
  pub same_core : core p ≡ c.number
  pub posts : (other : ℕ) → IsOtherCore c other → posted p other ≡ posted_of c other
  pub takes : (other : ℕ) → IsOtherCore c other → taken p other ≡ taken_of c other

-- setup and number stay, and no count of windows, posts or takes falls
pub record NoCountFalls (c d : CoreView) : Type 0 where
  pub setup : d.setup ≡ c.setup
  pub number : d.number ≡ c.number
  pub windows : windows_of c ≤ windows_of d
  pub posts : (other : ℕ) → posted_of c other ≤ posted_of d other
  pub takes : (other : ℕ) → taken_of c other ≤ taken_of d other

-- one of these counts rose
abbrev pub HasMoved : CoreView → CoreView → Type 0
HasMoved c d =
    (windows_of c < windows_of d)
    ⊎ (((other : ℕ) × IsOtherCore c other × (posted_of c other < posted_of d other))
    ⊎ ((other : ℕ) × IsOtherCore c other × (taken_of c other < taken_of d other)))

-- for whatever bytes it stood, it stands for them still, or it has failed
abbrev pub StillStands : CoreView → CoreView → Type 0
StillStands c d = (bytes : List (List ℕ)) → CoreStands bytes c → (d.failed ≡ true) ⊎ CoreStands bytes d

-- a post or take that the core still is to make in this round
abbrev pub OwesPost : CoreView → ℕ → Type 0
OwesPost c other = IsOtherCore c other × (posted_of c other ≡ windows_of c)

abbrev pub OwesTake : CoreView → ℕ → Type 0
OwesTake c other = IsOtherCore c other × (taken_of c other ≡ windows_of c)

abbrev pub Owes : CoreView → PortName → Type 0
Owes c (Post other) = OwesPost c other
Owes c (Take other) = OwesTake c other

-- all posts and takes of this round are made
pub record HasTradedAll (c : CoreView) : Type 0 where
  pub posts : (other : ℕ) → IsOtherCore c other → posted_of c other ≡ windows_of c + 1
  pub takes : (other : ℕ) → IsOtherCore c other → taken_of c other ≡ windows_of c + 1

-- it has run its last window, has posted and taken its last parcels, and all least ticks are none
pub record IsCoreDone (c : CoreView) : Type 0 where
  pub windows : windows_of c ≡ window_count c.setup
  pub trades : HasTradedAll c
  pub leasts : (core : ℕ) → core < c.setup.cores → (peer_at c core).least ≡ None

-- nothing is left: every visit of its pipes is in a window that it has run, every packet that entered there is settled and
-- released, and its store holds nothing
pub record HasEnded (c : CoreView) : Type 0 where
  pub visits : (v : Visit) → Among v (journal_of c.setup) → owner_of c.setup v.pipe ≡ c.number → window_of c.setup v.tick < windows_of c
  pub settled : (p : PacketPlan) → Enters c.setup c.number p → Among p.number (map (λ t. t.packet) c.settled)
  pub released : (p : PacketPlan) → Enters c.setup c.number p → Among p.number c.store.released
  pub store : (packet : ℕ) → fin.get c.store.held packet ≡ None

-- between two states of the ports in this turn, a port refused
abbrev pub RefusedBetween : {P : Type 0} → (P → P → Type 0) → (P → ℕ → P → Type 0) → P → ℕ → P → Type 0
RefusedBetween {P} keeps refused p other q = (a b : P) × keeps p a × keeps a b × refused a other b × keeps b q

-- a fact of the port of a turn that waits
abbrev pub IfWaiting : Turn → (PortName → Type 0) → Type 0
IfWaiting Moved P = Unit {0}
IfWaiting (Waiting on) P = P on
IfWaiting Done P = Unit {0}
IfWaiting NoMemory P = Unit {0}

-- where a turn may find no memory: the core had failed before, or it has taken a parcel or run a window in it, or it was to run one
pub data MayFail (c d : CoreView) : Type 0 where
  before : c.failed ≡ true → MayFail c d
  takes : (other : ℕ) → IsOtherCore c other → taken_of c other < taken_of d other → MayFail c d
  windows : windows_of c < windows_of d → MayFail c d
  begins : windows_of d < window_count d.setup → HasTradedAll d → MayFail c d

-- how many visits a core's pipes have in all
abbrev pub own_visit_count : SetupView → ℕ → ℕ
own_visit_count S core = length (filter (λ v. owner_of S v.pipe == core) (journal_of S))
