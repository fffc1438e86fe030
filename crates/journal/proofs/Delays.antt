-- The first visits of packets and those that follow a visit, and that each pipe delays by at least one tick.
use Rattle.std.proofs.Common.{◌≡◌, ℕ, ◌+◌, ◌*◌, ◌<◌, ◌≤◌, Bool, true, false, cond, nat_lt, nat_le, List, length, Some, None, refl, sym, ap, ◌∙◌, arith, true≢false, ltb-true, lt-ltb, leb-false, le_of_mul-le-mul_right}
use Rattle.std.specs.Int.{div_ceil}
use Rattle.std.proofs.lemmas.Grind.{div_ceil_times}
use Rattle.mn_base.specs.Among.{Among}
use Rattle.mn_base.specs.declared.params.PipeParams.{PipeParams}
use Rattle.mn_base.specs.declared.due.Due.{Due}
use Rattle.pipe.specs.declared.step.Step.{Step}
use Rattle.pipe.specs.declared.step.Step.TheVariants.{Lost, Full, Pass}
use Rattle.pipe.specs.Finishes.{PastVisit, finish_of, last_finish}
use Rattle.pipe.specs.Steps.{waiting, exit_of, step_at}
use Rattle.journal.specs.declared.setup.PacketPlan.{PacketPlan}
use Rattle.journal.specs.declared.visit.Visit.{Visit}
use Rattle.journal.specs.SetupView.{SetupView, route_of, params_of, len_of}
use Rattle.journal.specs.Hops.{entry, hop_after, next_hop}
use Rattle.journal.specs.Steps.{is_lost, step_of}

-- a first visit, by its packet
pub record IsEntry (S : SetupView) (p : PacketPlan) (x : Due) : Type 0 where
  pub among : Among p S.packets
  pub is : x ≡ record { tick = p.entry_tick; packet = p.number; hop = 0 }
  pub within : 0 < length (route_of S p.number)

-- a later visit, by the visit before it on the packet's way
pub record IsNext (S : SetupView) (v : Visit) (x : Due) : Type 0 where
  pub exit : ℕ
  pub passed : v.step ≡ Pass exit
  pub is : x ≡ record { tick = exit; packet = v.packet; hop = v.hop + 1 }
  pub within : v.hop + 1 < length (route_of S v.packet)

pub entry_parts : (S : SetupView) (p : PacketPlan) (x : Due) → Among p S.packets → entry S p ≡ Some x → IsEntry S p x
entry_parts S p x h e = go (nat_lt 0 (length (route_of S p.number))) refl e
  where
    first : Due
    first = record { tick = p.entry_tick; packet = p.number; hop = 0 }

    go : (b : Bool) → nat_lt 0 (length (route_of S p.number)) ≡ b → cond b (Some first) None ≡ Some x → IsEntry S p x
    go true t f = record { among = h; is = cc; within = ltb-true 0 _ t }
    go false t f = cc

pub next_parts : (S : SetupView) (v : Visit) (x : Due) → next_hop S v ≡ Some x → IsNext S v x
next_parts S v x e = go v.step refl e
  where
    go : (s : Step) → v.step ≡ s → hop_after S v.packet v.hop s ≡ Some x → IsNext S v x
    go Lost t f = cc
    go Full t f = cc
    go (Pass exit) t f = split (nat_lt (v.hop + 1) (length (route_of S v.packet))) refl f
      where
        next : Due
        next = record { tick = exit; packet = v.packet; hop = v.hop + 1 }

        split : (b : Bool) → nat_lt (v.hop + 1) (length (route_of S v.packet)) ≡ b → cond b (Some next) None ≡ Some x → IsNext S v x
        split true u g = record { exit = exit; passed = t; is = cc; within = ltb-true (v.hop + 1) _ u }
        split false u g = cc

-- and back: such a visit is what `entry` gives
pub entry-is : (S : SetupView) (p : PacketPlan) (x : Due) → IsEntry S p x → entry S p ≡ Some x
entry-is S p x i = go (nat_lt 0 (length (route_of S p.number))) refl
  where
    go : (b : Bool) → nat_lt 0 (length (route_of S p.number)) ≡ b
        → cond b (Some (record { tick = p.entry_tick; packet = p.number; hop = 0 })) None ≡ Some x
    go true t = ap Some (sym i.is)
    go false t = let w : 0 < length (route_of S p.number) = i.within in absurd (true≢false (sym (lt-ltb 0 _ w) ∙ t))

-- what is known of a visit that passed
pub record IsPass (at : ℕ → PipeParams) (T : ℕ) (h : List PastVisit) (tick len : ℕ) (lost : Bool) (exit : ℕ) : Type 0 where
  pub kept : lost ≡ false
  pub room : waiting at T h tick < (at tick).queue
  pub leaves : exit ≡ exit_of at T h tick len

pub pass_parts : (at : ℕ → PipeParams) (T : ℕ) (h : List PastVisit) (tick len : ℕ) (lost : Bool) (exit : ℕ)
    → step_at at T h tick len lost ≡ Pass exit → IsPass at T h tick len lost exit
pass_parts at T h tick len true exit e = cc
pass_parts at T h tick len false exit e = go (nat_le (at tick).queue (waiting at T h tick)) refl e
  where
    go : (b : Bool) → nat_le (at tick).queue (waiting at T h tick) ≡ b → cond b Full (Pass (exit_of at T h tick len)) ≡ Pass exit
        → IsPass at T h tick len false exit
    go true t f = cc
    go false t f = record { kept = refl; room = leb-false _ _ t; leaves = cc }

-- a packet that passes is delayed by at least the latency
pub pass-latency : (at : ℕ → PipeParams) (T : ℕ) (h : List PastVisit) (tick len : ℕ) (lost : Bool) (exit : ℕ) → 0 < T
    → step_at at T h tick len lost ≡ Pass exit → tick + (at tick).latency_ticks ≤ exit
pass-latency at T h tick len lost exit pos e =
    let p = pass_parts at T h tick len lost exit e in
    let f : ℕ = finish_of at T (last_finish at T 0 h) tick len in
    let rounded = div_ceil_times f T pos in
    let up : f ≤ div_ceil f T * T = rounded.0 in
    let starts : tick * T ≤ f = omega arith in
    let ticks : tick ≤ div_ceil f T = le_of_mul-le-mul_right (omega (arith, up, starts)) pos in
    let leaves : exit ≡ div_ceil f T + (at tick).latency_ticks = p.leaves in
    omega arith

-- the same by the setup's parameters of a pipe
pub step-latency : (S : SetupView) (pipe : ℕ) (x : Due) (h : List PastVisit) (exit : ℕ) → 0 < S.tick_ns
    → step_of S pipe x h ≡ Pass exit → x.tick + (params_of S pipe x.tick).latency_ticks ≤ exit
unfolding step_of
step-latency S pipe x h exit pos e =
    pass-latency (params_of S pipe) S.tick_ns h x.tick (len_of S x.packet) (is_lost S pipe x h) exit pos e
