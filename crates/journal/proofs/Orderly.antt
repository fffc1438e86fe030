-- The scheme of a setup is orderly: all that the laws on journals ask.
use Rattle.std.proofs.Common.{◌≡◌, ◌⊎◌, inl, inr, ⊎_elim, ℕ, ◌+◌, ◌<◌, ◌≤◌, List, filter_map, Some, refl, sym, ap, ◌∙◌, subst, arith}
use Rattle.mn_base.specs.Among.{Among}
use Rattle.mn_base.specs.declared.due.Due.{Due}
use Rattle.pipe.specs.Scheme.{IsOrderly, AreMade, IsGrowingBy}
use Rattle.journal.specs.declared.setup.PacketPlan.{PacketPlan}
use Rattle.journal.specs.declared.visit.Visit.{Visit}
use Rattle.journal.specs.SetupView.{SetupView, params_of}
use Rattle.journal.specs.IsSetup.{IsSetup}
use Rattle.journal.specs.Hops.{due_of, pipe_of, entry, next_hop}
use Rattle.journal.specs.Steps.{visits_to, step_of, visit_of}
use Rattle.journal.specs.IsJournal.{scheme_of, dues}
use Rattle.mn_base.proofs.Members.{Among-from-filter_map, Among-filter_map, AllPairs-Among, split_at}
use Rattle.pipe.proofs.Origins.{origin_by}
use Rattle.journal.proofs.Delays.{IsEntry, IsNext, entry_parts, next_parts, entry-is, step-latency}

-- a packet's number names one packet
pub one_packet : (S : SetupView) → IsSetup S → (p q : PacketPlan) → Among p S.packets → Among q S.packets → p.number ≡ q.number → p ≡ q
one_packet S is p q h k e = go (AllPairs-Among (λ (a b : PacketPlan). a.number < b.number) p q S.packets is.numbers_rise h k)
  where
    go : (p ≡ q) ⊎ ((p.number < q.number) ⊎ (q.number < p.number)) → p ≡ q
    go (inl same) = same
    go (inr (inl l)) = absurd (omega arith)
    go (inr (inr l)) = absurd (omega arith)

pub tick-pos : (S : SetupView) → IsSetup S → 0 < S.tick_ns
tick-pos S is = let l : 1000 ≤ S.tick_ns = is.tick.0 in omega arith

-- a due visit is the first of a packet, or follows a visit of J
abbrev pub Origin : SetupView → List Visit → Due → Type 0
Origin S J x = ((p : PacketPlan) × IsEntry S p x) ⊎ ((v : Visit) × Among v J × IsNext S v x)

first_parts : (S : SetupView) (x : Due) → Among x (filter_map (entry S) S.packets) → (p : PacketPlan) × IsEntry S p x
first_parts S x a = let t = Among-from-filter_map (entry S) x S.packets a in (t.0, entry_parts S t.0 x t.1 t.2)

pub origin : (S : SetupView) (J : List Visit) (x : Due) → Among x (dues S J) → Origin S J x
origin S J x a =
    ⊎_elim (λ m. inl (first_parts S x m)) (λ m. inr (m.0, m.1, next_parts S m.0 x m.2)) (origin_by (scheme_of S) J x a)

-- a packet with a route is due at its entry tick
pub first-due : (S : SetupView) (p : PacketPlan) (x : Due) → IsEntry S p x → Among x (filter_map (entry S) S.packets)
first-due S p x i = Among-filter_map (entry S) p x S.packets i.among (entry-is S p x i)

module _ (S : SetupView) (is : IsSetup S) where
  -- no packet is due at two ticks at first
  one_first : (x y : Due) → Among x (filter_map (entry S) S.packets) → Among y (filter_map (entry S) S.packets) → x.packet ≡ y.packet
      → x ≡ y
  one_first x y a b p =
      let m = first_parts S x a in
      let n = first_parts S y b in
      let number : m.0.number ≡ n.0.number = sym (ap (λ (d : Due). d.packet) m.1.is) ∙ p ∙ ap (λ (d : Due). d.packet) n.1.is in
      let same : m.0 ≡ n.0 = one_packet S is m.0 n.0 m.1.among n.1.among number in
      m.1.is ∙ ap (λ (q : PacketPlan). record { tick = q.entry_tick; packet = q.number; hop = 0 }) same ∙ sym n.1.is

  later : (front : List Visit) (x y : Due) → next_hop S (visit_of S front x) ≡ Some y → x.tick < y.tick
  later front x y e =
      let n = next_parts S (visit_of S front x) y e in
      let long : x.tick + (params_of S (pipe_of S x) x.tick).latency_ticks ≤ n.exit =
      step-latency S (pipe_of S x) x (visits_to S (pipe_of S x) front) n.exit (tick-pos S is) n.passed in
      let d : 1 ≤ (params_of S (pipe_of S x) x.tick).latency_ticks = (params_of S (pipe_of S x) x.tick).delays.0 in
      let t : y.tick ≡ n.exit = ap (λ (z : Due). z.tick) n.is in
      omega (arith, long, d, t)

  pub orderly : IsOrderly (scheme_of S)
  orderly = record {
    due = λ front x. refl;
    start = λ x a. ap (λ (d : Due). d.hop) (first_parts S x a).1.is;
    apart = one_first;
    later = later;
    packet = λ v y e. ap (λ (d : Due). d.packet) (next_parts S v y e).is;
    hop = λ v y e. ap (λ (d : Due). d.hop) (next_parts S v y e).is;
  }

-- lists that grow into the journal of a setup
abbrev pub IsGrowing : SetupView → List Visit → Type 0
IsGrowing S J = IsGrowingBy (scheme_of S) J

-- a visit is to the pipe of its hop
pub visit-pipe : (S : SetupView) (J : List Visit) (v : Visit) → AreMade (scheme_of S) J → Among v J → v.pipe ≡ pipe_of S (due_of v)
visit-pipe S J v made h = let s = split_at v J h in ap (λ (u : Visit). u.pipe) (made s.front s.rest v s.is)

-- the visit that follows v on its packet's way is later, by at least the latency of v's pipe
pub next-latency : (S : SetupView) (J : List Visit) (v : Visit) (x : Due) → 0 < S.tick_ns → AreMade (scheme_of S) J → Among v J
    → IsNext S v x
    → v.tick + (params_of S v.pipe v.tick).latency_ticks ≤ x.tick
next-latency S J v x pos made a i =
    let s = split_at v J a in
    let is : v ≡ visit_of S s.front (due_of v) = made s.front s.rest v s.is in
    let pipe : v.pipe ≡ pipe_of S (due_of v) = ap (λ (u : Visit). u.pipe) is in
    let before = visits_to S (pipe_of S (due_of v)) s.front in
    let step : v.step ≡ step_of S (pipe_of S (due_of v)) (due_of v) before = ap (λ (u : Visit). u.step) is in
    let long : v.tick + (params_of S (pipe_of S (due_of v)) v.tick).latency_ticks ≤ i.exit =
    step-latency S (pipe_of S (due_of v)) (due_of v) before i.exit pos (sym step ∙ i.passed) in
    let tick : x.tick ≡ i.exit = ap (λ (d : Due). d.tick) i.is in
    let same : v.tick + (params_of S v.pipe v.tick).latency_ticks ≤ i.exit =
    subst (λ (q : ℕ). v.tick + (params_of S q v.tick).latency_ticks ≤ i.exit) (sym pipe) long in
    omega (arith, same, tick)
