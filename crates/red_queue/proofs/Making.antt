-- The maker of the journal, from one visit to the next.
use Rattle.std.proofs.Common.{◌≡◌, ◌⊎◌, inl, inr, ⊎_elim, ℕ, ◌+◌, ◌-◌, ◌*◌, ◌<◌, ◌≤◌, Bool, cond, lt-ltb, List, [], ◌∷◌, ◌++◌, length, map, drop, sum_by, All, AllPairs, Option, Some, None, get_or, slice_get, slice_index_or, slice_set, Result, Ok, Err, OnOk, refl, sym, ap, ◌∙◌, subst, arith}
use Rattle.std.specs.Prelude.{◌↔◌}
use Rattle.std.specs.List.{enumerate_from}
use Rattle.std.specs.Option.{option_map_or}
use Rattle.std.proofs.lemmas.Bool.{cases_lt}
use Rattle.std.proofs.lemmas.List.{drop_more}
use Rattle.std.proofs.lemmas.List.Quantifiers.{all_pairs_push}
use Rattle.std.proofs.lemmas.List.Sums.{sum_by-cons}
use Rattle.std.proofs.lemmas.Option.{slice_get_within, slice_get_read, get_or_from_slice_get}
use Rattle.mn_base.specs.Among.{Among}
use Rattle.mn_base.specs.declared.due.Due.{Due}
use Rattle.mn_base.specs.declared.limits.TheConstants.{TIME_NS_END, ROUTE_DELAY_NS_END}
use Rattle.mn_base.proofs.Members.{Among-append, Among-push, Among-map, Among-from-map, Among-index}
use Rattle.pipe.specs.declared.due_visits.DueVisit.{DueVisit}
use Rattle.pipe.specs.HeldVisits.{plain, HasNone, PutsNext}
use Rattle.pipe.specs.Scheme.{dues_by, pending_by, TakesFirst}
use Rattle.pipe.proofs.Origins.{due_from-first}
use Rattle.pipe.proofs.Growing.{growing-nil, growing-push}
use Rattle.pipe.proofs.Grown.{pending_from, pending_parts}
use Rattle.pipe.proofs.HeldVisits.{plain-moved, takes-plain, adds-plain, pushed-among}
use Rattle.pipe.proofs.Pending.{held-whole, taken-due, taken-least, taken-order, taken-alone, held-push}
use Rattle.red_queue.specs.declared.params.RedParams.{RedParams}
use Rattle.red_queue.specs.declared.setup.RedPacket.{RedPacket}
use Rattle.red_queue.specs.declared.step.RedStep.{RedStep}
use Rattle.red_queue.specs.declared.step.RedStep.TheVariants.{Pass}
use Rattle.red_queue.specs.declared.visit.RedVisit.{RedVisit}
use Rattle.red_queue.specs.QueueView.{red_stay, IfRedPass, RedStandsFor}
use Rattle.red_queue.specs.SetupView.{RedSetupView, red_way, IsRedSetup}
use Rattle.red_queue.specs.Journal.{red_entry, red_hop_after, red_visit_of, red_scheme, IsRedJournal, red_journal_of}
use Rattle.red_queue.specs.Outcome.{RedPast}
use Rattle.red_queue.specs.Making.{AtWorkView, decided, IsAtWork, AreAtWork, HaveRedEntered, IsInTime, IsRedMaking, IsRedToMake}
use Rattle.red_queue.proofs.Orderly.{IsEntry, IsNext, Origin, origin, entry_parts, entry-due, next_parts, orderly, IsGrowing}
use Rattle.red_queue.proofs.Count.{hop-within, packet-of, growing_count}
use Rattle.red_queue.proofs.Meets.{one_journal, meets}
use Rattle.red_queue.proofs.VisitsTo.{Decided, pipe-at, decided-step, decided-visit, decided-pipe, pipes-push}

-- what follows of what is said of Ok
pub on_ok : {X E P Q : Type 0} (result : Result X E) → (P → Q) → OnOk result P → OnOk result Q
on_ok (Ok x) f p = f p
on_ok (Err e) f p = tt

-- what is read at an index stands there
pub get-at : {X : Type 0} (xs ys : List X) (i : ℕ) (x : X) → ys ≡ xs → i < length xs → x ≡ slice_index_or ys i x → slice_get xs i ≡ Some x
get-at xs ys i x same within read =
    slice_get_read xs (length xs) i x refl within (read ∙ ap (λ zs. slice_index_or zs i x) same)

-- what holds of all members holds of the one at an index
pub all-get : {X : Type 0} (P : X → Type 0) (xs : List X) (i : ℕ) (x : X) → All P xs → slice_get xs i ≡ Some x → P x
all-get P xs i x all at = subst P (get_or_from_slice_get xs i x x at) (all i x (slice_get_within xs i x at))

one_packet : (R : RedSetupView) (n : ℕ) (p q : RedPacket) → slice_get R.packets n ≡ Some p → slice_get R.packets n ≡ Some q → p ≡ q
one_packet R n p q a b = let some : Some p ≡ Some q = sym a ∙ b in cc

-- a packet that isn't before any pipe is on time
entry-in_time : (R : RedSetupView) (x : Due) → IsEntry R x → IsInTime R x
entry-in_time R x e p at =
    let same : e.packet ≡ p = one_packet R x.packet e.packet p e.at at in
    let tick : x.tick * R.tick_ns ≡ p.entry_tick * R.tick_ns =
    ap (λ (d : Due). d.tick * R.tick_ns) e.is ∙ ap (λ (q : RedPacket). q.entry_tick * R.tick_ns) same in
    let rest : sum_by (red_stay R.tick_ns) (drop x.hop R.pipes) ≡ red_way R =
    ap (λ (d : Due). sum_by (red_stay R.tick_ns) (drop d.hop R.pipes)) e.is in
    omega (arith, tick, rest)

pub making-nil : (R : RedSetupView) → IsRedSetup R → (held : List DueVisit) (pipes : List AtWorkView)
    → HaveRedEntered R (length R.packets) held → AreAtWork R [] pipes → IsRedMaking R [] pipes held
making-nil R is held pipes h are = record {
  growing = growing-nil (red_scheme R);
  pipes_are = are;
  numbered = h.numbered;
  pending = λ x. (into x, out x);
  in_time = λ w a. entry-in_time R w.due (entry_parts R w.due (h.first w a));
  exits = λ v exit p a. absurd a;
}
  where
    into : (x : Due) → Among x (map plain held) → Among x (pending_by (red_scheme R) [])
    into x a =
        let s = Among-from-map plain x held a in
        let m = subst (λ (d : Due). Among d (map red_entry (enumerate_from 0 R.packets))) s.2 (h.first s.0 s.1) in
        pending_from (red_scheme R) [] x (due_from-first (red_scheme R) [] x m) refl

    out : (x : Due) → Among x (pending_by (red_scheme R) []) → Among x (map plain held)
    out x a = ⊎_elim entered (λ none. absurd none)
        (Among-append x (map red_entry (enumerate_from 0 R.packets)) [] (pending_parts (red_scheme R) [] x a).0)
      where
        entered : Among x (map red_entry (enumerate_from 0 R.packets)) → Among x (map plain held)
        entered m =
            let e = entry_parts R x m in
            subst (λ (d : Due). Among d (map plain held)) (sym e.is)
            (h.all x.packet e.packet (slice_get_within R.packets x.packet e.packet e.at) e.at)

-- one packet more has entered
module _ {R : RedSetupView} {number : ℕ} {held : List DueVisit} (p : RedPacket) (x : DueVisit) (h : HaveRedEntered R number held)
    (at : slice_get R.packets number ≡ Some p) (due : x.due ≡ red_entry (number, p)) (index : x.index ≡ number) where
  packet : x.due.packet ≡ number
  packet = ap (λ (d : Due). d.packet) due

  pub entered-push : HaveRedEntered R (number + 1) (held ++ x ∷ [])
  entered-push = record {
    numbered = λ w a. ⊎_elim (λ e. subst (λ (v : DueVisit). v.index ≡ v.due.packet) e (index ∙ sym packet)) (h.numbered w) (parts w a);
    below = λ w a. ⊎_elim
        (λ e. let n : w.due.packet ≡ number = ap (λ (v : DueVisit). v.due.packet) (sym e) ∙ packet in omega (arith, n))
        (λ b. let l : w.due.packet < number = h.below w b in omega (arith, l)) (parts w a);
    first = λ w a. ⊎_elim
        (λ e. subst (λ (d : Due). Among d (map red_entry (enumerate_from 0 R.packets))) (sym due ∙ ap plain e) (entry-due R number p at))
        (h.first w) (parts w a);
    all = all;
  }
    where
      parts : (w : DueVisit) → Among w (held ++ x ∷ []) → (x ≡ w) ⊎ Among w held
      parts w = (pushed-among held x w).0

      all : (n : ℕ) (q : RedPacket) → n < number + 1 → slice_get R.packets n ≡ Some q
          → Among (red_entry (n, q)) (map plain (held ++ x ∷ []))
      all n q less here = go (cases_lt n number)
        where
          go : (n < number) ⊎ (number ≤ n) → Among (red_entry (n, q)) (map plain (held ++ x ∷ []))
          go (inl before) =
              plain-moved held (held ++ x ∷ []) (λ w b. (pushed-among held x w).1 (inr b)) (red_entry (n, q)) (h.all n q before here)
          go (inr last) =
              let same : number ≡ n = omega arith in
              let one : p ≡ q = one_packet R n p q (ap (slice_get R.packets) (sym same) ∙ at) here in
              subst (λ (d : Due). Among d (map plain (held ++ x ∷ [])))
              (due ∙ ap (λ k. red_entry (k, p)) same ∙ ap (λ (r : RedPacket). red_entry (n, r)) one)
              (Among-map plain x (held ++ x ∷ []) ((pushed-among held x x).1 (inl refl)))

  -- its number is above those before it
  pub entered-rising : AllPairs (λ v w. v.due.packet < w.due.packet) held → AllPairs (λ v w. v.due.packet < w.due.packet) (held ++ x ∷ [])
  entered-rising rising =
      all_pairs_push (λ (v : DueVisit) w. v.due.packet < w.due.packet) held x rising
      (λ k d within.
      let below : (slice_index_or held k d).due.packet < number = h.below (slice_index_or held k d) (Among-index held k d within) in
      omega (arith, below, packet))

-- a list with the same members
pub entered-same : (R : RedSetupView) (numbers : ℕ) (firsts held : List DueVisit) → ((w : DueVisit) → Among w held ↔ Among w firsts)
    → HaveRedEntered R numbers firsts → HaveRedEntered R numbers held
entered-same R numbers firsts held same h = record {
  numbered = λ w a. h.numbered w ((same w).0 a);
  below = λ w a. h.below w ((same w).0 a);
  first = λ w a. h.first w ((same w).0 a);
  all = λ n p less at. plain-moved firsts held (λ w a. (same w).1 a) (red_entry (n, p)) (h.all n p less at);
}

-- the next visit of a packet that passes, if there is another pipe
pub hop-next : (R : RedSetupView) (packet hop exit : ℕ) (step : RedStep) → step ≡ Pass exit → hop + 1 < length R.pipes
    → red_hop_after R packet hop step ≡ Some (record { tick = exit; packet = packet; hop = hop + 1 })
hop-next R packet hop exit step passed within =
    ap (red_hop_after R packet hop) passed
    ∙ ap (λ (b : Bool). cond b (Some (record { tick = exit; packet = packet; hop = hop + 1 })) None)
    (lt-ltb (hop + 1) (length R.pipes) within)

-- the pipe at a hop keeps the packet for its part of the rest of the way
way-drop : (T : ℕ) (pipes : List RedParams) (hop : ℕ) (p : RedParams) → slice_get pipes hop ≡ Some p
    → sum_by (red_stay T) (drop hop pipes) ≡ red_stay T p + sum_by (red_stay T) (drop (hop + 1) pipes)
way-drop T pipes hop p at =
    ap (sum_by (red_stay T)) (drop_more pipes hop p (slice_get_within pipes hop p at))
    ∙ sum_by-cons (red_stay T) (get_or pipes hop p) (drop (hop + 1) pipes)
    ∙ ap (λ (q : RedParams). red_stay T q + sum_by (red_stay T) (drop (hop + 1) pipes)) (get_or_from_slice_get pipes hop p p at)

module _ {R : RedSetupView} (is : IsRedSetup R) {J : List RedVisit} {next : DueVisit} {pipes : List AtWorkView} {rest : List DueVisit}
    (t : IsRedToMake R J next pipes rest) where
  g : IsGrowing R J
  g = t.making.growing

  takes : TakesFirst (map plain t.held) next.due (map plain rest)
  takes = takes-plain t.takes

  is_held : Among next t.held
  is_held = (t.takes.taken next).1 (inl refl)

  pub next-numbered : next.index ≡ next.due.packet
  next-numbered = t.making.numbered next is_held

  next-due : Among next.due (dues_by (red_scheme R) J)
  next-due = taken-due (red_scheme R) (orderly R is) J g (map plain t.held) next.due (map plain rest) t.making.pending takes

  pub next-hop : next.due.hop < length R.pipes
  next-hop = hop-within R is J g next.due next-due

  pub next-packet : (p : RedPacket) × (slice_get R.packets next.due.packet ≡ Some p)
  next-packet = go (origin R J next.due next-due)
    where
      go : Origin R J next.due → (p : RedPacket) × (slice_get R.packets next.due.packet ≡ Some p)
      go (inl m) = (m.packet, m.at)
      go (inr m) =
          let p = packet-of R is J g m.0 m.1 in
          (p.0, ap (slice_get R.packets) (ap (λ (d : Due). d.packet) m.2.is) ∙ p.1)

  -- so its packet is read at its index
  pub next-within : next.index < length R.packets
  next-within =
      let p = next-packet in
      let within = slice_get_within R.packets next.due.packet p.0 p.1 in
      omega (arith, within, next-numbered)

  -- all visits so far are by its tick
  pub next-order : (v : RedVisit) → Among v J → v.tick ≤ next.due.tick
  next-order = taken-order (red_scheme R) (orderly R is) J g (map plain t.held) next.due (map plain rest) t.making.pending takes

  on_time : IsInTime R next.due
  on_time = t.making.in_time next is_held

  pub next-time : next.due.tick * R.tick_ns < TIME_NS_END
  next-time =
      let p = next-packet in
      let entered : p.0.entry_tick * R.tick_ns < TIME_NS_END - ROUTE_DELAY_NS_END =
      all-get (λ (q : RedPacket). q.entry_tick * R.tick_ns < TIME_NS_END - ROUTE_DELAY_NS_END) R.packets next.due.packet p.0
      is.entries_fit p.1 in
      let way : red_way R < ROUTE_DELAY_NS_END = is.delays_fit in
      let late : next.due.tick * R.tick_ns + sum_by (red_stay R.tick_ns) (drop next.due.hop R.pipes)
      ≤ p.0.entry_tick * R.tick_ns + red_way R =
      on_time p.0 p.1 in
      omega (arith, entered, way, late)

  -- nothing else of its packet is held
  pub next-alone : HasNone rest next.due.packet
  next-alone w a same =
      taken-alone (red_scheme R) (orderly R is) J g (map plain t.held) next.due (map plain rest) t.making.pending takes
      w.due (Among-map plain w rest a) same

  -- with it the list still grows
  next-grows : IsGrowing R (J ++ red_visit_of R J next.due ∷ [])
  next-grows =
      growing-push (red_scheme R) (orderly R is) J g next.due
      (taken-least (red_scheme R) (orderly R is) J g (map plain t.held) next.due (map plain rest) t.making.pending takes)

  -- one visit more is made, by a pipe that keeps the packet no longer than it may
  pub making-next : (step : RedStep) (new : List DueVisit) (after : List AtWorkView) (p : RedParams)
      → step ≡ (red_visit_of R J next.due).step → slice_get R.pipes next.due.hop ≡ Some p
      → IfRedPass step (λ exit. exit * R.tick_ns ≤ next.due.tick * R.tick_ns + red_stay R.tick_ns p)
      → PutsNext (red_hop_after R next.due.packet next.due.hop step) next.index rest new
      → AreAtWork R (J ++ red_visit_of R J next.due ∷ []) after
      → IsRedMaking R (J ++ red_visit_of R J next.due ∷ []) after new
  making-next step new after p same at stay put are = record {
    growing = next-grows;
    pipes_are = are;
    numbered = λ w a. ⊎_elim (λ b. t.making.numbered w ((t.takes.taken w).1 (inr b))) (λ c. numbered w c.0 c.1) (puts.comes w a);
    pending = held-push (red_scheme R) (orderly R is) J g (map plain t.held) next.due (map plain rest) t.making.pending takes
        (map plain new) (adds-plain puts);
    in_time = λ w a. ⊎_elim (λ b. t.making.in_time w ((t.takes.taken w).1 (inr b))) (λ c. come w.due c.0) (puts.comes w a);
    exits = λ v exit q a. ⊎_elim (λ b. t.making.exits v exit q b) (λ e. left v exit q e) (Among-push v J (red_visit_of R J next.due) a);
  }
    where
      v : RedVisit
      v = red_visit_of R J next.due

      puts : PutsNext (red_hop_after R next.due.packet next.due.hop v.step) next.index rest new
      puts = subst (λ (s : RedStep). PutsNext (red_hop_after R next.due.packet next.due.hop s) next.index rest new) same put

      numbered : (w : DueVisit) → red_hop_after R next.due.packet next.due.hop v.step ≡ Some w.due → w.index ≡ next.index
          → w.index ≡ w.due.packet
      numbered w e index =
          let n : IsNext R v w.due = next_parts R v w.due e in index ∙ next-numbered ∙ sym (ap (λ (d : Due). d.packet) n.is)

      stays : (exit : ℕ) → v.step ≡ Pass exit → exit * R.tick_ns ≤ next.due.tick * R.tick_ns + red_stay R.tick_ns p
      stays exit passed =
          subst (λ (s : RedStep). IfRedPass s (λ e. e * R.tick_ns ≤ next.due.tick * R.tick_ns + red_stay R.tick_ns p)) (same ∙ passed) stay

      rest-of : sum_by (red_stay R.tick_ns) (drop next.due.hop R.pipes)
          ≡ red_stay R.tick_ns p + sum_by (red_stay R.tick_ns) (drop (next.due.hop + 1) R.pipes)
      rest-of = way-drop R.tick_ns R.pipes next.due.hop p at

      come : (y : Due) → red_hop_after R next.due.packet next.due.hop v.step ≡ Some y → IsInTime R y
      come y e q here =
          let n : IsNext R v y = next_parts R v y e in
          let packet : y.packet ≡ next.due.packet = ap (λ (d : Due). d.packet) n.is in
          let late : next.due.tick * R.tick_ns + sum_by (red_stay R.tick_ns) (drop next.due.hop R.pipes)
          ≤ q.entry_tick * R.tick_ns + red_way R =
          on_time q (ap (slice_get R.packets) (sym packet) ∙ here) in
          let long : n.exit * R.tick_ns ≤ next.due.tick * R.tick_ns + red_stay R.tick_ns p = stays n.exit n.passed in
          let tick : y.tick * R.tick_ns ≡ n.exit * R.tick_ns = ap (λ (d : Due). d.tick * R.tick_ns) n.is in
          let way : sum_by (red_stay R.tick_ns) (drop y.hop R.pipes) ≡ sum_by (red_stay R.tick_ns) (drop (next.due.hop + 1) R.pipes) =
          ap (λ (d : Due). sum_by (red_stay R.tick_ns) (drop d.hop R.pipes)) n.is in
          omega (arith, late, long, tick, way, rest-of)

      left : (w : RedVisit) (exit : ℕ) (q : RedPacket) → v ≡ w → w.step ≡ Pass exit → slice_get R.packets w.packet ≡ Some q
          → exit * R.tick_ns < q.entry_tick * R.tick_ns + ROUTE_DELAY_NS_END
      left w exit q e passed here =
          let packet : w.packet ≡ next.due.packet = ap (λ (u : RedVisit). u.packet) (sym e) in
          let late : next.due.tick * R.tick_ns + sum_by (red_stay R.tick_ns) (drop next.due.hop R.pipes)
          ≤ q.entry_tick * R.tick_ns + red_way R =
          on_time q (ap (slice_get R.packets) (sym packet) ∙ here) in
          let long : exit * R.tick_ns ≤ next.due.tick * R.tick_ns + red_stay R.tick_ns p =
          stays exit (ap (λ (u : RedVisit). u.step) e ∙ passed) in
          let way : red_way R < ROUTE_DELAY_NS_END = is.delays_fit in
          omega (arith, late, long, way, rest-of)

-- where nothing is held, the visits made are the journal
pub making-whole : {R : RedSetupView} → IsRedSetup R → {J : List RedVisit} {pipes : List AtWorkView} → IsRedMaking R J pipes []
    → IsRedJournal R J
making-whole {R} is {J} m = held-whole (red_scheme R) (orderly R is) J m.growing m.pending

pub making-is : {R : RedSetupView} → IsRedSetup R → {J : List RedVisit} {pipes : List AtWorkView} → IsRedMaking R J pipes []
    → J ≡ red_journal_of R
making-is {R} is {J} m = one_journal R is J (red_journal_of R) (making-whole is m) (meets R is)

-- what the pipe in hand made of the visit that was taken out, for whatever list the maker has made, and what was put in
pub record Makes (R : RedSetupView) (next : DueVisit) (pipes : List AtWorkView) (rest : List DueVisit) (m new : AtWorkView) (step : RedStep)
    (held : List DueVisit) : Type 0 where
  pub setup : IsRedSetup R
  pub packet : RedPacket
  pub packet_is : slice_get R.packets next.due.packet ≡ Some packet
  pub pipe_is : m ≡ slice_index_or pipes next.due.hop m
  pub step_is : (h : List RedPast) → RedStandsFor m.memory h → step ≡ decided m h next.due packet.len
  pub stands : (h : List RedPast) → RedStandsFor m.memory h
      → RedStandsFor new.memory (h ++ record { tick = next.due.tick; len = packet.len; step = decided m h next.due packet.len } ∷ [])
  pub number : new.number ≡ m.number
  pub seed : new.seed ≡ m.seed
  pub params : (new.memory).params ≡ (m.memory).params
  pub tick_ns : (new.memory).tick_ns ≡ (m.memory).tick_ns
  pub stay : IfRedPass step (λ exit.
      exit * (m.memory).tick_ns ≤ next.due.tick * (m.memory).tick_ns + red_stay (m.memory).tick_ns (m.memory).params)
  pub puts : PutsNext (red_hop_after R next.due.packet next.due.hop step) next.index rest held

module _ {R : RedSetupView} {next : DueVisit} {pipes : List AtWorkView} {rest : List DueVisit} {m new : AtWorkView} {step : RedStep}
    {held : List DueVisit} (k : Makes R next pipes rest m new step held) (J : List RedVisit) (t : IsRedToMake R J next pipes rest) where
  in_hand : IsAtWork R J next.due.hop m
  in_hand = pipe-at t.making.pipes_are next.due.hop m (next-hop k.setup t) k.pipe_is

  said : Decided R next.due (k.packet).len m new step
  said = record {
    len_is = sym (ap (λ (o : Option RedPacket). option_map_or (λ p. p.len) o 0) k.packet_is);
    step_is = k.step_is;
    stands = k.stands;
    number = k.number;
    seed = k.seed;
    params = k.params;
    tick_ns = k.tick_ns;
  }

  pub makes-visit : record { tick = next.due.tick; packet = next.due.packet; hop = next.due.hop; step = step } ≡ red_visit_of R J next.due
  makes-visit = decided-visit said J in_hand

  pub makes-making : IsRedMaking R (J ++ red_visit_of R J next.due ∷ []) (slice_set pipes next.due.hop new) held
  makes-making =
      making-next k.setup t step held (slice_set pipes next.due.hop new) (m.memory).params
      (decided-step said J in_hand) in_hand.params
      (subst (λ T. IfRedPass step (λ exit. exit * T ≤ next.due.tick * T + red_stay T (m.memory).params)) in_hand.tick_ns k.stay)
      k.puts
      (pipes-push t.making.pipes_are next.due.hop new (red_visit_of R J next.due)
      (let l = next-hop k.setup t in omega (arith, l, t.making.pipes_are.count)) refl (decided-pipe said J in_hand))

pub making-few : {R : RedSetupView} → IsRedSetup R → {J : List RedVisit} {pipes : List AtWorkView} {held : List DueVisit}
    → IsRedMaking R J pipes held → length J ≤ length R.packets * length R.pipes
making-few {R} is {J} m = growing_count R is J m.growing
