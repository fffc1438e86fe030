-- A visit of a window is made: it comes to its own pipe after all visits before it in the journal.
use Rattle.std.proofs.Common.{◌≡◌, inl, ℕ, ◌+◌, ◌*◌, ◌<◌, ◌≤◌, ◌==◌, Bool, cond, List, [], ◌∷◌, ◌++◌, length, filter, append_assoc, refl, sym, ap, ◌∙◌, subst, arith, eq-eqb}
use Rattle.std.proofs.lemmas.Bool.{ne_eqb}
use Rattle.std.proofs.lemmas.List.{length_push, length-append, length-map}
use Rattle.std.proofs.lemmas.List.Elements.{filter-append}
use Rattle.mn_base.specs.Among.{Among}
use Rattle.mn_base.specs.declared.due.Due.{Due}
use Rattle.mn_base.specs.declared.limits.TheConstants.{PACKETS_MAX, TIME_NS_END}
use Rattle.pipe.specs.declared.step.Step.{Step}
use Rattle.pipe.specs.Scheme.{Rises}
use Rattle.journal.specs.declared.visit.Visit.{Visit}
use Rattle.journal.specs.SetupView.{SetupView}
use Rattle.journal.specs.IsSetup.{IsSetup}
use Rattle.journal.specs.Hops.{due_of, pipe_of}
use Rattle.journal.specs.IsJournal.{scheme_of}
use Rattle.journal.specs.Journal.{journal_of}
use Rattle.journal.specs.Steps.{past_visit, visits_to, visit_of}
use Rattle.parcel.specs.Owners.{owner_of}
use Rattle.core_loop.specs.Work.{WorkView, OwnPipesView, HaveRun, ComesTo, Chooses, Makes, own_count}
use Rattle.pipe.proofs.CanonicalOrder.{before-tick}
use Rattle.pipe.proofs.Origins.{rises-across}
use Rattle.journal.proofs.Orderly.{visit-pipe}
use Rattle.journal.proofs.Meets.{meets, journal-grows}
use Rattle.journal.proofs.Times.{due_fits}
use Rattle.journal.proofs.FewVisits.{few_packets, few_visits}
use Rattle.parcel.proofs.Origins.{visit-named}
use Rattle.core_loop.proofs.Kept.{filter-skip, filter-last}
use Rattle.core_loop.proofs.OwnRuns.{have_run-skip}
use Rattle.core_loop.proofs.Following.{v-among}

module _ (w : WorkView) (x : Due) (c : Chooses w x) where
  abbrev S : SetupView
  S = w.setup

  abbrev v : Visit
  v = c.chosen.visit

  -- all visits before it
  abbrev pub before : List Visit
  before = c.front ++ c.chosen.skipped

  is : IsSetup w.setup
  is = c.split.is_setup

  whole : (c.front ++ c.chosen.skipped) ++ c.chosen.visit ∷ c.chosen.behind ≡ journal_of w.setup
  whole =
      append_assoc c.front c.chosen.skipped (c.chosen.visit ∷ c.chosen.behind)
      ∙ ap (λ (l : List Visit). c.front ++ l) (sym c.chosen.next.split)
      ∙ c.split.whole

  among : Among c.chosen.visit (journal_of w.setup)
  among = v-among c.split c.chosen

  at_pipe : c.chosen.visit.pipe ≡ pipe_of w.setup x
  at_pipe = visit-pipe w.setup (journal_of w.setup) c.chosen.visit (meets w.setup is).made among ∙ ap (pipe_of w.setup) c.chosen.is_due

  -- the visit that is made is the journal's
  pub visit_is : visit_of w.setup (c.front ++ c.chosen.skipped) x ≡ c.chosen.visit
  visit_is =
      sym ((meets w.setup is).made (c.front ++ c.chosen.skipped) c.chosen.behind c.chosen.visit (sym whole)
      ∙ ap (visit_of w.setup (c.front ++ c.chosen.skipped)) c.chosen.is_due)

  pub comes-to : (pipe : ℕ) → pipe ≡ pipe_of w.setup x → ComesTo w.setup w.number (c.front ++ c.chosen.skipped) x pipe w.pipes
  comes-to pipe at = record {
    have_run = have_run-skip w.setup w.number c.front c.chosen.skipped c.chosen.next.others w.pipes c.have_left.pipes_have_run;
    owner = ap (owner_of w.setup) same ∙ c.chosen.next.owner;
    named = (let n : c.chosen.visit.pipe < length w.setup.pipes = visit-named w.setup is c.chosen.visit among in omega (arith, n, same));
    at_pipe = at;
    order = order;
    time = subst (λ (d : Due). d.tick * w.setup.tick_ns < TIME_NS_END) c.chosen.is_due
        (due_fits w.setup is (journal_of w.setup) (journal-grows w.setup is) (due_of c.chosen.visit)
        ((journal-grows w.setup is).sound c.chosen.visit among));
    few = few;
  }
    where
      same : pipe ≡ c.chosen.visit.pipe
      same = at ∙ sym at_pipe

      order : (u : Visit) → Among u (c.front ++ c.chosen.skipped) → u.tick ≤ x.tick
      order u a =
          let rise : Rises (scheme_of w.setup) ((c.front ++ c.chosen.skipped) ++ c.chosen.visit ∷ c.chosen.behind) =
          subst (Rises (scheme_of w.setup)) (sym whole) (meets w.setup is).rises in
          let l : u.tick ≤ c.chosen.visit.tick =
          before-tick (due_of u) (due_of c.chosen.visit)
          (rises-across (scheme_of w.setup) (c.front ++ c.chosen.skipped) (c.chosen.visit ∷ c.chosen.behind) u c.chosen.visit rise a (inl refl)) in
          let t : c.chosen.visit.tick ≡ x.tick = ap (λ (d : Due). d.tick) c.chosen.is_due in
          omega (arith, l, t)

      few : length (visits_to w.setup pipe (c.front ++ c.chosen.skipped)) < PACKETS_MAX
      few =
          let all : length (visits_to w.setup pipe (journal_of w.setup)) ≤ length w.setup.packets =
          few_visits w.setup is (journal_of w.setup) (journal-grows w.setup is) pipe in
          let packets : length w.setup.packets ≤ PACKETS_MAX = few_packets w.setup is in
          let to : Visit → Bool = λ u. u.pipe == pipe in
          let first : length (filter to (c.chosen.visit ∷ c.chosen.behind)) ≡ length (filter to c.chosen.behind) + 1 =
          ap (λ (b : Bool). length (cond b (c.chosen.visit ∷ filter to c.chosen.behind) (filter to c.chosen.behind))) (eq-eqb _ _ (sym same))
          ∙ omega arith in
          let parts : length (filter to (journal_of w.setup))
          ≡ length (filter to (c.front ++ c.chosen.skipped)) + length (filter to (c.chosen.visit ∷ c.chosen.behind)) =
          ap (λ (l : List Visit). length (filter to l)) (sym whole)
          ∙ ap length (filter-append to (c.front ++ c.chosen.skipped) (c.chosen.visit ∷ c.chosen.behind))
          ∙ length-append (filter to (c.front ++ c.chosen.skipped)) (filter to (c.chosen.visit ∷ c.chosen.behind)) in
          let here : length (visits_to w.setup pipe (c.front ++ c.chosen.skipped)) ≡ length (filter to (c.front ++ c.chosen.skipped)) =
          length-map (filter to (c.front ++ c.chosen.skipped)) (past_visit w.setup) in
          let there : length (visits_to w.setup pipe (journal_of w.setup)) ≡ length (filter to (journal_of w.setup)) =
          length-map (filter to (journal_of w.setup)) (past_visit w.setup) in
          omega (arith, all, packets, first, parts, here, there)

  -- one own visit more
  count-then : own_count w.setup w.number (c.front ++ (c.chosen.skipped ++ c.chosen.visit ∷ [])) ≡ own_count w.setup w.number c.front + 1
  count-then =
      let own : Visit → Bool = λ u. owner_of w.setup u.pipe == w.number in
      ap (λ (l : List Visit). length (filter own l)) (sym (append_assoc c.front c.chosen.skipped (c.chosen.visit ∷ [])))
      ∙ ap length (filter-last own (c.front ++ c.chosen.skipped) c.chosen.visit (eq-eqb _ _ c.chosen.next.owner))
      ∙ ap (λ (l : List Visit). length (l ++ c.chosen.visit ∷ []))
      (filter-skip own c.front c.chosen.skipped (λ u a. ne_eqb _ _ (c.chosen.next.others u a)))
      ∙ length_push (filter own c.front) c.chosen.visit

  -- with the visit made, and counted
  pub makes : (step : Step) (pipes : OwnPipesView) → step ≡ (visit_of w.setup (c.front ++ c.chosen.skipped) x).step
      → HaveRun w.setup w.number ((c.front ++ c.chosen.skipped) ++ visit_of w.setup (c.front ++ c.chosen.skipped) x ∷ []) pipes
      → Makes (record w { pipes = pipes; counts = record w.counts { visits = w.counts.visits + 1 } }) x step
  makes step pipes step_is run = record {
    front = c.front;
    rest = c.rest;
    split = c.split;
    chosen = c.chosen;
    heap_is = c.heap_is;
    step_is = step_is ∙ ap (λ (u : Visit). u.step) visit_is;
    pipes_have_run =
        subst (λ (l : List Visit). HaveRun w.setup w.number l pipes)
        (ap (λ (u : Visit). (c.front ++ c.chosen.skipped) ++ u ∷ []) visit_is
        ∙ append_assoc c.front c.chosen.skipped (c.chosen.visit ∷ []))
        run;
    visits = (let e : w.counts.visits ≡ own_count w.setup w.number c.front = c.have_left.visits in
        ap (λ (n : ℕ). n + 1) e ∙ sym count-then);
    told_is = c.have_left.told_is;
  }
