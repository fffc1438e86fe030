-- `check` is sound: a journal is that of its plan, or it first differs at one place.
use Rattle.std.proofs.Common.{◌≡◌, inl, inr, ℕ, List, [], ◌∷◌, ◌++◌, length, Option, Some, None, refl, sym, ◌∙◌, ap}
use Rattle.gml_reader.specs.declared.faults.GmlFault.{GmlFault}
use Rattle.gml_reader.specs.Texts.{IsFirstFault}
use Rattle.journal.specs.Journal.{journal_of}
use Rattle.journal_check.specs.declared.fault.JournalFault.{JournalFault}
use Rattle.journal_check.specs.Faults.{JournalFirst}
use Rattle.journal_check.specs.Laws.{NeverBoth, OneFault}
use Rattle.journal_check.specs.Texts.{journal_out, journal_lines}
use Rattle.journal_check.proofs.JournalLines.{journal_lines-whole}
use Rattle.journal_check.proofs.Partings as partings
use Rattle.plan.specs.PlannedView.{PlannedView}
use Rattle.mn_words.specs.Order.{CheckView}
use Rattle.modelnet.specs.declared.read_limits.ReadLimits.{ReadLimits}
use Rattle.modelnet.specs.declared.status.Status.{Status}
use Rattle.modelnet.specs.declared.status.Status.TheVariants.{BadTopology, BadPlan, BadJournal}
use Rattle.modelnet.specs.Exact.{IsRefusal, IsSoundCommand}
use Rattle.modelnet.specs.Journals.{check_planning, IsJournalRead, check_refuses, check_writes, right_line}
use Rattle.modelnet.specs.TheCommands.{check_command}
use Rattle.modelnet.proofs.PlainPlanner.{reading_cause}
use Rattle.modelnet.proofs.PlannerSound.{Planner, Cause, IsWritten, planner_is_sound}

never_both : NeverBoth
unfolding journal_out
never_both visits text fault = partings.no_fault (journal_lines visits) text fault (journal_lines-whole visits)

one_fault : OneFault
one_fault visits text fault other = partings.one_fault (journal_lines visits) text fault other (journal_lines-whole visits)

-- what is read after the trace: the directory, if there is one, and the journal
abbrev Behind : Type 0
Behind = Option (List ℕ) × List ℕ

abbrev check_plan_refuses : Behind → PlannedView → Status → Type 0
check_plan_refuses behind planned (BadJournal fault) = JournalFirst (journal_of planned.setup) behind.1 fault
check_plan_refuses behind planned refusal = ⊥

-- what is written of a plan
abbrev check_says : Behind → PlannedView → List (List ℕ) → Type 0
check_says behind planned (screen ∷ []) =
    (behind.1 ≡ journal_out (journal_of planned.setup)) × (screen ≡ right_line (length (journal_of planned.setup)))
check_says behind planned written = ⊥

abbrev check_planner : CheckView → Planner
check_planner order = record {
  Behind = Behind;
  options = (check_planning order).options;
  is_behind = λ rest behind. IsJournalRead order.directory rest behind.0 behind.1;
  directory = λ behind. behind.0;
  refuses = check_plan_refuses;
  writes = check_says;
}

-- what refuses a topology alone is its first fault
topology_alone : (order : CheckView) (topology : List ℕ) (status : Status) → check_refuses order (topology ∷ []) status
    → (fault : GmlFault) × (status ≡ BadTopology fault) × IsFirstFault topology fault
topology_alone order topology (BadTopology fault) is = (fault, refl, is)
topology_alone order topology status is = absurd is

check_cause : (order : CheckView) (topology trace : List ℕ) (rest : List (List ℕ)) (status : Status)
    → check_refuses order (topology ∷ trace ∷ rest) status → Cause (check_planner order) topology trace rest status
check_cause order topology trace rest (BadPlan fault) is =
    inr (inl (record { behind = (is.directory, is.journal); given = is.given; fault = fault; status_is = refl; has = is.has }))
check_cause order topology trace rest (BadJournal fault) is =
    inr (inr (record {
      behind = (is.checked.directory, is.journal);
      planned = is.planned;
      has = record { given = is.checked.given; plans = is.checked.plans };
      refused = is.first;
    }))
check_cause order topology trace rest status is = inl (reading_cause topology trace rest status is)

check_written : (order : CheckView) (topology trace : List ℕ) (rest outs : List (List ℕ)) → check_writes order (topology ∷ trace ∷ rest) outs
    → IsWritten (check_planner order) topology trace rest outs
check_written order topology trace rest [] says = absurd says
check_written order topology trace rest (screen ∷ more ∷ outs) says = absurd says
check_written order topology trace rest (screen ∷ []) says = record {
  behind = (says.checked.directory, says.journal);
  planned = says.planned;
  has = record { given = says.checked.given; plans = says.checked.plans };
  written = (says.right, says.screen_is);
}

-- a directory and a journal
abbrev both : Option (List ℕ) → List ℕ → Behind
both directory journal = (directory, journal)

one_pair : (given other : Option (List ℕ)) (journal text : List ℕ) → given ≡ other → journal ≡ text → both given journal ≡ both other text
one_pair given other journal text same also = ap (λ d. both d journal) same ∙ ap (λ j. both other j) also

-- what was read after the trace is one directory and one journal, and no more can be read
one_journal : (named : Option (List ℕ)) (front back : List (List ℕ)) (given other : Option (List ℕ)) (journal text : List ℕ)
    → IsJournalRead named front given journal → IsJournalRead named (front ++ back) other text → both given journal ≡ both other text
one_journal None (t ∷ []) [] None None journal text is also = one_pair None None journal text refl (is ∙ sym also)
one_journal (Some name) (d ∷ t ∷ []) [] (Some given) (Some other) journal text is also =
    one_pair (Some given) (Some other) journal text (ap (λ x. Some x) (is.0 ∙ sym also.0)) (is.1 ∙ sym also.1)
one_journal None [] back given other journal text is also = absurd is
one_journal None (t ∷ more ∷ front) back given other journal text is also = absurd is
one_journal None (t ∷ []) back (Some given) other journal text is also = absurd is
one_journal None (t ∷ []) (more ∷ back) None other journal text is also = absurd also
one_journal None (t ∷ []) [] None (Some other) journal text is also = absurd also
one_journal (Some name) [] back given other journal text is also = absurd is
one_journal (Some name) (d ∷ []) back given other journal text is also = absurd is
one_journal (Some name) (d ∷ t ∷ more ∷ front) back given other journal text is also = absurd is
one_journal (Some name) (d ∷ t ∷ []) back None other journal text is also = absurd is
one_journal (Some name) (d ∷ t ∷ []) (more ∷ back) (Some given) other journal text is also = absurd also
one_journal (Some name) (d ∷ t ∷ []) [] (Some given) None journal text is also = absurd also

wrong_is_refusal : (behind : Behind) (planned : PlannedView) (status : Status) → check_plan_refuses behind planned status → IsRefusal status
wrong_is_refusal behind planned (BadJournal fault) is = tt
wrong_is_refusal behind planned status is = absurd is

-- a journal that isn't right is refused by one fault
wrong_by : (behind : Behind) (planned : PlannedView) (status : Status) → check_plan_refuses behind planned status
    → (fault : JournalFault) × (status ≡ BadJournal fault) × JournalFirst (journal_of planned.setup) behind.1 fault
wrong_by behind planned (BadJournal fault) is = (fault, refl, is)
wrong_by behind planned status is = absurd is

one_wrong : (behind : Behind) (planned : PlannedView) (one other : Status) → check_plan_refuses behind planned one
    → check_plan_refuses behind planned other → one ≡ other
one_wrong behind planned one other is also =
    let f = wrong_by behind planned one is in
    let g = wrong_by behind planned other also in
    f.1 ∙ ap (λ x. BadJournal x) (one_fault (journal_of planned.setup) behind.1 f.0 g.0 f.2 g.2) ∙ sym g.1

wrong_or_right : (behind : Behind) (planned : PlannedView) (status : Status) (outs : List (List ℕ)) → check_plan_refuses behind planned status
    → check_says behind planned outs → ⊥
wrong_or_right behind planned status [] is says = says
wrong_or_right behind planned status (screen ∷ more ∷ outs) is says = says
wrong_or_right behind planned status (screen ∷ []) is says =
    let f = wrong_by behind planned status is in never_both (journal_of planned.setup) behind.1 f.0 says.0 f.2

check_one_output : (behind : Behind) (planned : PlannedView) (outs others : List (List ℕ)) → check_says behind planned outs
    → check_says behind planned others → outs ≡ others
check_one_output behind planned (screen ∷ []) (other ∷ []) says also = ap (λ s. s ∷ []) (says.1 ∙ sym also.1)
check_one_output behind planned [] others says also = absurd says
check_one_output behind planned (screen ∷ more ∷ outs) others says also = absurd says
check_one_output behind planned (screen ∷ []) [] says also = absurd also
check_one_output behind planned (screen ∷ []) (other ∷ more ∷ others) says also = absurd also

pub check_is_sound : (limits : ReadLimits) (order : CheckView) → IsSoundCommand (check_command limits order)
check_is_sound limits order =
    planner_is_sound (check_command limits order) (check_planner order) (record {
      nothing_refused = λ status refused. refused;
      by_topology = topology_alone order;
      cause = check_cause order;
      nothing_written = λ outs says. says;
      no_trace_written = λ topology outs says. says;
      written = check_written order;
      one_behind = λ front back one other is also. one_journal order.directory front back one.0 other.0 one.1 other.1 is also;
      refusals = wrong_is_refusal;
      one_refusal = one_wrong;
      never_both = wrong_or_right;
      one_output = check_one_output;
    })
