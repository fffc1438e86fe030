-- What stands after each step of `check`, after the inputs of its plan.
use Rattle.std.proofs.Common.{◌≡◌, ◌<◌, ◌+◌, ℕ, List, [], ◌∷◌, ◌++◌, length, Option, Some, None, Result, Ok, Err, refl, sym, ◌∙◌, ap, subst, inl, inr, arith}
use Rattle.std.proofs.lemmas.List.{append-nil}
use Rattle.mn_base.specs.declared.refusal.Refusal.{Refusal}
use Rattle.mn_base.specs.declared.refusal.Refusal.TheVariants as refusal
use Rattle.mn_base.specs.Refused.{IfFault}
use Rattle.mn_edge.specs.declared.role.Role.{Role}
use Rattle.mn_edge.specs.declared.role.Role.TheVariants.{Directory, Journal, Screen}
use Rattle.topo.specs.TopologyView.{TopologyView}
use Rattle.gml_reader.specs.Texts.{Reads}
use Rattle.pcap_io.specs.Capture.{Capture}
use Rattle.pcapng_in.specs.CaptureFile.{SaysTrace}
use Rattle.journal.specs.Journal.{journal_of}
use Rattle.journal_check.specs.declared.fault.JournalFault.{JournalFault}
use Rattle.journal_check.specs.Faults.{JournalFirst}
use Rattle.journal_check.specs.Texts.{journal_out}
use Rattle.plan.specs.declared.faults.PlanFault.{PlanFault}
use Rattle.plan.specs.Faults.{PlanFirst}
use Rattle.plan.specs.PlannedView.{PlannedView}
use Rattle.plan.specs.Setups.{IsPlan}
use Rattle.mn_words.specs.Order.{CheckView}
use Rattle.modelnet.specs.declared.read_limits.ReadLimits.{ReadLimits}
use Rattle.modelnet.specs.declared.status.Status.{Status}
use Rattle.modelnet.specs.declared.status.Status.TheVariants.{NoMemory, BadTopology, BadTrace, BadPlan, BadJournal, BadCapture}
use Rattle.modelnet.specs.Commands.{Host, ReadInputs, ReadsNot, inputs_of, bytes_read, Answered, status_of}
use Rattle.modelnet.specs.Exact.{IsRefusal, NoMemoryOrRefuses}
use Rattle.modelnet.specs.Journals.{check_planning, IsJournalRead, HasChecked, check_refuses, check_writes, right_line}
use Rattle.modelnet.specs.Planning.{directory_inputs, planning_inputs, IsDirectoryRead, reading_refuses, reading_command}
use Rattle.modelnet.specs.PlanSteps.{HasInputs}
use Rattle.modelnet.specs.Progress.{HasRead, HasJustRead, HasStopped}
use Rattle.modelnet.specs.Roles.{Input, input, ReadsInput, WritesOutput}
use Rattle.modelnet.specs.Statuses.{plan_refusal, journal_refusal}
use Rattle.modelnet.specs.TheCommands.{journal_input, check_command}
use Rattle.modelnet.specs.Writing.{the_screen}
use Rattle.modelnet.proofs.CheckSound.{check_is_sound}
use Rattle.modelnet.proofs.Halves.{IsFrontOf, AreApart, stops_in_front, front_is_read, ends_as_it_writes}
use Rattle.modelnet.proofs.OneAfterAnother.{Others, bytes_read_push, just_read, accepted, stops_reading, refused, no_memory_after}
use Rattle.modelnet.proofs.OneToOne.{HasInput, named_input}
use Rattle.modelnet.proofs.PlanReads.{reading_is_fine, directory_length}
use Rattle.modelnet.proofs.RunEnds.{is_unread, screen_is_unread}
use Rattle.modelnet.proofs.Writes.{one_text_ends}

-- the journal is read after the directory
journal_length : (limits : ReadLimits) (named : Option (List ℕ)) (rest : List (List ℕ)) (given : Option (List ℕ)) (journal : List ℕ)
    → IsJournalRead named rest given journal → length rest ≡ length (directory_inputs limits named) + 1
journal_length limits None (text ∷ []) None journal is = refl
journal_length limits (Some name) (directory ∷ text ∷ []) (Some given) journal is = refl
journal_length limits named rest given journal is = absurd is

-- so the directory alone is no directory and journal
too_few : (limits : ReadLimits) (named : Option (List ℕ)) (rest : List (List ℕ)) (given other : Option (List ℕ)) (journal : List ℕ)
    → IsDirectoryRead named rest given → IsJournalRead named rest other journal → ⊥
too_few limits named rest given other journal is also =
    omega (arith, directory_length limits named rest given is, journal_length limits named rest other journal also)

both_read : (named : Option (List ℕ)) (rest : List (List ℕ)) (directory : Option (List ℕ)) (journal : List ℕ)
    → IsDirectoryRead named rest directory → IsJournalRead named (rest ++ journal ∷ []) directory journal
both_read None [] None journal is = refl
both_read (Some name) (text ∷ []) (Some given) journal is = (is, refl)
both_read named rest directory journal is = absurd is

module _ (limits : ReadLimits) (order : CheckView) where
  reading_refused : (bytes : List (List ℕ)) (status : Status) → reading_refuses bytes status → check_refuses order bytes status
  reading_refused (topology ∷ []) (BadTopology fault) is = is
  reading_refused (topology ∷ trace ∷ []) (BadTrace fault) is = is
  reading_refused (topology ∷ trace ∷ []) (BadCapture fault) is = is
  reading_refused bytes status is = absurd is

  nothing_checked_yet : (bytes : List (List ℕ)) (status : Status)
      → length bytes < length (planning_inputs limits (check_planning order)) → check_refuses order bytes status → reading_refuses bytes status
  nothing_checked_yet (topology ∷ trace ∷ rest) (BadPlan fault) short is =
      let whole = journal_length limits order.directory rest is.directory is.journal is.given in absurd (omega (arith, short, whole))
  nothing_checked_yet (topology ∷ trace ∷ rest) (BadJournal fault) short is =
      let whole = journal_length limits order.directory rest is.checked.directory is.journal is.checked.given in
      absurd (omega (arith, short, whole))
  nothing_checked_yet bytes status short is = is

  abbrev check_begins : IsFrontOf (reading_command limits (check_planning order)) (check_command limits order)
  check_begins = record {
    later = journal_input limits order ∷ [];
    inputs = refl;
    outputs = refl;
    also = reading_refused;
    fewer = nothing_checked_yet;
  }

  -- the inputs of the plan can't all be read
  pub check_stops : (old new : Host) (status : Status) → HasStopped (reading_command limits (check_planning order)) old new status
      → Answered (check_command limits order) old new status
  check_stops old new status stopped =
      let here = stops_in_front (reading_command limits (check_planning order)) (check_command limits order) check_begins old new status
      stopped in
      here.answered

  -- they were all read, and nothing is refused before the journal is read
  inputs_are_fine : (text trace_text : List ℕ) (rest : List (List ℕ)) (directory : Option (List ℕ)) (trace : Capture)
      → IsDirectoryRead order.directory rest directory → SaysTrace trace_text trace
      → (status : Status) → check_refuses order (text ∷ trace_text ∷ rest) status → ⊥
  inputs_are_fine text trace_text rest directory trace given says (BadPlan fault) is =
      too_few limits order.directory rest directory is.directory is.journal given is.given
  inputs_are_fine text trace_text rest directory trace given says (BadJournal fault) is =
      too_few limits order.directory rest directory is.checked.directory is.journal given is.checked.given
  inputs_are_fine text trace_text rest directory trace given says status is = reading_is_fine text trace_text rest trace says status is

  journal_is_next : (topology : TopologyView) (trace : Capture) (directory : Option (List ℕ)) (old mid : Host)
      (has : HasInputs limits (check_planning order) topology trace directory old mid)
      → HasRead (check_command limits order) has.read (journal_input limits order ∷ []) old mid
  journal_is_next topology trace directory old mid has =
      accepted (check_command limits order) has.read (journal_input limits order ∷ []) old mid
      (front_is_read (reading_command limits (check_planning order)) (check_command limits order) check_begins has.read old mid has.so_far)
      (subst (λ bytes. (status : Status) → check_refuses order bytes status → ⊥) (sym has.bytes_are)
      (inputs_are_fine has.text has.trace_text has.rest directory trace has.given has.says))

  pub journal_is_unread : (topology : TopologyView) (trace : Capture) (directory : Option (List ℕ)) (old mid : Host)
      (has : HasInputs limits (check_planning order) topology trace directory old mid) → ReadsNot (inputs_of has.read) Journal
  journal_is_unread topology trace directory old mid has =
      subst (λ inputs. ReadsNot inputs Journal) (has.so_far.inputs ∙ append-nil (inputs_of has.read))
      (is_unread limits (check_planning order) Journal (λ is. cc) (λ is. cc) (λ is. cc))

  -- it is as at entry when they were read
  pub journal_is_as_at_entry : (topology : TopologyView) (trace : Capture) (directory : Option (List ℕ)) (old mid : Host)
      → HasInputs limits (check_planning order) topology trace directory old mid → mid Journal ≡ old Journal
  journal_is_as_at_entry topology trace directory old mid has =
      has.so_far.stands.others Journal (journal_is_unread topology trace directory old mid has) tt

  -- the journal can't be read whole
  pub journal_stops : {topology : TopologyView} {trace : Capture} {directory : Option (List ℕ)} {old mid : Host} (new : Host)
      (status : Status) {name : List ℕ} → HasInputs limits (check_planning order) topology trace directory old mid → name ≡ order.journal
      → ReadsInput (input Journal name limits.journal) (mid Journal) (new Journal) (Err status) → Others Journal mid new
      → Answered (check_command limits order) old new status
  journal_stops {topology} {trace} {directory} {old} {mid} new status has named own others =
      stops_reading (check_command limits order) has.read (journal_input limits order) [] status old mid new
      (journal_is_next topology trace directory old mid has) (journal_is_unread topology trace directory old mid has)
      (subst (λ n. ReadsInput (input Journal n limits.journal) (mid Journal) (new Journal) (Err status)) named own) others

  -- all was read, and the bytes say these
  pub record HasAll (topology : TopologyView) (trace : Capture) (directory : Option (List ℕ)) (journal : List ℕ) (old new : Host) : Type 0 where
    pub mid : Host
    pub inputs : HasInputs limits (check_planning order) topology trace directory old mid
    pub read : HasInput (journal_input limits order) journal mid new

  module _ {topology : TopologyView} {trace : Capture} {directory : Option (List ℕ)} {journal : List ℕ} {old new : Host}
      (has : HasAll topology trace directory journal old new) where
    abbrev all_reads : ReadInputs
    all_reads = has.inputs.read ++ (journal_input limits order, journal) ∷ []

    all_read : HasJustRead (check_command limits order) all_reads [] old new
    all_read =
        just_read (check_command limits order) has.inputs.read (journal_input limits order) [] journal old has.mid new
        (journal_is_next topology trace directory old has.mid has.inputs)
        (journal_is_unread topology trace directory old has.mid has.inputs)
        (named_input (journal_input limits order) journal has.mid new has.read) has.read.others

    bytes_are : bytes_read all_reads ≡ has.inputs.text ∷ has.inputs.trace_text ∷ (has.inputs.rest ++ journal ∷ [])
    bytes_are =
        bytes_read_push has.inputs.read (journal_input limits order, journal) ∙ ap (λ bytes. bytes ++ journal ∷ []) has.inputs.bytes_are

    behind : IsJournalRead order.directory (has.inputs.rest ++ journal ∷ []) directory journal
    behind = both_read order.directory has.inputs.rest directory journal has.inputs.given

    checked : (planned : PlannedView) → IsPlan topology trace (check_planning order).options directory planned
        → HasChecked order has.inputs.text has.inputs.trace_text (has.inputs.rest ++ journal ∷ []) planned journal
    checked planned plan = record {
      directory = directory;
      given = behind;
      plans = record { target = topology; capture = trace; reads = has.inputs.reads; says = has.inputs.says; plan = plan };
    }

    refused_here : (status : Status)
        → NoMemoryOrRefuses (check_refuses order) (has.inputs.text ∷ has.inputs.trace_text ∷ (has.inputs.rest ++ journal ∷ [])) status
        → Answered (check_command limits order) old new status
    refused_here status is =
        let sound = check_is_sound limits order in
        refused (check_command limits order) all_reads [] status old new sound.refusals all_read
        (subst (λ bytes. NoMemoryOrRefuses (check_refuses order) bytes status) (sym bytes_are) is)

    plan_refuses : (refusal : Refusal PlanFault) → IfFault refusal (PlanFirst topology (check_planning order).options directory)
        → NoMemoryOrRefuses (check_refuses order) (has.inputs.text ∷ has.inputs.trace_text ∷ (has.inputs.rest ++ journal ∷ []))
        (plan_refusal refusal)
    plan_refuses refusal.NoMemory first = inl refl
    plan_refuses (refusal.Fault fault) first = inr (record {
      directory = directory;
      journal = journal;
      given = behind;
      has = record { target = topology; capture = trace; reads = has.inputs.reads; says = has.inputs.says; first = first };
    })

    -- the inputs have no plan
    pub plan_refused : (refusal : Refusal PlanFault) → IfFault refusal (PlanFirst topology (check_planning order).options directory)
        → Answered (check_command limits order) old new (plan_refusal refusal)
    plan_refused refusal first = refused_here (plan_refusal refusal) (plan_refuses refusal first)

    journal_refuses : (planned : PlannedView) (refusal : Refusal JournalFault)
        → IsPlan topology trace (check_planning order).options directory planned
        → IfFault refusal (JournalFirst (journal_of planned.setup) journal)
        → NoMemoryOrRefuses (check_refuses order) (has.inputs.text ∷ has.inputs.trace_text ∷ (has.inputs.rest ++ journal ∷ []))
        (journal_refusal refusal)
    journal_refuses planned refusal.NoMemory plan first = inl refl
    journal_refuses planned (refusal.Fault fault) plan first =
        inr (record { planned = planned; journal = journal; checked = checked planned plan; first = first })

    -- the journal isn't that of the plan
    pub journal_refused : (planned : PlannedView) (refusal : Refusal JournalFault)
        → IsPlan topology trace (check_planning order).options directory planned
        → IfFault refusal (JournalFirst (journal_of planned.setup) journal)
        → Answered (check_command limits order) old new (journal_refusal refusal)
    journal_refused planned refusal plan first = refused_here (journal_refusal refusal) (journal_refuses planned refusal plan first)

    -- memory was refused when all was read
    pub without_memory : Answered (check_command limits order) old new NoMemory
    without_memory = no_memory_after (check_command limits order) all_reads [] old new all_read

    all_inputs : (check_command limits order).inputs ≡ inputs_of all_reads
    all_inputs = all_read.inputs ∙ append-nil (inputs_of all_reads)

    -- the screen is no input
    screen_apart : AreApart (planning_inputs limits (check_planning order) ++ journal_input limits order ∷ []) (the_screen ∷ [])
    screen_apart =
        (both_unread (planning_inputs limits (check_planning order)) (screen_is_unread limits (check_planning order)), tt)
      where
        both_unread : (inputs : List Input) → ReadsNot inputs Screen → ReadsNot (inputs ++ journal_input limits order ∷ []) Screen
        both_unread [] none = (λ is. cc, tt)
        both_unread (i ∷ inputs) none = (none.0, both_unread inputs none.1)

    -- it is as at entry then
    pub screen_is_as_at_entry : new Screen ≡ old Screen
    screen_is_as_at_entry = all_read.stands.others Screen (subst (λ inputs. ReadsNot inputs Screen) all_inputs screen_apart.0) tt

    -- the journal is right, and the line that says so was written whole, or can't be
    pub check_ends : {planned : PlannedView} {text bytes : List ℕ} (last : Host) (result : Result (Unit {0}) Status)
        → IsPlan topology trace (check_planning order).options directory planned → journal ≡ journal_out (journal_of planned.setup)
        → text ≡ right_line (length (journal_of planned.setup)) → bytes ≡ text
        → WritesOutput the_screen bytes (new Screen) (last Screen) result → Others Screen new last
        → Answered (check_command limits order) old last (status_of result)
    check_ends {planned} {text} {bytes} last result plan right is same own others =
        ends_as_it_writes (check_command limits order) all_reads ((the_screen, text) ∷ []) old new last (record {
          inputs = all_inputs;
          outputs = refl;
          apart = subst (λ inputs. AreApart inputs (the_screen ∷ [])) all_inputs screen_apart;
          says = subst (λ read. check_writes order read (text ∷ [])) (sym bytes_are)
              (record { planned = planned; journal = journal; checked = checked planned plan; right = right; screen_is = is });
          stands = all_read.stands;
        }) (status_of result) (one_text_ends the_screen text bytes new last result same own others)
