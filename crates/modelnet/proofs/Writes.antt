-- What stands after each text that is written, one role after the other.
use Rattle.std.proofs.Common.{◌≡◌, ◌≢◌, ℕ, List, [], ◌∷◌, Option, Some, None, Result, Ok, Err, refl, subst}
use Rattle.mn_edge.specs.declared.role.Role.TheVariants.{Out, Report, Screen}
use Rattle.modelnet.specs.declared.status.Status.{Status}
use Rattle.modelnet.specs.declared.status.Status.TheVariants.{Done}
use Rattle.modelnet.specs.Roles.{Output, output, WritesOutput}
use Rattle.modelnet.specs.Commands.{Host, Command, WrittenOutputs, outputs_of, bytes_written, Answered, status_of}
use Rattle.modelnet.specs.Progress.{HasWritten}
use Rattle.modelnet.specs.Writing.{writing_command, the_screen, screen_texts, run_writings}
use Rattle.modelnet.proofs.OneAfterAnother.{Others, has_written, stops_writing, is_done}

-- nothing was written yet
texts_are_next : (writes : WrittenOutputs) (host : Host)
    → HasWritten (writing_command writes) [] [] (outputs_of writes) (bytes_written writes) host host
texts_are_next writes host = record {
  inputs = refl;
  outputs = refl;
  says = refl;
  stands = record { read = tt; written = tt; others = λ role r w. refl };
}

-- one text alone was written, or can't be
pub one_text_ends : (at : Output) (text bytes : List ℕ) (old new : Host) (result : Result (Unit {0}) Status) → bytes ≡ text
    → WritesOutput at bytes (old at.role) (new at.role) result → Others at.role old new
    → Answered (writing_command ((at, text) ∷ [])) old new (status_of result)
one_text_ends at text bytes old new (Ok done) same own others =
    let c = writing_command ((at, text) ∷ []) in
    is_done c [] ((at, text) ∷ []) old new
    (has_written c [] [] at [] text [] old old new (texts_are_next ((at, text) ∷ []) old) tt tt
    (subst (λ b. WritesOutput at b (old at.role) (new at.role) (Ok done)) same own) others)
one_text_ends at text bytes old new (Err status) same own others =
    stops_writing (writing_command ((at, text) ∷ [])) [] [] at [] text [] status old old new (texts_are_next ((at, text) ∷ []) old) tt tt
    (subst (λ b. WritesOutput at b (old at.role) (new at.role) (Err status)) same own) others

report_apart : Report ≢ Out
report_apart is = cc

screen_apart : Screen ≢ Out
screen_apart is = cc

screen_apart_report : Screen ≢ Report
screen_apart_report is = cc

module _ (out_name report_name out report : List ℕ) (screen : Option (List ℕ)) where
  abbrev the_out : Output
  the_out = output Out out_name

  abbrev the_report : Output
  the_report = output Report report_name

  abbrev command : Command
  command = writing_command (run_writings out_name report_name out report screen)

  -- the output trace can't be written whole
  pub out_stops : (old new : Host) (status : Status) → WritesOutput the_out out (old Out) (new Out) (Err status) → Others Out old new
      → Answered command old new status
  out_stops old new status own others =
      stops_writing command [] [] the_out (the_report ∷ outputs_of (screen_texts screen)) out (report ∷ bytes_written (screen_texts screen))
      status old old new (texts_are_next (run_writings out_name report_name out report screen) old) tt tt own others

  -- the output trace was written whole
  pub record HasOut (old new : Host) : Type 0 where
    pub own : WritesOutput the_out out (old Out) (new Out) (Ok tt)
    pub others : Others Out old new

  report_is_next : (old new : Host) → HasOut old new
      → HasWritten command [] ((the_out, out) ∷ []) (the_report ∷ outputs_of (screen_texts screen))
      (report ∷ bytes_written (screen_texts screen)) old new
  report_is_next old new has =
      has_written command [] [] the_out (the_report ∷ outputs_of (screen_texts screen)) out (report ∷ bytes_written (screen_texts screen))
      old old new (texts_are_next (run_writings out_name report_name out report screen) old) tt tt has.own has.others

  -- the report can't be written whole
  pub report_stops : (bytes : List ℕ) (old mid new : Host) (status : Status) → HasOut old mid → bytes ≡ report
      → WritesOutput the_report bytes (mid Report) (new Report) (Err status) → Others Report mid new → Answered command old new status
  report_stops bytes old mid new status has same own others =
      stops_writing command [] ((the_out, out) ∷ []) the_report (outputs_of (screen_texts screen)) report
      (bytes_written (screen_texts screen)) status old mid new (report_is_next old mid has) tt (report_apart, tt)
      (subst (λ b. WritesOutput the_report b (mid Report) (new Report) (Err status)) same own) others

  -- and the report was written whole, too
  pub record HasReport (old mid new : Host) : Type 0 where
    pub so_far : HasOut old mid
    pub bytes : List ℕ
    pub same : bytes ≡ report
    pub own : WritesOutput the_report bytes (mid Report) (new Report) (Ok tt)
    pub others : Others Report mid new

  pub screen_is_next : (old mid new : Host) → HasReport old mid new
      → HasWritten command [] ((the_out, out) ∷ (the_report, report) ∷ []) (outputs_of (screen_texts screen))
      (bytes_written (screen_texts screen)) old new
  screen_is_next old mid new has =
      has_written command [] ((the_out, out) ∷ []) the_report (outputs_of (screen_texts screen)) report
      (bytes_written (screen_texts screen)) old mid new (report_is_next old mid has.so_far) tt (report_apart, tt)
      (subst (λ b. WritesOutput the_report b (mid Report) (new Report) (Ok tt)) has.same has.own) has.others

module _ (out_name report_name out report : List ℕ) where
  -- all was written whole, and nothing is shown
  pub all_without_screen : (old mid new : Host) → HasReport out_name report_name out report None old mid new
      → Answered (writing_command (run_writings out_name report_name out report None)) old new Done
  all_without_screen old mid new has =
      is_done (writing_command (run_writings out_name report_name out report None)) []
      ((output Out out_name, out) ∷ (output Report report_name, report) ∷ []) old new
      (screen_is_next out_name report_name out report None old mid new has)

module _ {out_name report_name out report text : List ℕ} {old first second : Host} where
  -- what is shown was written whole, or can't be
  pub screen_ends : (new : Host) (result : Result (Unit {0}) Status)
      → HasReport out_name report_name out report (Some text) old first second
      → WritesOutput the_screen text (second Screen) (new Screen) result → Others Screen second new
      → Answered (writing_command (run_writings out_name report_name out report (Some text))) old new (status_of result)
  screen_ends new (Err status) has own others =
      stops_writing (writing_command (run_writings out_name report_name out report (Some text))) []
      ((output Out out_name, out) ∷ (output Report report_name, report) ∷ []) the_screen [] text [] status old second new
      (screen_is_next out_name report_name out report (Some text) old first second has) tt (screen_apart, (screen_apart_report, tt))
      own others
  screen_ends new (Ok done) has own others =
      let c = writing_command (run_writings out_name report_name out report (Some text)) in
      let before = (output Out out_name, out) ∷ (output Report report_name, report) ∷ [] in
      is_done c [] ((output Out out_name, out) ∷ (output Report report_name, report) ∷ (the_screen, text) ∷ []) old new
      (has_written c [] before the_screen [] text [] old second new
      (screen_is_next out_name report_name out report (Some text) old first second has) tt (screen_apart, (screen_apart_report, tt))
      own others)
