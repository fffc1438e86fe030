-- The journal of pipes in a row whose queues drop early: what a journal is stands in crate pipe, for any kind of visits.
use Rattle.std.specs.Prelude.{ℕ, ◌+◌, ◌*◌, ◌==◌, Bool, nat_le, nat_lt, List, [], length, filter, map, Option, Some, None, slice_get, if◌then◌else◌}
use Rattle.std.specs.List.{enumerate_from}
use Rattle.std.specs.Option.{option_map_or}
use Rattle.mn_base.specs.declared.due.Due.{Due}
use Rattle.loss_words.specs.Word.{loss_word, early_word}
use Rattle.pipe.specs.Scheme.{Scheme, IsJournalBy, grown_by}
use Rattle.red_queue.specs.declared.params.RedParams.{RedParams}
use Rattle.red_queue.specs.declared.setup.RedPacket.{RedPacket}
use Rattle.red_queue.specs.declared.step.RedStep.{RedStep}
use Rattle.red_queue.specs.declared.step.RedStep.TheVariants.{Lost, Early, Full, Pass}
use Rattle.red_queue.specs.declared.visit.RedVisit.{RedVisit}
use Rattle.red_queue.specs.Outcome.{RedPast, red_outcome}
use Rattle.red_queue.specs.SetupView.{RedSetupView, red_len_of}

-- the due visit that a visit was
abbrev pub red_due_of : RedVisit → Due
red_due_of v = record { tick = v.tick; packet = v.packet; hop = v.hop }

-- a packet comes to the first pipe when it enters
abbrev pub red_entry : ℕ × RedPacket → Due
red_entry numbered = let packet = numbered.1 in record { tick = packet.entry_tick; packet = numbered.0; hop = 0 }

-- a packet that passed comes to the next pipe of the row, if there is one, when it leaves this one
abbrev pub red_hop_after : RedSetupView → ℕ → ℕ → RedStep → Option Due
red_hop_after R packet hop Lost = None
red_hop_after R packet hop Early = None
red_hop_after R packet hop Full = None
red_hop_after R packet hop (Pass exit) =
    if nat_lt (hop + 1) (length R.pipes) then Some (record { tick = exit; packet = packet; hop = hop + 1 }) else None

abbrev pub red_next_hop : RedSetupView → RedVisit → Option Due
red_next_hop R v = red_hop_after R v.packet v.hop v.step

-- what a pipe remembers of a visit
abbrev pub red_past_visit : RedSetupView → RedVisit → RedPast
red_past_visit R v = record { tick = v.tick; len = red_len_of R v.packet; step = v.step }

-- the visits of J to the pipe of this number, in order
abbrev pub red_visits_to : RedSetupView → ℕ → List RedVisit → List RedPast
red_visits_to R hop J = map (red_past_visit R) (filter (λ v. v.hop == hop) J)

-- a visit is lost if and only if its loss word is at least the pipe's keep; the place of the word is the packet's number
abbrev pub red_is_lost : RedSetupView → RedParams → Due → Bool
red_is_lost R p x = let base = p.base in nat_le base.keep (loss_word R.seed x.hop x.packet)

-- what comes of a due visit to a pipe of these parameters, by the earlier visits to it
abbrev pub outcome_at : RedSetupView → Due → List RedPast → RedParams → RedStep
outcome_at R x h p =
    red_outcome p R.tick_ns h x.tick (red_len_of R x.packet) (red_is_lost R p x) (early_word R.seed x.hop x.packet)

-- the same at its own pipe of the row; there is none after the last
unfoldable pub red_step_of : RedSetupView → Due → List RedPast → RedStep
red_step_of R x h = option_map_or (outcome_at R x h) (slice_get R.pipes x.hop) Lost

-- the visit that comes of x, where J is all that was before
abbrev pub red_visit_of : RedSetupView → List RedVisit → Due → RedVisit
red_visit_of R J x = record {
  tick = x.tick;
  packet = x.packet;
  hop = x.hop;
  step = red_step_of R x (red_visits_to R x.hop J);
}

abbrev pub red_scheme : RedSetupView → Scheme RedVisit
red_scheme R = record {
  first = map red_entry (enumerate_from 0 R.packets);
  due_of = red_due_of;
  next = red_next_hop R;
  make = red_visit_of R;
}

-- J rises strictly by tick and packet number, has what is due by its own visits and nothing else, and each of its visits is what the
-- visits before it make of it
abbrev pub IsRedJournal : RedSetupView → List RedVisit → Type 0
IsRedJournal R J = IsJournalBy (red_scheme R) J

-- the journal, grown by the least visit that is pending, once for each packet and pipe
unfoldable pub red_journal_of : RedSetupView → List RedVisit
red_journal_of R = grown_by (red_scheme R) (length R.packets * length R.pipes) []
