-- What comes of a due visit, by the earlier visits to its pipe. No core occurs in it.
use Rattle.std.specs.Prelude.{ℕ, ◌==◌, nat_le, Bool, List, length, filter, map}
use Rattle.mn_base.specs.declared.due.Due.{Due}
use Rattle.pipe.specs.declared.step.Step.{Step}
use Rattle.pipe.specs.Finishes.{PastVisit}
use Rattle.pipe.specs.Steps.{step_at}
use Rattle.loss_words.specs.Word.{loss_word}
use Rattle.journal.specs.declared.setup.LossBy.{LossBy}
use Rattle.journal.specs.declared.setup.LossBy.TheVariants.{Packet, Arrival}
use Rattle.journal.specs.declared.visit.Visit.{Visit}
use Rattle.journal.specs.SetupView.{SetupView, len_of, params_of}
use Rattle.journal.specs.Hops.{pipe_of}

-- what a pipe remembers of a visit
abbrev pub past_visit : SetupView → Visit → PastVisit
past_visit S v = record { tick = v.tick; len = len_of S v.packet; step = v.step }

-- the visits of J to a pipe, in order
abbrev pub visits_to : SetupView → ℕ → List Visit → List PastVisit
visits_to S pipe J = map (past_visit S) (filter (λ v. v.pipe == pipe) J)

-- the place of a loss word in the words of its pipe: the packet's number, or how many visits to the pipe were earlier
abbrev pub place_by : LossBy → ℕ → ℕ → ℕ
place_by Packet packet earlier = packet
place_by Arrival packet earlier = earlier

abbrev pub word_place : SetupView → Due → List PastVisit → ℕ
word_place S x earlier = place_by S.loss x.packet (length earlier)

-- a visit is lost if and only if its loss word is at least the keep of the pipe at that tick
abbrev pub is_lost : SetupView → ℕ → Due → List PastVisit → Bool
is_lost S pipe x earlier =
    nat_le (params_of S pipe x.tick).keep (loss_word S.seed pipe (word_place S x earlier))

-- what comes of a visit to a pipe, by the earlier visits to it
unfoldable pub step_of : SetupView → ℕ → Due → List PastVisit → Step
step_of S pipe x earlier =
    step_at (params_of S pipe) S.tick_ns earlier x.tick (len_of S x.packet) (is_lost S pipe x earlier)

-- the visit that comes of x, where J is all that was before
abbrev pub visit_of : SetupView → List Visit → Due → Visit
visit_of S J x = record {
  tick = x.tick;
  packet = x.packet;
  hop = x.hop;
  pipe = pipe_of S x;
  step = step_of S (pipe_of S x) x (visits_to S (pipe_of S x) J);
}
