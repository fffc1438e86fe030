-- `migrate` is sound: one move is the first that names no pipe of a plan, or there is one run with the moves.
use Rattle.std.proofs.Common.{◌≡◌, ◌≢◌, ◌<◌, ◌≤◌, ◌⊎◌, inl, inr, ℕ, zero, suc, List, [], ◌∷◌, length, map, take, All, slice_get, Option, Some, refl, sym, ◌∙◌, ap, subst, arith}
use Rattle.std.proofs.lemmas.List.{take_all}
use Rattle.std.proofs.lemmas.List.Elements.{All-head, All-tail}
use Rattle.std.proofs.lemmas.Option.{slice_get_within}
use Rattle.gml_reader.specs.declared.faults.GmlFault.{GmlFault}
use Rattle.gml_reader.specs.Texts.{IsFirstFault}
use Rattle.journal.specs.SetupView.{SetupView}
use Rattle.migrate.proofs.OneRun.{moves_are_one}
use Rattle.plan.specs.PlannedView.{PlannedView}
use Rattle.mn_words.specs.declared.order.MoveSpec.{MoveSpec}
use Rattle.mn_words.specs.Order.{MigrateView}
use Rattle.report.specs.Moves.{moves_text}
use Rattle.modelnet.specs.declared.read_limits.ReadLimits.{ReadLimits}
use Rattle.modelnet.specs.declared.status.Status.{Status}
use Rattle.modelnet.specs.declared.status.Status.TheVariants.{BadTopology, BadPlan, BadMove}
use Rattle.modelnet.specs.Exact.{IsRefusal, IsSoundCommand}
use Rattle.modelnet.specs.Moving.{migrate_planning, move_of, IsFirstBadMove, migrate_refuses, TellsMoves, IsMovedRun, migrate_writes, RefusesMoves}
use Rattle.modelnet.specs.Planning.{IsDirectoryRead}
use Rattle.modelnet.specs.TheCommands.{migrate_command}
use Rattle.modelnet.proofs.OneRun.{one_run_of}
use Rattle.modelnet.proofs.PlainPlanner.{reading_cause}
use Rattle.modelnet.proofs.PlannerSound.{Planner, Cause, IsWritten, one_directory, planner_is_sound}

-- what holds of each element of a front holds of each that is named by a number within it
holds_before : {X : Type 0} (P : X → Type 0) (xs : List X) (m n : ℕ) (y : X) → All P (take m xs) → slice_get xs n ≡ Some y → n < m → P y
holds_before P [] m n y all is low = absurd cc
holds_before P (x ∷ xs) zero n y all is low = absurd (omega (arith, low))
holds_before P (x ∷ xs) (suc m) zero y all is low = let same : x ≡ y = cc in subst P same (All-head P x (take m xs) all)
holds_before P (x ∷ xs) (suc m) (suc n) y all is low = holds_before P xs m n y (All-tail P x (take m xs) all) is (omega (arith, low))

holds_at : {X : Type 0} (P : X → Type 0) (xs : List X) (n : ℕ) (y : X) → All P xs → slice_get xs n ≡ Some y → P y
holds_at P xs n y all is =
    holds_before P xs (length xs) n y (subst (λ ys. All P ys) (sym (take_all (length xs) xs (omega arith))) all) is (slice_get_within xs n y is)

-- a move with a pipe is no bad move
not_before : (moves : List MoveSpec) (pipes one other : ℕ) → IsFirstBadMove moves pipes one → IsFirstBadMove moves pipes other
    → one < other → ⊥
not_before moves pipes one other is also low =
    let within = holds_before (λ (m : MoveSpec). m.pipe < pipes) moves other one is.move also.before is.at low in
    let beyond = is.no_pipe in
    omega (arith, within, beyond)

one_bad_move : (moves : List MoveSpec) (pipes one other : ℕ) → IsFirstBadMove moves pipes one → IsFirstBadMove moves pipes other
    → one ≡ other
one_bad_move moves pipes one other is also =
    let up = not_before moves pipes one other is also in
    let down = not_before moves pipes other one also is in
    by_order one other up down
  where
    by_order : (n m : ℕ) → (n < m → ⊥) → (m < n → ⊥) → n ≡ m
    by_order n m up down = grind arith

bad_or_good : (moves : List MoveSpec) (pipes number : ℕ) → IsFirstBadMove moves pipes number → All (λ m. m.pipe < pipes) moves → ⊥
bad_or_good moves pipes number is all =
    let within = holds_at (λ (m : MoveSpec). m.pipe < pipes) moves number is.move all is.at in
    let beyond = is.no_pipe in
    omega (arith, within, beyond)

abbrev migrate_plan_refuses : MigrateView → Option (List ℕ) → PlannedView → Status → Type 0
migrate_plan_refuses order directory planned status = RefusesMoves order.moves (length planned.setup.pipes) status

-- what is written of a plan
abbrev migrate_says : MigrateView → Option (List ℕ) → PlannedView → List (List ℕ) → Type 0
migrate_says order directory planned (out ∷ report ∷ screen ∷ []) = IsMovedRun order planned out report screen
migrate_says order directory planned written = ⊥

abbrev migrate_planner : MigrateView → Planner
migrate_planner order = record {
  Behind = Option (List ℕ);
  options = (migrate_planning order).options;
  is_behind = IsDirectoryRead order.directory;
  directory = λ d. d;
  refuses = migrate_plan_refuses order;
  writes = migrate_says order;
}

-- what refuses a topology alone is its first fault
topology_alone : (order : MigrateView) (topology : List ℕ) (status : Status) → migrate_refuses order (topology ∷ []) status
    → (fault : GmlFault) × (status ≡ BadTopology fault) × IsFirstFault topology fault
topology_alone order topology (BadTopology fault) is = (fault, refl, is)
topology_alone order topology status is = absurd is

migrate_cause : (order : MigrateView) (topology trace : List ℕ) (rest : List (List ℕ)) (status : Status)
    → migrate_refuses order (topology ∷ trace ∷ rest) status → Cause (migrate_planner order) topology trace rest status
migrate_cause order topology trace rest (BadPlan fault) is =
    inr (inl (record { behind = is.directory; given = is.given; fault = fault; status_is = refl; has = is.has }))
migrate_cause order topology trace rest (BadMove number) is =
    inr (inr (record {
      behind = is.plans.directory;
      planned = is.planned;
      has = record { given = is.plans.given; plans = is.plans.plans };
      refused = is.first;
    }))
migrate_cause order topology trace rest status is = inl (reading_cause topology trace rest status is)

migrate_written : (order : MigrateView) (topology trace : List ℕ) (rest outs : List (List ℕ))
    → migrate_writes order (topology ∷ trace ∷ rest) outs → IsWritten (migrate_planner order) topology trace rest outs
migrate_written order topology trace rest [] says = absurd says
migrate_written order topology trace rest (out ∷ []) says = absurd says
migrate_written order topology trace rest (out ∷ report ∷ []) says = absurd says
migrate_written order topology trace rest (out ∷ report ∷ screen ∷ more ∷ outs) says = absurd says
migrate_written order topology trace rest (out ∷ report ∷ screen ∷ []) says = record {
  behind = says.plans.directory;
  planned = says.planned;
  has = record { given = says.plans.given; plans = says.plans.plans };
  written = says.run;
}

bad_move_is_refusal : (moves : List MoveSpec) (pipes : ℕ) (status : Status) → RefusesMoves moves pipes status → IsRefusal status
bad_move_is_refusal moves pipes (BadMove number) is = tt
bad_move_is_refusal moves pipes status is = absurd is

-- moves are refused by one of them
refused_by_move : (moves : List MoveSpec) (pipes : ℕ) (status : Status) → RefusesMoves moves pipes status
    → (number : ℕ) × (status ≡ BadMove number) × IsFirstBadMove moves pipes number
refused_by_move moves pipes (BadMove number) is = (number, refl, is)
refused_by_move moves pipes status is = absurd is

one_move_refused : (moves : List MoveSpec) (pipes : ℕ) (one other : Status) → RefusesMoves moves pipes one → RefusesMoves moves pipes other
    → one ≡ other
one_move_refused moves pipes one other is also =
    let f = refused_by_move moves pipes one is in
    let g = refused_by_move moves pipes other also in
    f.1 ∙ ap (λ x. BadMove x) (one_bad_move moves pipes f.0 g.0 f.2 g.2) ∙ sym g.1

moved_or_refused : (order : MigrateView) (directory : Option (List ℕ)) (planned : PlannedView) (status : Status) (outs : List (List ℕ))
    → migrate_plan_refuses order directory planned status → migrate_says order directory planned outs → ⊥
moved_or_refused order directory planned status [] is says = says
moved_or_refused order directory planned status (out ∷ []) is says = says
moved_or_refused order directory planned status (out ∷ report ∷ []) is says = says
moved_or_refused order directory planned status (out ∷ report ∷ screen ∷ more ∷ outs) is says = says
moved_or_refused order directory planned status (out ∷ report ∷ screen ∷ []) is says =
    let f = refused_by_move order.moves (length planned.setup.pipes) status is in
    bad_or_good order.moves (length planned.setup.pipes) f.0 f.2 says.pipes

-- a run with these moves is told in one way
one_told : (S : SetupView) (moves : List MoveSpec) (screen other : List ℕ) → TellsMoves S moves screen → TellsMoves S moves other
    → screen ≡ other
one_told S moves screen other tells also =
    let one = moves_are_one S (map move_of moves) tells.windows also.windows tells.moved also.moved tells.visits also.visits tells.run also.run in
    tells.screen_is
    ∙ ap (λ w. moves_text w tells.moved tells.visits) one.0
    ∙ ap (λ m. moves_text also.windows m tells.visits) one.1
    ∙ ap (λ vs. moves_text also.windows also.moved vs) one.2
    ∙ sym also.screen_is

migrate_one_output : (order : MigrateView) (directory : Option (List ℕ)) (planned : PlannedView) (outs others : List (List ℕ))
    → migrate_says order directory planned outs → migrate_says order directory planned others → outs ≡ others
migrate_one_output order directory planned (out ∷ report ∷ screen ∷ []) (out' ∷ report' ∷ screen' ∷ []) says also =
    let run = one_run_of planned out report out' report' says.run also.run in
    let told = one_told planned.setup order.moves screen screen' says.moves also.moves in
    ap (λ o. o ∷ report ∷ screen ∷ []) run.0 ∙ ap (λ r. out' ∷ r ∷ screen ∷ []) run.1 ∙ ap (λ s. out' ∷ report' ∷ s ∷ []) told
migrate_one_output order directory planned [] others says also = absurd says
migrate_one_output order directory planned (out ∷ []) others says also = absurd says
migrate_one_output order directory planned (out ∷ report ∷ []) others says also = absurd says
migrate_one_output order directory planned (out ∷ report ∷ screen ∷ more ∷ outs) others says also = absurd says
migrate_one_output order directory planned (out ∷ report ∷ screen ∷ []) [] says also = absurd also
migrate_one_output order directory planned (out ∷ report ∷ screen ∷ []) (out' ∷ []) says also = absurd also
migrate_one_output order directory planned (out ∷ report ∷ screen ∷ []) (out' ∷ report' ∷ []) says also = absurd also
migrate_one_output order directory planned (out ∷ report ∷ screen ∷ []) (out' ∷ report' ∷ screen' ∷ more ∷ others) says also = absurd also

pub migrate_is_sound : (limits : ReadLimits) (order : MigrateView) → IsSoundCommand (migrate_command limits order)
migrate_is_sound limits order =
    planner_is_sound (migrate_command limits order) (migrate_planner order) (record {
      nothing_refused = λ status refused. refused;
      by_topology = topology_alone order;
      cause = migrate_cause order;
      nothing_written = λ outs says. says;
      no_trace_written = λ topology outs says. says;
      written = migrate_written order;
      one_behind = one_directory order.directory;
      refusals = λ directory planned status refused. bad_move_is_refusal order.moves (length planned.setup.pipes) status refused;
      one_refusal = λ directory planned one other refused also.
          one_move_refused order.moves (length planned.setup.pipes) one other refused also;
      never_both = moved_or_refused order;
      one_output = migrate_one_output order;
    })
