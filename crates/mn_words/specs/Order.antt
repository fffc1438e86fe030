-- What a command line asks for.
use Rattle.std.specs.Prelude.{ℕ, ◌≡◌, ◌≤◌, ◌<◌, Bool, List, Option, length, All}
use Rattle.std.specs.List.Sorted.{IsNonDecreasingBy}
use Rattle.mn_base.specs.declared.limits.TheConstants.{CHAIN_PIPES_MAX, CORES_MAX, MOVES_MAX, PIPES_MAX, RED_EARLY_PPM_MAX, RED_MAX_MAX, RED_MIN_MAX, RED_SHIFT_MAX, TURNS_MAX, WORKLOAD_PACKETS_MAX}
use Rattle.mn_base.specs.Ranges.{AreInRange, IsTickLength}
use Rattle.distill.specs.declared.modes.Mode.{Mode}
use Rattle.distill.specs.Modes.{IsMode}
use Rattle.journal.specs.declared.setup.LossBy.{LossBy}
use Rattle.mn_words.specs.declared.order.MoveSpec.{MoveSpec}
use Rattle.mn_words.specs.declared.order.PipeSpec.{PipeSpec}
use Rattle.mn_words.specs.declared.order.PlanOptions.{PlanOptions}
use Rattle.mn_words.specs.declared.order.RedSpec.{RedSpec}
use Rattle.mn_words.specs.declared.order.WorkloadOrder.{WorkloadOrder}

-- what contracts see of a `ChainOrder`
pub record ChainView : Type 0 where
  pub trace : List ℕ
  pub out : List ℕ
  pub report : List ℕ
  pub tick_ns : ℕ
  pub seed : ℕ
  pub pipes : List PipeSpec
  pub loss : LossBy

-- what contracts see of a `DistillOrder`
pub record DistillView : Type 0 where
  pub topology : List ℕ
  pub mode : Mode
  pub tick_ns : ℕ

-- what contracts see of an `AssignOrder`
pub record AssignView : Type 0 where
  pub topology : List ℕ
  pub mode : Mode
  pub cores : ℕ

-- what contracts see of a `RunOrder`
pub record RunView : Type 0 where
  pub topology : List ℕ
  pub trace : List ℕ
  pub out : List ℕ
  pub report : List ℕ
  pub mode : Mode
  pub cores : ℕ
  pub seed : ℕ
  pub tick_ns : ℕ
  pub directory : Option (List ℕ)
  pub cluster_report : Bool
  pub order : ℕ
  pub turns : ℕ
  pub loss : LossBy

-- what contracts see of a `JournalOrder`
pub record JournalView : Type 0 where
  pub topology : List ℕ
  pub trace : List ℕ
  pub out : List ℕ
  pub mode : Mode
  pub cores : ℕ
  pub seed : ℕ
  pub tick_ns : ℕ
  pub directory : Option (List ℕ)
  pub loss : LossBy

-- what contracts see of a `CheckOrder`
pub record CheckView : Type 0 where
  pub topology : List ℕ
  pub trace : List ℕ
  pub journal : List ℕ
  pub mode : Mode
  pub cores : ℕ
  pub seed : ℕ
  pub tick_ns : ℕ
  pub directory : Option (List ℕ)
  pub loss : LossBy

-- what contracts see of a `RedOrder`
pub record RedView : Type 0 where
  pub trace : List ℕ
  pub out : List ℕ
  pub report : List ℕ
  pub tick_ns : ℕ
  pub seed : ℕ
  pub pipes : List RedSpec

-- what contracts see of a `MigrateOrder`
pub record MigrateView : Type 0 where
  pub topology : List ℕ
  pub trace : List ℕ
  pub out : List ℕ
  pub report : List ℕ
  pub mode : Mode
  pub cores : ℕ
  pub seed : ℕ
  pub tick_ns : ℕ
  pub directory : Option (List ℕ)
  pub loss : LossBy
  pub moves : List MoveSpec

-- a number of cores is from 1 to `CORES_MAX`
abbrev pub IsCoreCount : ℕ → Type 0
IsCoreCount cores = (1 ≤ cores) × (cores ≤ CORES_MAX)

-- a pipe within the limits of a link
abbrev pub IsPipeSpec : PipeSpec → Type 0
IsPipeSpec pipe = AreInRange pipe.bps pipe.latency_us pipe.queue pipe.ppm

-- an order within the limits of `chain`
pub record IsChainOrder (order : ChainView) : Type 0 where
  pub tick : IsTickLength order.tick_ns
  pub pipes_least : 1 ≤ length order.pipes
  pub pipes_most : length order.pipes ≤ CHAIN_PIPES_MAX
  pub pipes : All IsPipeSpec order.pipes

-- an order within the limits of `distill`
pub record IsDistillOrder (order : DistillView) : Type 0 where
  pub mode : IsMode order.mode
  pub tick : IsTickLength order.tick_ns

-- an order within the limits of `assign`
pub record IsAssignOrder (order : AssignView) : Type 0 where
  pub mode : IsMode order.mode
  pub cores : IsCoreCount order.cores

-- an order within the limits of `rehearse`
pub record IsRunOrder (order : RunView) : Type 0 where
  pub mode : IsMode order.mode
  pub cores : IsCoreCount order.cores
  pub tick : IsTickLength order.tick_ns
  pub turns : order.turns ≤ TURNS_MAX

-- an order within the limits of `emulate`, whose cores take turns as they come
pub record IsEmulateOrder (order : RunView) : Type 0 where
  pub run : IsRunOrder order
  pub number : order.order ≡ 0
  pub turns : order.turns ≡ 0

-- an order within the limits of `workload`
pub record IsWorkloadOrder (order : WorkloadOrder) : Type 0 where
  pub least : 1 ≤ order.packets
  pub most : order.packets ≤ WORKLOAD_PACKETS_MAX
  pub cores : IsCoreCount order.cores

-- options within the limits of a plan
pub record ArePlanOptions (options : PlanOptions) : Type 0 where
  pub mode : IsMode options.mode
  pub cores : IsCoreCount options.cores
  pub tick : IsTickLength options.tick_ns

-- an order within the limits of `journal`
pub record IsJournalOrder (order : JournalView) : Type 0 where
  pub mode : IsMode order.mode
  pub cores : IsCoreCount order.cores
  pub tick : IsTickLength order.tick_ns

-- an order within the limits of `check`
pub record IsCheckOrder (order : CheckView) : Type 0 where
  pub mode : IsMode order.mode
  pub cores : IsCoreCount order.cores
  pub tick : IsTickLength order.tick_ns

-- a pipe that drops early, within its limits
pub record IsRedSpec (pipe : RedSpec) : Type 0 where
  pub base : IsPipeSpec pipe.base
  pub shift : pipe.shift ≤ RED_SHIFT_MAX
  pub min : pipe.min ≤ RED_MIN_MAX
  pub order : pipe.min < pipe.max
  pub max : pipe.max ≤ RED_MAX_MAX
  pub early : pipe.early ≤ RED_EARLY_PPM_MAX

-- an order within the limits of `red`
pub record IsRedOrder (order : RedView) : Type 0 where
  pub tick : IsTickLength order.tick_ns
  pub pipes_least : 1 ≤ length order.pipes
  pub pipes_most : length order.pipes ≤ CHAIN_PIPES_MAX
  pub pipes : All IsRedSpec order.pipes

-- a move of a pipe that there may be to one of so many cores
abbrev pub IsMove : ℕ → MoveSpec → Type 0
IsMove cores move = (move.pipe < PIPES_MAX) × (move.core < cores)

-- an order within the limits of `migrate`
pub record IsMigrateOrder (order : MigrateView) : Type 0 where
  pub mode : IsMode order.mode
  pub cores : IsCoreCount order.cores
  pub tick : IsTickLength order.tick_ns
  pub moves_least : 1 ≤ length order.moves
  pub moves_most : length order.moves ≤ MOVES_MAX
  pub moves : All (IsMove order.cores) order.moves
  pub windows : IsNonDecreasingBy (λ move. move.window) order.moves
