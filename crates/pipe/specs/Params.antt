-- The parameters of a pipe, which change at stated ticks.
use Rattle.std.specs.Prelude.{ℕ, nat_le, max, List, [], ◌∷◌, if◌then◌else◌}
use Rattle.mn_base.specs.declared.params.PipeParams.{PipeParams}

-- the parameters at a tick: those of the last change at or below it, or the first ones where there is none. A change is a tick
-- and the parameters from that tick on
abbrev pub last_params : ℕ → PipeParams → List (ℕ × PipeParams) → PipeParams
last_params tick first [] = first
last_params tick first (c ∷ changes) = last_params tick (if nat_le c.0 tick then c.1 else first) changes

-- the greatest value of f over the first parameters and those of all changes
abbrev pub greatest : (PipeParams → ℕ) → PipeParams → List (ℕ × PipeParams) → ℕ
greatest f first [] = f first
greatest f first (c ∷ changes) = max (f first) (greatest f c.1 changes)
