-- The numbers of a head line and of a line of a change, field by field.
use Rattle.std.proofs.Common.{◌≡◌, ◌==◌, ℕ, Bool, true, false, cond, ◌&&◌, nat_le, List, [], ◌∷◌, length, Option, Some, None, refl, sym, ap, ◌∙◌}
use Rattle.std.specs.Prelude.{codes, option_map}
use Rattle.std.specs.Bool.{then_some}
use Rattle.mn_base.specs.declared.limits.TheConstants.{CHANGES_MAX}
use Rattle.mn_base.specs.Fields.{field_of}
use Rattle.changes.specs.declared.lines.ChangeLine.{ChangeLine}
use Rattle.changes.specs.Changes.{change_of, change_labels}
use Rattle.changes.specs.Faults.{count_of, second_head_labels}
use Rattle.changes.specs.Answers.{numbers_as_change}

-- what was read of a head line: three numbers, each after its label, nothing after the last, and whether they are those of the run
pub record HeadRead (cores pipes : ℕ) (line : List ℕ) (result : Option ℕ) : Type 0 where
  pub said_cores : ℕ
  pub said_pipes : ℕ
  pub count : ℕ
  pub behind_cores : List ℕ
  pub behind_pipes : List ℕ
  pub behind_count : List ℕ
  pub cores_read : field_of (codes "modelnet-directory 2 cores ") line ≡ Some (said_cores, behind_cores)
  pub pipes_read : field_of (codes " pipes ") behind_cores ≡ Some (said_pipes, behind_pipes)
  pub count_read : field_of (codes " changes ") behind_pipes ≡ Some (count, behind_count)
  pub ends : (length behind_count == 0) ≡ true
  pub is_head : Bool
  pub test : is_head ≡ ((said_cores == cores) && (said_pipes == pipes) && nat_le count CHANGES_MAX)
  pub chosen : result ≡ then_some is_head count

-- the number of changes that a head line says is the one that was read
pub head_is_read : (cores pipes : ℕ) (line : List ℕ) (result : Option ℕ) → HeadRead cores pipes line result → result ≡ count_of cores pipes line
unfolding count_of second_head_labels
head_is_read cores pipes line result read =
    rw (read.cores_read, read.pipes_read, read.count_read, read.ends)
    (read.chosen ∙ as_cond read.is_head ∙ ap (λ (t : Bool). cond t (Some read.count) None) read.test)
  where
    as_cond : (t : Bool) → then_some t read.count ≡ cond t (Some read.count) None
    as_cond true = refl
    as_cond false = refl

-- what was read of the line of a change: six numbers, each after its label, and whether nothing is after the last
pub record ChangeRead (line : List ℕ) (numbers : ChangeLine) : Type 0 where
  pub behind_tick : List ℕ
  pub behind_pipe : List ℕ
  pub behind_bps : List ℕ
  pub behind_us : List ℕ
  pub behind_queue : List ℕ
  pub behind_ppm : List ℕ
  pub tick_read : field_of (codes "change tick ") line ≡ Some (numbers.tick, behind_tick)
  pub pipe_read : field_of (codes " pipe ") behind_tick ≡ Some (numbers.pipe, behind_pipe)
  pub bps_read : field_of (codes " bps ") behind_pipe ≡ Some (numbers.bps, behind_bps)
  pub us_read : field_of (codes " us ") behind_bps ≡ Some (numbers.latency_us, behind_us)
  pub queue_read : field_of (codes " queue ") behind_us ≡ Some (numbers.queue, behind_queue)
  pub ppm_read : field_of (codes " ppm ") behind_queue ≡ Some (numbers.ppm, behind_ppm)

-- the change that a line says is the one of the numbers that were read, if nothing is after them
pub change_is_read : (line : List ℕ) (numbers : ChangeLine) (ends : Bool) (result : Option ChangeLine) (read : ChangeRead line numbers)
    → ends ≡ (length read.behind_ppm == 0) → result ≡ then_some ends numbers → option_map numbers_as_change result ≡ change_of line
unfolding change_of change_labels
change_is_read line numbers true result read test is =
    let none_left : (length read.behind_ppm == 0) ≡ true = sym test in
    rw (is, read.tick_read, read.pipe_read, read.bps_read, read.us_read, read.queue_read, read.ppm_read, none_left) refl
change_is_read line numbers false result read test is =
    let more : (length read.behind_ppm == 0) ≡ false = sym test in
    rw (is, read.tick_read, read.pipe_read, read.bps_read, read.us_read, read.queue_read, read.ppm_read, more) refl
