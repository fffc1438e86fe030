-- How far a command has come.
use Rattle.std.specs.Prelude.{◌≡◌, ◌≢◌, ℕ, List, [], ◌++◌}
use Rattle.modelnet.specs.declared.status.Status.{Status}
use Rattle.modelnet.specs.declared.status.Status.TheVariants.{Done}
use Rattle.modelnet.specs.Roles.{Input, Output}
use Rattle.modelnet.specs.Commands.{Host, Command, ReadInputs, WrittenOutputs, inputs_of, bytes_read, outputs_of, bytes_written, Stands, Passes, FewerPass, Answered}

-- these inputs were read whole, nothing refuses the bytes of fewer, and these are to be read
pub record HasJustRead (c : Command) (reads : ReadInputs) (later : List Input) (old new : Host) : Type 0 where
  pub inputs : c.inputs ≡ inputs_of reads ++ later
  pub fewer : FewerPass c (bytes_read reads)
  pub stands : Stands reads [] old new

-- these inputs were read whole, their bytes are accepted, and these are to be read
pub record HasRead (c : Command) (reads : ReadInputs) (later : List Input) (old new : Host) : Type 0 where
  pub inputs : c.inputs ≡ inputs_of reads ++ later
  pub passes : Passes c (bytes_read reads)
  pub stands : Stands reads [] old new

-- all inputs were read whole, these outputs were written whole, and these are to be written with these bytes
pub record HasWritten (c : Command) (reads : ReadInputs) (writes : WrittenOutputs) (later : List Output) (later_bytes : List (List ℕ))
    (old new : Host) : Type 0 where
  pub inputs : c.inputs ≡ inputs_of reads
  pub outputs : c.outputs ≡ outputs_of writes ++ later
  pub says : c.writes (bytes_read reads) (bytes_written writes ++ later_bytes)
  pub stands : Stands reads writes old new

-- it has ended before its last output, with this answer
pub record HasStopped (c : Command) (old new : Host) (status : Status) : Type 0 where
  pub early : status ≢ Done
  pub answered : Answered c old new status
