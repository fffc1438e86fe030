-- The other half of a command: texts that are made are written, one role after the other, and nothing is read.
use Rattle.std.specs.Prelude.{◌≡◌, ℕ, List, [], ◌∷◌, Option, Some, None, codes}
use Rattle.mn_edge.specs.declared.role.Role.TheVariants.{Out, Report, Screen}
use Rattle.modelnet.specs.Roles.{Output, output}
use Rattle.modelnet.specs.Commands.{Command, WrittenOutputs, outputs_of, bytes_written, adds_nothing}

-- these outputs are written with these bytes
abbrev pub writing_command : WrittenOutputs → Command
writing_command writes = record {
  inputs = [];
  outputs = outputs_of writes;
  refuses = λ read refusal. ⊥;
  writes = λ read written. written ≡ bytes_written writes;
  adds = adds_nothing;
}

-- the screen, whose name is `-`
abbrev pub the_screen : Output
the_screen = output Screen (codes "-")

-- the screen with a text, where there is one
abbrev pub screen_texts : Option (List ℕ) → WrittenOutputs
screen_texts None = []
screen_texts (Some text) = (the_screen, text) ∷ []

-- and as a list, which is empty where there is none
abbrev pub shown : Option (List ℕ) → List (List ℕ)
shown screen = bytes_written (screen_texts screen)

-- an output trace and a report under their names, and what is shown on the screen, if anything is
abbrev pub run_writings : List ℕ → List ℕ → List ℕ → List ℕ → Option (List ℕ) → WrittenOutputs
run_writings out_name report_name out report screen =
    (output Out out_name, out) ∷ (output Report report_name, report) ∷ screen_texts screen
