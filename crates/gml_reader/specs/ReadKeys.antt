-- What the code answers of a list's keys, case by case.
use Rattle.std.specs.Prelude.{◌≡◌, ℕ, List, Option, Some, None, Result, Ok, Err, unwrap_or, option_and_then}
use Rattle.topo.specs.declared.keys.Key.{Key}
use Rattle.gml_reader.specs.declared.faults.Item.{Item}
use Rattle.gml_reader.specs.declared.faults.GmlFault.{GmlFault}
use Rattle.gml_reader.specs.Values.{ValueTree, number_in}
use Rattle.gml_reader.specs.Reading.{required_fault, optional_fault, address_value_fault, address_in}

abbrev pub IsRequired : List ℕ → Item → Key → Option ValueTree → Result ℕ GmlFault → Type 0
IsRequired text i k found (Ok n) = (required_fault text i k found ≡ None) × (option_and_then (number_in text) found ≡ Some n)
IsRequired text i k found (Err f) = required_fault text i k found ≡ Some f

abbrev pub IsOptional : List ℕ → Item → Key → ℕ → Option ValueTree → Result ℕ GmlFault → Type 0
IsOptional text i k default found (Ok n) =
    (optional_fault text i k found ≡ None) × (n ≡ unwrap_or (option_and_then (number_in text) found) default)
IsOptional text i k default found (Err f) = optional_fault text i k found ≡ Some f

abbrev pub IsAddress : List ℕ → ℕ → Option ValueTree → Result (Option ℕ) GmlFault → Type 0
IsAddress text n found (Ok a) = (address_value_fault text n found ≡ None) × (a ≡ option_and_then (address_in text) found)
IsAddress text n found (Err f) = address_value_fault text n found ≡ Some f
