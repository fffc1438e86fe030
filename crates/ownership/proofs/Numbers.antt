-- The numbers of a head line and of a line of a pipe, field by field.
use Rattle.std.proofs.Common.{◌≡◌, ◌==◌, ℕ, Bool, true, false, ◌&&◌, List, length, Option, Some, refl, sym}
use Rattle.std.specs.Prelude.{codes, option_map}
use Rattle.std.specs.Bool.{then_some}
use Rattle.mn_base.specs.Fields.{field_of}
use Rattle.changes.specs.Head.{first_head_labels}
use Rattle.ownership.specs.declared.reading.OwnerNumbers.{OwnerNumbers}
use Rattle.ownership.specs.Texts.{owned_of, pipe_labels}
use Rattle.ownership.specs.Owners.{numbers_as_owned}
use Rattle.ownership.specs.Faults.{is_head}

pub head_read : (cores pipes : ℕ) (line r1 r2 : List ℕ) (k p : ℕ) (b : Bool)
    → field_of (codes "modelnet-directory 1 cores ") line ≡ Some (k, r1) → field_of (codes " pipes ") r1 ≡ Some (p, r2)
    → b ≡ ((length r2 == 0) && (k == cores) && (p == pipes)) → b ≡ is_head cores pipes line
unfolding is_head first_head_labels
head_read cores pipes line r1 r2 k p b e1 e2 test = go (length r2 == 0) refl test
  where
    go : (t : Bool) → (length r2 == 0) ≡ t → b ≡ (t && (k == cores) && (p == pipes)) → b ≡ is_head cores pipes line
    go true empty test = rw (e1, e2, empty) test
    go false more test = rw (e1, e2, more) test

pub owned_read : (line r1 r2 : List ℕ) (pipe core : ℕ) (b : Bool) (result : Option OwnerNumbers)
    → field_of (codes "pipe ") line ≡ Some (pipe, r1) → field_of (codes " core ") r1 ≡ Some (core, r2)
    → b ≡ (length r2 == 0) → result ≡ then_some b (record { pipe = pipe; core = core })
    → option_map numbers_as_owned result ≡ owned_of line
unfolding owned_of pipe_labels
owned_read line r1 r2 pipe core true result e1 e2 test is =
    let empty : (length r2 == 0) ≡ true = sym test in
    rw (is, e1, e2, empty) refl
owned_read line r1 r2 pipe core false result e1 e2 test is =
    let more : (length r2 == 0) ≡ false = sym test in
    rw (is, e1, e2, more) refl
