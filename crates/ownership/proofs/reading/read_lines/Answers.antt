use Rattle.std.proofs.Common.{◌≡◌, List, ℕ, Option, Some, None, length, subst, ◌∙◌, arith, length-set, rules}
use Rattle.std.specs.Prelude.{replicate}
use Rattle.mn_base.specs.Lines.{lines_of}
use Rattle.ownership.specs.Owners.{has_owner, line_as_owned}
use Rattle.ownership.specs.Faults.{owner_line_fault}
use Rattle.ownership.proofs.LinesRead.{nothing_read, none_of_replicate, one_read, first_fault_read}
use Rattle.ownership.proofs.reading.read_lines.Goals as goal

pub lines-init : goal.lines-init
lines-init c =
    let len : length c.in_ok-owners.owners.items ≡ c.args.pipes = search rules in
    let none : c.in_ok-owners.owners.items ≡ replicate c.args.pipes None =
    c.in_ok-owners.ensures.items_if_clones_equal (λ y clone. search rules) in
    record {
      has =
          nothing_read c.args.pipes c.args.cores (lines_of c.args.text.now) c.in_ok-owners.owners.items len
          (none_of_replicate c.args.pipes c.in_ok-owners.owners.items none);
      few = omega arith;
      len = len;
    }

pub returns-in-Err-clause-fault : goal.returns-in-Err-clause-fault
returns-in-Err-clause-fault c =
    first_fault_read c.args.pipes c.args.cores c.lines.number (lines_of c.args.text.now) (lines_of c.split_line.result.1.now)
    c.split_line.result.0.now c.lines.owners.items c.in-Err.fault
    (record { now = lines_of c.lines.rest.now; has = c.lines.invariant.has; split = c.split_line.ensures.lines })
    (subst
    (λ (os : List (Option ℕ)). owner_line_fault (length os) c.args.cores c.lines.number (has_owner os) c.split_line.result.0.now ≡ Some c.in-Err.fault)
    c.deref.ensures.value c.in-Err.ensures)

pub lines-preserved : goal.lines-preserved
lines-preserved c = record {
  has =
      one_read c.args.pipes c.args.cores c.lines.number (lines_of c.args.text.now) (lines_of c.split_line.result.1.now)
      c.split_line.result.0.now c.lines.owners.items (line_as_owned c.in-Ok.said)
      (record { now = lines_of c.lines.rest.now; has = c.lines.invariant.has; split = c.split_line.ensures.lines })
      c.in-Ok.ensures.0
      (subst
      (λ (os : List (Option ℕ)). owner_line_fault (length os) c.args.cores c.lines.number (has_owner os) c.split_line.result.0.now ≡ None)
      c.deref.ensures.value c.in-Ok.ensures.1);
  few = omega (arith, c.lines.invariant.few, c.split_line.ensures.shorter);
  len = length-set c.lines.owners.items c.in-Ok.said.pipe (Some c.in-Ok.said.core) ∙ c.lines.invariant.len;
}
