use Rattle.std.proofs.Common.{◌≡◌, List, ℕ, Option, true, length, sym, subst, ◌∙◌, rules}
use Rattle.std.proofs.lemmas.Result.{err_from_is_err_and}
use Rattle.mn_base.specs.Refused.{IfFault}
use Rattle.mn_base.specs.Lines.{lines_of}
use Rattle.distill.specs.declared.pipes.DistilledPipe.{DistilledPipe}
use Rattle.ownership.specs.Owners.{SayOwners, Misses}
use Rattle.ownership.specs.Faults.{is_head}
use Rattle.ownership.proofs.Readings.{no_text_fault, missed, owners_below, directs}
use Rattle.ownership.proofs.reading.read_text.Goals as goal

pub returns-then-is_empty-clause-fault : goal.returns-then-is_empty-clause-fault
returns-then-is_empty-clause-fault c =
    no_text_fault c.args.text.now c.args.distilled.now c.args.cores (sym c.is_empty.ensures ∙ c.if-is_empty.true)

pub returns-in_err-owners-clause-fault : goal.returns-in_err-owners-clause-fault
returns-in_err-owners-clause-fault c =
    let is_on : c.is_head.result ≡ true = search rules in
    let head_is : is_head c.args.cores (length c.args.distilled.now.pipes) c.split_line.result.0.now ≡ true =
    subst (λ (ps : List DistilledPipe). is_head c.args.cores (length ps) c.split_line.result.0.now ≡ true) c.pipes-pipes.ensures.lent
    (sym c.is_head.ensures ∙ is_on) in
    let say : SayOwners (length c.args.distilled.now.pipes) c.args.cores (lines_of c.split_line.result.1.now) c.in_ok-said.said.items =
    subst (λ (ps : List DistilledPipe). SayOwners (length ps) c.args.cores (lines_of c.split_line.result.1.now) c.in_ok-said.said.items)
    c.pipes-pipes.ensures.lent c.in_ok-said.ensures.found in
    let misses : IfFault c.in_err-owners.field-0.0 (Misses c.in_ok-said.said.items) =
    subst (λ (os : List (Option ℕ)). IfFault c.in_err-owners.field-0.0 (Misses os)) c.deref.ensures.value c.in_err-owners.ensures.missed in
    let p = err_from_is_err_and c.from_residual-in_err-owners.result c.from_residual-in_err-owners.ensures.1 in
    rw (p.1, p.2)
    (missed c.args.text.now c.args.distilled.now c.args.cores c.in_ok-said.said.items c.in_err-owners.field-0.0
    (record {
      head = c.split_line.result.0.now;
      body = lines_of c.split_line.result.1.now;
      lines = c.split_line.ensures.lines;
      headed_by = head_is;
      say = say;
    })
    misses)

pub of_owners-requires-clause-owners : goal.of_owners-requires-clause-owners
of_owners-requires-clause-owners c =
    owners_below (length c.pipes-pipes.result.now) c.args.cores (lines_of c.split_line.result.1.now) c.in_ok-said.said.items
    c.in_ok-owners.owners.items c.in_ok-said.ensures.found (c.in_ok-owners.ensures.all ∙ c.deref.ensures.value)

pub returns-clause-found : goal.returns-clause-found
returns-clause-found c =
    let is_on : c.is_head.result ≡ true = search rules in
    let head_is : is_head c.args.cores (length c.args.distilled.now.pipes) c.split_line.result.0.now ≡ true =
    subst (λ (ps : List DistilledPipe). is_head c.args.cores (length ps) c.split_line.result.0.now ≡ true) c.pipes-pipes.ensures.lent
    (sym c.is_head.ensures ∙ is_on) in
    let say : SayOwners (length c.args.distilled.now.pipes) c.args.cores (lines_of c.split_line.result.1.now) c.in_ok-said.said.items =
    subst (λ (ps : List DistilledPipe). SayOwners (length ps) c.args.cores (lines_of c.split_line.result.1.now) c.in_ok-said.said.items)
    c.pipes-pipes.ensures.lent c.in_ok-said.ensures.found in
    directs c.args.text.now c.args.distilled.now c.args.cores c.in_ok-said.said.items c.in_ok-owners.owners.items c.in_ok-directory.directory
    (record {
      head = c.split_line.result.0.now;
      body = lines_of c.split_line.result.1.now;
      lines = c.split_line.ensures.lines;
      headed_by = head_is;
      say = say;
    })
    (c.in_ok-owners.ensures.all ∙ c.deref.ensures.value) c.in_ok-directory.ensures
