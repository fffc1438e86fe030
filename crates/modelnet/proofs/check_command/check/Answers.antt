use Rattle.std.proofs.Common.{◌≡◌, ◌∙◌, Err, length, ap, subst, rules}
use Rattle.mn_edge.specs.declared.role.Role.TheVariants.{Journal, Screen}
use Rattle.mn_base.specs.Refused.{IfFault}
use Rattle.plan.specs.Faults.{PlanFirst}
use Rattle.plan.specs.Setups.{IsPlan}
use Rattle.journal.specs.Journal.{journal_of}
use Rattle.journal_check.specs.Faults.{JournalFirst}
use Rattle.journal_check.specs.Texts.{journal_out}
use Rattle.plan.specs.PlannedView.{PlannedView}
use Rattle.mn_words.specs.Order.{CheckView}
use Rattle.modelnet.specs.Journals.{right_line}
use Rattle.modelnet.specs.Planning.{PlanningView, reading_command}
use Rattle.modelnet.specs.PlanSteps.{HasInputs}
use Rattle.modelnet.specs.Progress.{HasStopped}
use Rattle.modelnet.specs.Statuses.{plan_refusal, journal_refusal}
use Rattle.modelnet.proofs.CheckSteps.{HasAll, check_stops, journal_is_as_at_entry, journal_stops, plan_refused, journal_refused, without_memory, screen_is_as_at_entry, check_ends}
use Rattle.modelnet.proofs.check_command.check.Goals as goal

pub returns-in_err-inputs : goal.returns-in_err-inputs
returns-in_err-inputs g c =
    let is : c.from_residual.result ≡ Err c.in_err-inputs.field-0.0 = search rules in
    let limits = c.args.limits.now in
    let old = g.H.Host.part c.args.host.now in
    let new = g.H.Host.part c.read_inputs.new.host in
    let status = c.in_err-inputs.field-0.0 in
    rw is (check_stops limits c.args.order.now old new status
    (subst (λ a. HasStopped (reading_command limits a) old new status) c.of_check-asked.ensures c.in_err-inputs.ensures.stops))

pub read_input-requires-clause-inactive : goal.read_input-requires-clause-inactive
read_input-requires-clause-inactive g c =
    let limits = c.args.limits.now in
    let old = g.H.Host.part c.args.host.now in
    let mid = g.H.Host.part c.read_inputs.new.host in
    let inputs = c.in_ok-inputs.inputs in
    ap (λ p. p.active) (journal_is_as_at_entry limits c.args.order.now inputs.topology inputs.trace inputs.directory old mid
    (subst (λ a. HasInputs limits a inputs.topology inputs.trace inputs.directory old mid) c.of_check-asked.ensures c.in_ok-inputs.ensures.read))
    ∙ c.requires.inactive Journal

pub returns-in_err-journal : goal.returns-in_err-journal
returns-in_err-journal g c =
    let is : c.from_residual-in_err-journal.result ≡ Err c.in_err-journal.field-0.0 = search rules in
    let limits = c.args.limits.now in
    let old = g.H.Host.part c.args.host.now in
    let mid = g.H.Host.part c.read_inputs.new.host in
    let inputs = c.in_ok-inputs.inputs in
    rw is (journal_stops limits c.args.order.now (g.H.Host.part c.read_input.new.host) c.in_err-journal.field-0.0
    (subst (λ a. HasInputs limits a inputs.topology inputs.trace inputs.directory old mid) c.of_check-asked.ensures c.in_ok-inputs.ensures.read)
    (c.as_str-name.ensures.lent ∙ ap (λ (o : CheckView). o.journal) c.order.view_is)
    c.in_err-journal.ensures.own c.in_err-journal.ensures.others)

pub returns-in_err-planned : goal.returns-in_err-planned
returns-in_err-planned g c =
    let is : c.from_residual-in_err-planned.result ≡ Err (plan_refusal c.in_err-planned.field-0.0) = search rules in
    let limits = c.args.limits.now in
    let old = g.H.Host.part c.args.host.now in
    let mid = g.H.Host.part c.read_inputs.new.host in
    let inputs = c.in_ok-inputs.inputs in
    let options = ap (λ (p : PlanningView). p.options) (c.asked.view_is ∙ c.of_check-asked.ensures) in
    let all : HasAll limits c.args.order.now inputs.topology inputs.trace inputs.directory c.in_ok-journal.journal old
    (g.H.Host.part c.read_input.new.host) = record {
      mid = mid;
      inputs = subst (λ a. HasInputs limits a inputs.topology inputs.trace inputs.directory old mid) c.of_check-asked.ensures
          c.in_ok-inputs.ensures.read;
      read = record {
        name = c.as_str-name.result.now;
        named = c.as_str-name.ensures.lent ∙ ap (λ (o : CheckView). o.journal) c.order.view_is;
        own = c.in_ok-journal.ensures.own;
        others = c.in_ok-journal.ensures.others;
      };
    } in
    rw is (plan_refused limits c.args.order.now all c.in_err-planned.field-0.0
    (subst (λ o. IfFault c.in_err-planned.field-0.0 (PlanFirst inputs.topology o inputs.directory)) options c.in_err-planned.ensures.fault))

pub returns-in_err-visits : goal.returns-in_err-visits
returns-in_err-visits g c =
    let is : c.from_residual-in_err-visits.result ≡ Err (journal_refusal c.in_err-visits.field-0.0) = search rules in
    let limits = c.args.limits.now in
    let old = g.H.Host.part c.args.host.now in
    let mid = g.H.Host.part c.read_inputs.new.host in
    let inputs = c.in_ok-inputs.inputs in
    let planned = c.in_ok-planned.planned in
    let options = ap (λ (p : PlanningView). p.options) (c.asked.view_is ∙ c.of_check-asked.ensures) in
    let all : HasAll limits c.args.order.now inputs.topology inputs.trace inputs.directory c.in_ok-journal.journal old
    (g.H.Host.part c.read_input.new.host) = record {
      mid = mid;
      inputs = subst (λ a. HasInputs limits a inputs.topology inputs.trace inputs.directory old mid) c.of_check-asked.ensures
          c.in_ok-inputs.ensures.read;
      read = record {
        name = c.as_str-name.result.now;
        named = c.as_str-name.ensures.lent ∙ ap (λ (o : CheckView). o.journal) c.order.view_is;
        own = c.in_ok-journal.ensures.own;
        others = c.in_ok-journal.ensures.others;
      };
    } in
    rw is (journal_refused limits c.args.order.now all planned c.in_err-visits.field-0.0
    (subst (λ o. IsPlan inputs.topology inputs.trace o inputs.directory planned) options c.in_ok-planned.ensures.planned)
    (subst (λ (p : PlannedView). IfFault c.in_err-visits.field-0.0 (JournalFirst (journal_of p.setup) c.in_ok-journal.journal)) c.planned.view_is
    c.in_err-visits.ensures.fault))

pub returns-in_default : goal.returns-in_default
returns-in_default g c =
    let limits = c.args.limits.now in
    let old = g.H.Host.part c.args.host.now in
    let mid = g.H.Host.part c.read_inputs.new.host in
    let inputs = c.in_ok-inputs.inputs in
    let all : HasAll limits c.args.order.now inputs.topology inputs.trace inputs.directory c.in_ok-journal.journal old
    (g.H.Host.part c.read_input.new.host) = record {
      mid = mid;
      inputs = subst (λ a. HasInputs limits a inputs.topology inputs.trace inputs.directory old mid) c.of_check-asked.ensures
          c.in_ok-inputs.ensures.read;
      read = record {
        name = c.as_str-name.result.now;
        named = c.as_str-name.ensures.lent ∙ ap (λ (o : CheckView). o.journal) c.order.view_is;
        own = c.in_ok-journal.ensures.own;
        others = c.in_ok-journal.ensures.others;
      };
    } in
    without_memory limits c.args.order.now all

pub write_output-requires : goal.write_output-requires
write_output-requires g c =
    let limits = c.args.limits.now in
    let old = g.H.Host.part c.args.host.now in
    let mid = g.H.Host.part c.read_inputs.new.host in
    let inputs = c.in_ok-inputs.inputs in
    let all : HasAll limits c.args.order.now inputs.topology inputs.trace inputs.directory c.in_ok-journal.journal old
    (g.H.Host.part c.read_input.new.host) = record {
      mid = mid;
      inputs = subst (λ a. HasInputs limits a inputs.topology inputs.trace inputs.directory old mid) c.of_check-asked.ensures
          c.in_ok-inputs.ensures.read;
      read = record {
        name = c.as_str-name.result.now;
        named = c.as_str-name.ensures.lent ∙ ap (λ (o : CheckView). o.journal) c.order.view_is;
        own = c.in_ok-journal.ensures.own;
        others = c.in_ok-journal.ensures.others;
      };
    } in
    ap (λ p. p.active) (screen_is_as_at_entry limits c.args.order.now all) ∙ c.requires.inactive Screen

pub returns : goal.returns
returns g c =
    let limits = c.args.limits.now in
    let old = g.H.Host.part c.args.host.now in
    let mid = g.H.Host.part c.read_inputs.new.host in
    let inputs = c.in_ok-inputs.inputs in
    let planned = c.in_ok-planned.planned in
    let options = ap (λ (p : PlanningView). p.options) (c.asked.view_is ∙ c.of_check-asked.ensures) in
    let all : HasAll limits c.args.order.now inputs.topology inputs.trace inputs.directory c.in_ok-journal.journal old
    (g.H.Host.part c.read_input.new.host) = record {
      mid = mid;
      inputs = subst (λ a. HasInputs limits a inputs.topology inputs.trace inputs.directory old mid) c.of_check-asked.ensures
          c.in_ok-inputs.ensures.read;
      read = record {
        name = c.as_str-name.result.now;
        named = c.as_str-name.ensures.lent ∙ ap (λ (o : CheckView). o.journal) c.order.view_is;
        own = c.in_ok-journal.ensures.own;
        others = c.in_ok-journal.ensures.others;
      };
    } in
    check_ends limits c.args.order.now all (g.H.Host.part c.write_output.new.host) c.write_output.result
    (subst (λ o. IsPlan inputs.topology inputs.trace o inputs.directory planned) options c.in_ok-planned.ensures.planned)
    (c.in_ok-visits.ensures.right ∙ ap (λ (p : PlannedView). journal_out (journal_of p.setup)) c.planned.view_is)
    (c.in-Ok.ensures ∙ ap (λ n. right_line n) c.in_ok-visits.ensures.count
    ∙ ap (λ (p : PlannedView). right_line (length (journal_of p.setup))) c.planned.view_is)
    c.as_slice.ensures.lent c.write_output.ensures.own c.write_output.ensures.others
