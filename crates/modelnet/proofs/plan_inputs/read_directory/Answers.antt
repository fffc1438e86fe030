use Rattle.std.proofs.Common.{◌≡◌, ◌∙◌, Err, Some, None, option_copied, sym, ap, rules}
use Rattle.modelnet.specs.Planning.{PlanningView}
use Rattle.modelnet.proofs.PlanReads.{directory_stops, has_directory, has_no_directory}
use Rattle.modelnet.proofs.plan_inputs.read_directory.Goals as goal

pub returns-in-None-clause-read : goal.returns-in-None-clause-read
returns-in-None-clause-read g c =
    let none : c.args.asked.now.directory ≡ None = sym (ap (λ (p : PlanningView). p.directory) c.asked.view_is)
    ∙ ap (λ d. option_copied d) c.in-None.is in
    λ start topology trace has. has_no_directory c.args.limits.now c.args.asked.now start (g.H.Host.part c.args.host.now) topology trace has none

pub returns-in_err-text-in-Some-clause-read : goal.returns-in_err-text-in-Some-clause-read
returns-in_err-text-in-Some-clause-read g c =
    let is : c.from_residual.result ≡ Err c.in_err-text-in-Some.field-0.0 = search rules in
    let named : c.args.asked.now.directory ≡ Some c.in-Some.name.now = sym (ap (λ (p : PlanningView). p.directory) c.asked.view_is)
    ∙ ap (λ d. option_copied d) c.in-Some.is in
    λ start topology trace has.
    rw is (directory_stops c.args.limits.now c.args.asked.now (g.H.Host.part c.read_input.new.host) c.in_err-text-in-Some.field-0.0
    has named c.in_err-text-in-Some.ensures.own c.in_err-text-in-Some.ensures.others)

pub returns-in_ok-text-in-Some-clause-read : goal.returns-in_ok-text-in-Some-clause-read
returns-in_ok-text-in-Some-clause-read g c =
    let named : c.args.asked.now.directory ≡ Some c.in-Some.name.now = sym (ap (λ (p : PlanningView). p.directory) c.asked.view_is)
    ∙ ap (λ d. option_copied d) c.in-Some.is in
    λ start topology trace has.
    has_directory c.args.limits.now c.args.asked.now (g.H.Host.part c.read_input.new.host) c.in_ok-text-in-Some.text has named
    c.in_ok-text-in-Some.ensures.own c.in_ok-text-in-Some.ensures.others
