use Rattle.std.proofs.Common.{ℕ, cond, Some, Result, sym, ap, ◌∙◌}
use Rattle.std.specs.BTreeMap.{BTreeMap, get, is_at}
use Rattle.mn_base.specs.declared.causes.Unbound.{Unbound}
use Rattle.routes.specs.GraphView.{GraphView}
use Rattle.pipe.specs.VisitEntries.{pair_cmp}
use Rattle.plan.specs.Router.{bindings_of}
use Rattle.plan.proofs.Routing.{answered_again, held, first_answer}
use Rattle.plan.proofs.router.Router.find.Goals as goal

pub returns-in-Some-clause-answers : goal.returns-in-Some-clause-answers
returns-in-Some-clause-answers c =
    answered_again c.args.self.now.searches.arcs (bindings_of c.args.self.now.uses.items) (λ s d. get pair_cmp c.args.self.now.answers (s, d))
    c.args.source c.args.destination c.in-Some.answer c.requires.holds (sym c.get.ensures.value ∙ sym c.copied.ensures ∙ c.in-Some.is)

pub returns-clause-holds : goal.returns-clause-holds
returns-clause-holds c =
    held c.args.self.now.searches.arcs _ (bindings_of c.args.self.now.uses.items) _ (λ s d. get pair_cmp c.args.self.now.answers (s, d)) _
    c.args.source c.args.destination c.in_ok-answer.answer (ap (λ (g : GraphView). g.arcs) c.in_ok-answer.ensures.graph) c.requires.holds
    (sym c.get.ensures.value ∙ sym c.copied.ensures ∙ c.in_default.is) c.in_ok-answer.ensures.first
    (λ t e. c.in_ok-insert.ensures.updates.0 (t, e)
    ∙ ap (λ (m : BTreeMap (ℕ × ℕ) (Result ℕ Unbound)).
    cond (is_at (pair_cmp (c.args.source, c.args.destination)) (t, e)) (Some c.in_ok-answer.answer) (get pair_cmp m (t, e)))
    c.in_ok-answer.ensures.answers)

pub returns-clause-answers : goal.returns-clause-answers
returns-clause-answers c =
    first_answer c.args.self.now.searches.arcs (bindings_of c.args.self.now.uses.items) _ (λ s d. get pair_cmp c.args.self.now.answers (s, d))
    c.args.source c.args.destination c.in_ok-answer.answer c.requires.holds
    (sym c.get.ensures.value ∙ sym c.copied.ensures ∙ c.in_default.is) c.in_ok-answer.ensures.first
