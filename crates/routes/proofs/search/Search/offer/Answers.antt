use Rattle.std.proofs.Common.{◌≡◌, ◌≢◌, ◌↔◌, inr, subst, sym, ◌∙◌}
use Rattle.std.proofs.lemmas.Bool.{true≢false}
use Rattle.mn_base.specs.Among.{Among}
use Rattle.routes.specs.declared.label.Label.{Label}
use Rattle.routes.specs.NodeQueue.{Entry}
use Rattle.routes.specs.Table.{IsNoWorse}
use Rattle.routes.proofs.Lists.{label_read}
use Rattle.routes.proofs.Offering.{on_ok, is_open, takes_first, takes_again}
use Rattle.routes.proofs.search.Search.offer.Goals as goal

pub returns-in-Some-2 : goal.returns-in-Some-2
returns-in-Some-2 c =
    on_ok
    c.put.result
    (λ puts.
    inr
    (takes_again
    c.in-Some-2.own
    c.remove.new.self
    (is_open
    c.args.self.now
    c.args.node
    c.requires.node
    c.requires.places
    c.requires.queue
    c.index.result.now
    c.index.ensures
    c.if-index.false)
    (label_read c.args.self.now.labels.items c.args.node c.index-2.result.now c.requires.node c.index-2.ensures ∙ c.in-Some-2.is)
    (λ won.
    let same : c.in-Some-2.own ≡ c.in-Some.own = cc (c.in-Some.is, c.in-Some-2.is) in
    true≢false
    (sym (c.is_no_worse.ensures.1 (subst (λ (l : Label). IsNoWorse l c.args.label) same won)) ∙ c.if-is_no_worse.false))
    (subst
    (λ (e : Entry). (k : Entry) → Among k c.remove.new.self ↔ (Among k c.args.self.now.queue × (k ≢ e)))
    c.entry.ensures
    c.remove.ensures)
    puts))
    c.put.ensures

pub returns-in-None : goal.returns-in-None
returns-in-None c =
    on_ok
    c.put-in-None.result
    (λ puts.
    inr
    (takes_first
    (is_open
    c.args.self.now
    c.args.node
    c.requires.node
    c.requires.places
    c.requires.queue
    c.index.result.now
    c.index.ensures
    c.if-index.false)
    (label_read c.args.self.now.labels.items c.args.node c.index-2.result.now c.requires.node c.index-2.ensures ∙ c.in-None.is)
    puts))
    c.put-in-None.ensures
