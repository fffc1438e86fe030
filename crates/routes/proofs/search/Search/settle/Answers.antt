use Rattle.std.proofs.Common.{refl, sym, ◌∙◌, arith}
use Rattle.std.proofs.lemmas.Option.{none-some}
use Rattle.routes.proofs.Lists.{label_read}
use Rattle.routes.proofs.Settling.{pops, popped, label_place, settled_place, settles}
use Rattle.routes.proofs.search.Search.settle.Goals as goal

pub index-requires : goal.index-requires
index-requires c =
    let low = label_place
    (pops
    c.args.self.now
    (c.in_ok-node.field-0-0, c.in_ok-node.field-0-1, c.in_ok-node.node)
    c.pop.new.self
    c.requires.queue
    c.requires.places
    c.in_ok-node.ensures.there
    c.in_ok-node.ensures.rest
    c.in_ok-node.ensures.least) in
    omega (arith, c.args.self.now.labels.ok)

-- the node that is taken from the queue has a label
pub returns-in_err-label-clause-all : goal.returns-in_err-label-clause-all
returns-in_err-label-clause-all c =
    let step = pops
    c.args.self.now
    (c.in_ok-node.field-0-0, c.in_ok-node.field-0-1, c.in_ok-node.node)
    c.pop.new.self
    c.requires.queue
    c.requires.places
    c.in_ok-node.ensures.there
    c.in_ok-node.ensures.rest
    c.in_ok-node.ensures.least in
    let own = popped step in
    absurd
    (none-some
    own.own
    (sym
    (label_read c.args.self.now.labels.items c.in_ok-node.node c.index.result.now (label_place step) c.index.ensures
    ∙ c.in_err-label.was)
    ∙ own.has))

pub index_mut-requires : goal.index_mut-requires
index_mut-requires c =
    let low = settled_place
    (pops
    c.args.self.now
    (c.in_ok-node.field-0-0, c.in_ok-node.field-0-1, c.in_ok-node.node)
    c.pop.new.self
    c.requires.queue
    c.requires.places
    c.in_ok-node.ensures.there
    c.in_ok-node.ensures.rest
    c.in_ok-node.ensures.least) in
    omega (arith, c.args.self.now.settled.ok)

pub returns-clause-settles : goal.returns-clause-settles
returns-clause-settles c =
    let step = pops
    c.args.self.now
    (c.in_ok-node.field-0-0, c.in_ok-node.field-0-1, c.in_ok-node.node)
    c.pop.new.self
    c.requires.queue
    c.requires.places
    c.in_ok-node.ensures.there
    c.in_ok-node.ensures.rest
    c.in_ok-node.ensures.least in
    settles
    c.in_ok-label.label
    step
    (label_read c.args.self.now.labels.items c.in_ok-node.node c.index.result.now (label_place step) c.index.ensures
    ∙ c.in_ok-label.was)
    _
    refl
