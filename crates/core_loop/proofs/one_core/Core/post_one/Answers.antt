use Rattle.std.proofs.Common.{refl, ap, ◌∙◌, arith}
use Rattle.core_loop.specs.CoreView.{PeerView}
use Rattle.core_loop.proofs.Posting.{IsPosting, found-peer, found-fits, posted-peer, posted-core, posted-makes}
use Rattle.core_loop.proofs.one_core.Core.post_one.Given.{Over}
use Rattle.core_loop.proofs.one_core.Core.post_one.Goals as goal
use Rattle.core_loop.proofs.one_core.Core.post_one.Goals.{After-index_mut-peer}

-- the core owes the post
posting : (g : Over) (c : After-index_mut-peer g) → IsPosting c.self.inside c.args.self.now c.args.other
posting g c = record {
  core = c.self.invariant;
  view_is = c.self.view_is;
  works = c.requires.works;
  owed = c.if-not-owes_post.ensures;
}

pub overflow_add-peer : goal.overflow_add-peer
overflow_add-peer g c =
    let less = found-fits (posting g (goal.at.overflow_add-peer g c).After-index_mut-peer) c.index_mut-peer.ensures.value in
    let same = ap (λ (p : PeerView). p.posted) c.peer.view_is in
    omega (arith, less, same)

pub invariant_of-self-in-Ok : goal.invariant_of-self-in-Ok
invariant_of-self-in-Ok g c =
    let t = posting g (goal.at.invariant_of-self-in-Ok g c).After-index_mut-peer in
    posted-core t _
    (posted-peer (c.peer.view_is ∙ found-peer t c.index_mut-peer.ensures.value) refl refl c.take.ensures.after refl)

pub returns-in-Ok-clause-comes : goal.returns-in-Ok-clause-comes
returns-in-Ok-clause-comes g c =
    let t = posting g (goal.at.returns-in-Ok-clause-comes g c).After-index_mut-peer in
    posted-makes t _
    (posted-peer (c.peer.view_is ∙ found-peer t c.index_mut-peer.ensures.value) refl refl c.take.ensures.after refl)
