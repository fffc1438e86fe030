use Rattle.std.proofs.Common.{◌≡◌, ℕ, ◌+◌, List, length, Option, slice_index_or, sym, ap, ◌∙◌, subst, arith}
use Rattle.std.proofs.lemmas.List.{get_or_default}
use Rattle.journal.specs.IsSetup.{IsSetup}
use Rattle.core_loop.specs.CoreView.{CoreView, PeerView, no_peer}
use Rattle.core_loop.specs.WorldState.{CoreStands}
use Rattle.core_loop.specs.Trading.{IsLeastBy}
use Rattle.core_loop.specs.Handing.{earlier_of}
use Rattle.core_loop.proofs.LeastOfAll.{HasLeast, least-more, least-says}
use Rattle.core_loop.proofs.one_core.Core.least.Goals as goal

pub loop-peer-preserved : goal.loop-peer-preserved
loop-peer-preserved c =
    let peers = c.args.self.now.peers in
    let index = c.loop-peer.peer-index in
    let items : c.deref-peer-items.result.now ≡ peers = c.deref-peer-items.ensures.value ∙ ap (λ (z : CoreView). z.peers) c.self.view_is in
    let at : c.peer-item.result ≡ slice_index_or peers index no_peer =
    c.peer-item.is
    ∙ (get_or_default c.deref-peer-items.result.now index c.peer-item.result no_peer c.loop-peer-test.true
    ∙ ap (λ (l : List PeerView). slice_index_or l index no_peer) items) in
    let here = ap (λ (p : PeerView). p.least) (c.peer.view_is ∙ at) in
    subst (λ (o : Option ℕ). IsLeastBy (HasLeast peers (index + 1)) o)
    (sym (c.earlier-least.ensures ∙ ap (λ (o : Option ℕ). earlier_of c.loop-peer.least o) here))
    (least-more peers index c.loop-peer.least c.loop-peer.invariant)

pub returns : goal.returns
returns c =
    let now = c.args.self.now in
    let index = c.loop-peer.peer-index in
    let b = c.self.invariant.stands (ap (λ (z : CoreView). z.failed) c.self.view_is ∙ c.requires.works) in
    let stands : CoreStands b.0 now = subst (λ (z : CoreView). CoreStands b.0 z) c.self.view_is b.1 in
    let setup : IsSetup now.setup = subst (λ (z : CoreView). IsSetup z.setup) c.self.view_is c.self.invariant.is_setup in
    let each : length now.peers ≡ now.setup.cores =
    subst (λ (z : CoreView). length z.peers ≡ z.setup.cores) c.self.view_is c.self.invariant.one_peer_each in
    let items : length c.deref-peer-items.result.now ≡ length now.peers =
    ap length c.deref-peer-items.ensures.value ∙ ap (λ (z : CoreView). length z.peers) c.self.view_is in
    let whole : index ≡ length now.peers = omega (arith, c.loop-peer-test.false, c.loop-peer.auto.peer-index-end, items) in
    least-says now setup b.0 stands c.requires.traded each c.loop-peer.least
    (subst (λ (n : ℕ). IsLeastBy (HasLeast now.peers n) c.loop-peer.least) whole c.loop-peer.invariant)
