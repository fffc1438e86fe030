use Rattle.std.proofs.Common.{◌+◌, ◌<◌, length, set, Some, sym, ap, subst, arith}
use Rattle.core_loop.specs.CoreView.{PeerView}
use Rattle.core_loop.proofs.RoundParcels.{IsHanding, handing-list, handing-own, handing-other}
use Rattle.core_loop.proofs.handing.make_parcels.Goals as goal
use Rattle.core_loop.proofs.handing.make_parcels.Goals.{then-other-number, else-other-number+in-Some-1, else-other-number+in-None-1}

pub loop-other-preserved : goal.loop-other-preserved
loop-other-preserved c =
    let number = c.args.number in
    let first = c.args.notes.items in
    let least = c.args.least in
    let ps = c.args.peers.now.items in
    let i = c.loop-other.other in
    let h = c.loop-other.invariant in
    let new = c.replace-list.new.dest in
    let within : i < length ps = omega (arith, c.loop-other-test.true, c.len-other-end.ensures) in
    let list = handing-list h (let e = h.as_long in let n = c.requires.count in omega (arith, within, e, n)) c.index_mut.ensures.value
    c.replace-list.ensures.value in
    elim c.if-other-number.branch [
      | then-other-number w ↦
          subst (λ v. IsHanding number first least ps (i + 1) v.items (set c.loop-other.notes.items i new)) (sym w.peers-is)
          (handing-own h within w.if-other-number.true w.index_mut-then-other-number.ensures.value
          (ap (λ (p : PeerView). record p { least = least }) w.behind-peers.view_is) new)
      | else-other-number+in-Some-1 w ↦
          subst (λ v. IsHanding number first least ps (i + 1) v.items (set c.loop-other.notes.items i new)) (sym w.peers-is)
          (handing-other h within w.if-other-number.false w.index_mut-else-other-number.ensures.value
          (ap (λ (p : PeerView). record p { owed = Some w.in_order.result }) w.behind-peers-else-other-number.view_is) list
          (record { rises = w.in_order.ensures.rises; same = w.in_order.ensures.same; least_is = w.in_order.ensures.least }) new)
      | else-other-number+in-None-1 w ↦
          subst (λ v. IsHanding number first least ps (i + 1) v.items (set c.loop-other.notes.items i new)) (sym w.peers-is)
          (handing-other h within w.if-other-number.false w.index_mut-else-other-number.ensures.value
          (ap (λ (p : PeerView). record p { owed = Some w.in_order.result }) w.behind-peers-else-other-number.view_is) list
          (record { rises = w.in_order.ensures.rises; same = w.in_order.ensures.same; least_is = w.in_order.ensures.least }) new)
    ]
