use Rattle.std.proofs.Common.{◌≡◌, ◌++◌, ◌∙◌, take, drop, append_assoc, take-append-drop, ap, sym}
use Rattle.mn_edge.proofs.Parts.{Adds-active, Adds-append}
use Rattle.mn_edge.proofs.whole.write_all.Goals as goal

-- the piece that was just written joins the front
pub pieces-preserved : goal.pieces-preserved
pieces-preserved g c =
    let past = c.pieces.invariant in
    let rest = c.pieces.rest.now in
    let count = c.in-Ok.count in
    let joined : (past.front ++ take count rest) ++ drop count rest ≡ past.front ++ rest = rw append_assoc
    (ap (λ bytes. past.front ++ bytes) (take-append-drop count rest)) in
    record {
      active = Adds-active _ _ _ c.in-Ok.ensures.own ∙ past.active;
      front = past.front ++ take count rest;
      split = rw c.split_at.ensures.back (past.split ∙ sym joined);
      added = Adds-append _ _ _ _ _ past.added c.in-Ok.ensures.own;
      others = λ other apart. c.in-Ok.ensures.others other apart ∙ past.others other apart;
    }
