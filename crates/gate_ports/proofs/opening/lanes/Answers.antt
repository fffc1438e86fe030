use Rattle.std.proofs.Common.{rules, ◌≡◌, ℕ, ◌+◌, List, [], ◌∷◌, ◌++◌, length, take, drop, sym, ap, ◌∙◌, subst, arith}
use Rattle.std.specs.Prelude.{Vec}
use Rattle.std.specs.declared.alloc.Global.{Global}
use Rattle.std.proofs.Math.Seq.{take-append_seam}
use Rattle.journal.specs.SetupView.{SetupView}
use Rattle.gate_box.specs.EndView.{EndView}
use Rattle.gate_ports.specs.declared.lane_name.LaneName.{LaneName}
use Rattle.gate_ports.specs.GatePortsView.{EachAt}
use Rattle.gate_ports.specs.Building.{HasSenders, HasReceivers, AreOfOneLane}
use Rattle.gate_ports.proofs.Building.{longer, each_push}
use Rattle.gate_ports.proofs.Joining.{of_one_lane_more}
use Rattle.gate_ports.proofs.opening.lanes.Goals as goal

pub loop-to-preserved : goal.loop-to-preserved
loop-to-preserved c =
    let S : SetupView = c.args.setup.now in
    let to : ℕ = c.loop-to.to in
    let rows : List (Vec (EndView LaneName) Global) = c.lanes_to.new.senders in
    let known : List (Vec (EndView LaneName) Global) = c.loop-to.receivers.items in
    let row : Vec (EndView LaneName) Global = c.in_ok-lanes_to.field-0 in
    let lent : length c.deref_mut.result.now ≡ S.cores =
    omega (arith, c.deref_mut.ensures.len, c.loop-to.senders.ok.0, c.loop-to.invariant.0) in
    let count : length rows ≡ S.cores = omega (arith, c.lanes_to.auto.senders, lent) in
    let len : c.loop-to.senders.len ≡ length rows = omega (arith, c.lanes_to.auto.senders, c.deref_mut.ensures.len) in
    let rest : List (Vec (EndView LaneName) Global) = drop (length rows) c.loop-to.senders.items in
    let back : take c.loop-to.senders.len (rows ++ rest) ≡ rows = ap (λ (n : ℕ). take n (rows ++ rest)) len ∙ take-append_seam rows rest in
    let AllSend : List (Vec (EndView LaneName) Global) → Type 0 = λ l.
    (length l ≡ S.cores) × EachAt (HasSenders S (to + 1)) l × AreOfOneLane l (known ++ row ∷ []) in
    let had : EachAt (HasSenders S to) c.deref_mut.result.now = search rules in
    let were : AreOfOneLane c.deref_mut.result.now known = search rules in
    let counts : EachAt (λ j v. length v.items ≡ length known) c.deref_mut.result.now = λ j d within.
    (had j d within).count ∙ sym c.loop-to.invariant.2 in
    let one : AreOfOneLane rows (known ++ row ∷ []) =
    of_one_lane_more c.deref_mut.result.now rows known row counts c.lanes_to.auto.senders were c.in_ok-lanes_to.ensures.one_lane in
    let both : AllSend rows = (count, c.in_ok-lanes_to.ensures.senders, one) in
    let sends = subst AllSend (sym back) both in
    let pushed = c.in_ok-push.ensures.items in
    let has : HasReceivers S S.cores to row = subst (λ (n : ℕ). HasReceivers S n to row) lent c.in_ok-lanes_to.ensures.receivers in
    let last : HasReceivers S S.cores (length known) row =
    subst (λ (n : ℕ). HasReceivers S S.cores n row) (sym c.loop-to.invariant.2) has in (
      sends.0,
      sends.1,
      longer known _ row to c.loop-to.invariant.2 pushed,
      subst (λ (l : List (Vec (EndView LaneName) Global)). EachAt (HasReceivers S S.cores) l) (sym pushed)
          (each_push (HasReceivers S S.cores) known row c.loop-to.invariant.3 last),
      subst (λ (l : List (Vec (EndView LaneName) Global)). AreOfOneLane (take c.loop-to.senders.len (rows ++ rest)) l) (sym pushed) sends.2,
    )
