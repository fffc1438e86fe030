use Rattle.std.proofs.Common.{rules, ap, refl}
use Rattle.gate_box.proofs.Steps.{begins, splits}
use Rattle.gate_box.proofs.opening.pair.Goals as goal

pub vacant-requires : goal.vacant-requires
vacant-requires g c = begins g.L.Lane.is_item c.args.name _ refl refl

pub split_seat-other-requires : goal.split_seat-other-requires
split_seat-other-requires g c = (
  search rules,
  search rules,
  splits g.L.Lane.is_item c.in_ok-table.table.shared.key c.in_ok-table.seat.id c.in_ok-table.seat.me.0
      (ap (λ me. me.0.sends) c.in_ok-table.ensures.4)
      (ap (λ me. me.0.receives) c.in_ok-table.ensures.4),
)
