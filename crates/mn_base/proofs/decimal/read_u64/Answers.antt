use Rattle.std.proofs.Common.{refl, ◌<◌, length, arith}
use Rattle.mn_base.proofs.decimal.read_u64.Goals as goal
use Rattle.mn_base.proofs.Decimals.{whole_value, beyond_u64}

pub returns-in_default : goal.returns-in_default
returns-in_default c =
    record {
      value = beyond_u64 c.args.text.now c.loop-digit.digit-index c.loop-digit.value _ c.loop-digit-test.true c.loop-digit.invariant.value
          refl c.in_default.ensures;
    }

pub returns : goal.returns
returns c =
    let some : 0 < length c.args.text.now = grind (arith, c.is_empty.ensures, c.if-is_empty.false) in
    record {
      value = whole_value c.args.text.now c.loop-digit.digit-index c.loop-digit.value c.loop-digit-test.false some
          c.loop-digit.invariant.digits c.loop-digit.invariant.value c.loop-digit.invariant.small;
    }
