use Rattle.std.proofs.Common.{◌≡◌, ◌<◌, ◌^◌, true, take}
use Rattle.std.specs.List.{list_all}
use Rattle.mn_base.specs.Decimal.{is_digit, number_of}
use Rattle.mn_base.proofs.decimal.read_u64.Given as goal

abbrev pub invariant-loop-digit : goal.invariant-loop-digit
invariant-loop-digit l = record {
  digits : list_all is_digit (take l.digit-index l.text) ≡ true;
  value : l.value ≡ number_of (take l.digit-index l.text);
  small : l.value < 2 ^ 64;
}
