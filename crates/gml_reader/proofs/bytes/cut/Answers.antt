use Rattle.std.proofs.Common.{◌<◌, length, arith}
use Rattle.gml_reader.proofs.Addresses.{one_part, parted}
use Rattle.gml_reader.proofs.bytes.cut.Goals as goal

pub returns-then-len-bytes : goal.returns-then-len-bytes
returns-then-len-bytes c = one_part c.args.bytes.now c.part_len-len.result c.part_len-len.ensures.value c.if-len-bytes.true

pub returns : goal.returns
returns c =
    let within : c.part_len-len.result < length c.args.bytes.now = omega arith in
    parted c.args.bytes.now c.part_len-len.result c.part_len-len.ensures.value within c.split_at.ensures.front c.split_at-2.ensures.back
