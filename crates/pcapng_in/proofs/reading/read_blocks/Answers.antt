use Rattle.std.proofs.Common.{arith}
use Rattle.pcapng_in.specs.Answers.{seen}
use Rattle.pcapng_in.proofs.BlockByBlock.{IsStep, ReadsTo-step, step-place}
use Rattle.pcapng_in.proofs.Kept.{what_is_read_keeps}
use Rattle.pcapng_in.proofs.reading.read_blocks.Goals as goal

pub read_block-requires-clause-rates : goal.read_block-requires-clause-rates
read_block-requires-clause-rates c =
    (what_is_read_keeps c.args.text.now (seen c.steps.state) c.steps.rest.now c.steps.invariant.reads).rates

pub steps-preserved : goal.steps-preserved
steps-preserved c =
    let state = seen c.steps.state in
    let rest = c.steps.rest.now in
    let shape = c.in-Ok.shape in
    let new = seen c.read_block.new.self in
    let step : IsStep state rest shape new = record {
      shape_good = c.in-Ok.ensures.0;
      shape_is = c.in-Ok.ensures.1;
      content_good = c.in_ok-read_block.ensures.0;
      content_is = c.in_ok-read_block.ensures.1;
    } in
    record {
      reads = ReadsTo-step c.args.text.now state rest c.split_at.result.1.now shape new c.steps.invariant.reads step c.split_at.ensures.back;
      place = omega (arith, c.steps.invariant.place, step-place state rest shape new step, step.shape_is.whole, c.split_at.ensures.back_len);
    }
