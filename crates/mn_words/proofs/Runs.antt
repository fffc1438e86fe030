-- What `rehearse` asks for, option by option.
use Rattle.std.proofs.Common.{◌≡◌, List, Ok, refl}
use Rattle.std.specs.Prelude.{codes}
use Rattle.mn_words.specs.Form.{value_of}
use Rattle.mn_words.specs.Items.{Item}
use Rattle.mn_words.specs.Options.{mode_in, cores_in, seed_in, tick_in, cluster_report_in, order_in, turns_in, loss_in, text_in}
use Rattle.mn_words.specs.Order.{RunView}
use Rattle.mn_words.specs.TheCommands.{run_of}

-- each field of an order is what the items say of it
pub record Says (items : List Item) (run : RunView) : Type 0 where
  pub mode : mode_in items ≡ Ok run.mode
  pub cores : cores_in 1 items ≡ Ok run.cores
  pub seed : seed_in items ≡ Ok run.seed
  pub tick_ns : tick_in items ≡ Ok run.tick_ns
  pub cluster_report : cluster_report_in items ≡ Ok run.cluster_report
  pub order : order_in items ≡ Ok run.order
  pub turns : turns_in items ≡ Ok run.turns
  pub loss : loss_in items ≡ Ok run.loss
  pub topology : text_in (codes "--topology") items ≡ run.topology
  pub trace : text_in (codes "--trace") items ≡ run.trace
  pub out : text_in (codes "--out") items ≡ run.out
  pub report : text_in (codes "--report") items ≡ run.report
  pub directory : value_of (codes "--directory") items ≡ run.directory

-- so the items ask for it
pub run_of-is : (items : List Item) (order : RunView) → Says items order → run_of items ≡ Ok order
unfolding run_of
run_of-is items order says = rw (
  says.mode,
  says.cores,
  says.seed,
  says.tick_ns,
  says.cluster_report,
  says.order,
  says.turns,
  says.loss,
  says.topology,
  says.trace,
  says.out,
  says.report,
  says.directory,
) refl
