use Rattle.std.proofs.Common.{refl}
use Rattle.gate_box.specs.EndView.{EndView}
use Rattle.gate_ports.specs.declared.lane_name.LaneName.{LaneName}
use Rattle.gate_ports.proofs.Building.{zeros}
use Rattle.gate_ports.proofs.gate_ports.GatePorts.of.Goals as goal

pub returns-clause-fresh : goal.returns-clause-fresh
returns-clause-fresh c = record {
  setup = refl;
  core = refl;
  posted = zeros (λ (e : EndView LaneName). e.next) c.args.senders.items (λ j d within. (c.requires.senders.each j d within).next);
  taken = zeros (λ (e : EndView LaneName). e.next) c.args.receivers.items (λ j d within. (c.requires.receivers.each j d within).next);
  post_misses = zeros (λ (e : EndView LaneName). e.misses) c.args.senders.items (λ j d within. (c.requires.senders.each j d within).misses);
  take_misses = zeros (λ (e : EndView LaneName). e.misses) c.args.receivers.items (λ j d within. (c.requires.receivers.each j d within).misses);
}
