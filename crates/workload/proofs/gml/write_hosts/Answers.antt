use Rattle.std.specs.Prelude.{string_bytes}
use Rattle.workload.proofs.Lines.{no_hosts, next_host}
use Rattle.workload.proofs.gml.write_hosts.Goals as goal

pub loop-host-init : goal.loop-host-init
loop-host-init c = no_hosts (string_bytes c.args.text.now)

pub loop-host-preserved : goal.loop-host-preserved
loop-host-preserved c =
    next_host c.loop-host.host (string_bytes c.args.text.now)
    (string_bytes c.loop-host.text) _ c.loop-host.invariant c.in_ok-write_host.ensures
