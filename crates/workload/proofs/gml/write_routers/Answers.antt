use Rattle.std.specs.Prelude.{string_bytes}
use Rattle.workload.proofs.Lines.{no_routers, next_router}
use Rattle.workload.proofs.gml.write_routers.Goals as goal

pub loop-router-init : goal.loop-router-init
loop-router-init c = no_routers (string_bytes c.args.text.now)

pub loop-router-preserved : goal.loop-router-preserved
loop-router-preserved c =
    next_router c.loop-router.router (string_bytes c.args.text.now)
    (string_bytes c.loop-router.text) _ c.loop-router.invariant c.in_ok-write_router.ensures
