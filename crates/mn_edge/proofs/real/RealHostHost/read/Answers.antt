use Rattle.std.proofs.Common.{◌∙◌, None, ap}
use Rattle.mn_edge.specs.RealHostView.{file_of}
use Rattle.mn_edge.proofs.Roles.{elsewhere}
use Rattle.mn_edge.proofs.real.RealHostHost.read.Goals as goal

pub returns-clause-files : goal.returns-clause-files
returns-clause-files g c = λ other differ.
    elsewhere c.self.inside.files c.args.role other c.index-index.result c.read_from.new.file None c.index-index.ensures.index differ
    ∙ ap (λ host. file_of host other) c.self.view_is
