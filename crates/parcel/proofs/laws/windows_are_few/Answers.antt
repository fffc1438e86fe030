use Rattle.parcel.proofs.FewWindows.{windows_are_few}
use Rattle.parcel.proofs.laws.windows_are_few.Goals as goal

pub returns : goal.returns
returns c = windows_are_few c.args.setup.now c.parts-parts.ensures.kept
