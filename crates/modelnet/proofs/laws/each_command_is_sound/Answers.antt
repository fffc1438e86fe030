use Rattle.modelnet.proofs.Sound.{is_sound}
use Rattle.modelnet.proofs.laws.each_command_is_sound.Goals as goal

pub returns : goal.returns
returns c = is_sound
