use Rattle.flame_world.proofs.WorldsKept.{worlds_stay_worlds}
use Rattle.flame_world.proofs.laws.worlds_stay_worlds.Goals as goal

pub returns : goal.returns
returns c = worlds_stay_worlds
