-- Starts and worlds of their parts.
use Rattle.std.specs.Prelude.{ℤ, List}
use Rattle.flame_world.specs.declared.worlds.World.{World}
use Rattle.flame_popfile.specs.declared.starts.Start.{Start}

abbrev pub start_from : ℤ → World → Start
start_from itno world = record { itno = itno; world = world }

abbrev pub world_from : List ℤ → List (List (List ℤ)) → World
world_from constants agents = record { constants = constants; agents = agents }
