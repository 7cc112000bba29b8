-- The turn of an iteration without a fault.
use Rattle.std.proofs.Common.{◌≡◌, List, None}
use Rattle.std.specs.Prelude.{ℤ}
use Rattle.flame_world.specs.declared.turns.Turn.TheVariants.{Done}
use Rattle.flame_world.specs.declared.worlds.Boards.{Boards}
use Rattle.flame_world.specs.declared.worlds.World.{World}
use Rattle.flame_world.specs.Fields.{Field, gathered}
use Rattle.flame_world.specs.Iterations.{turn_of, unless_faulted}

pub done_is : (constants : List ℤ) (field : Field) (world : World) (boards : Boards)
    → world.constants ≡ constants → world.agents ≡ gathered field → boards.boards ≡ field.boards
    → Done world boards ≡ turn_of constants (unless_faulted None field)
done_is constants field world boards same agents messages =
    λ i. Done (record { constants = same i; agents = agents i }) (record { boards = messages i })
