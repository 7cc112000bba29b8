use Rattle.flame_world.proofs.NamedBoards.{named_boards_are_enough}
use Rattle.flame_world.proofs.laws.boards_of_inputs.Goals as goal

pub returns : goal.returns
returns c = record { named = named_boards_are_enough }
