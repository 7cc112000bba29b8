-- What the tasks of a layer ask for.
use Rattle.std.specs.Prelude.{◌≡◌, ℕ, List, map, Some, slice_get, IsTrue}
use Rattle.std.specs.List.{All}
use Rattle.flame_rows.specs.Bags.{ascending}
use Rattle.flame_spec.specs.declared.models.Model.{Model}
use Rattle.flame_spec.specs.Below.{is_in}
use Rattle.flame_index.specs.FrozenBoards.{shared_messages}
use Rattle.flame_meaning.specs.Outcomes.{place_of}
use Rattle.flame_world.specs.declared.pieces.Piece.{Piece}
use Rattle.flame_world.specs.InputBoards.{boards_named}
use Rattle.flame_world.specs.Fields.{Field}
use Rattle.flame_events.specs.LegalEvents.{outputs_of}
use Rattle.flame_round.specs.declared.rounds.Round as run
use Rattle.flame_share.specs.PieceFits.{FitsPiece}
use Rattle.flame_lanes.specs.declared.tasks.Task.{Task}
use Rattle.flame_layerrun.specs.declared.openings.Reading.{Reading}

-- the piece that the task is [own]
abbrev pub piece_in : Task → Piece
piece_in task = record { function = task.function; number = task.number; agents = ascending task.agents }

-- the task is one of the function in its place, and it, the constants and the boards that the function reads are as wide as the
-- model declares [XMML]
pub record FitsTask (round : run.Round) (readings : List Reading) (task : Task) : Type 0 where
  pub reading : Reading
  pub there : slice_get readings task.place ≡ Some reading
  pub function_is : reading.function ≡ task.function
  pub fits :
      FitsPiece round.program.now.model round.constants.now (map shared_messages reading.boards) (piece_in task)

-- each function reads the boards of this field that its inputs name [FLAME User Manual]
abbrev pub AreRead : run.Round → Field → List Reading → Type 0
AreRead round read readings =
    All
    (λ reading.
    map shared_messages reading.boards
    ≡ boards_named (place_of round.program.now reading.function) round.program.now.model read.boards)
    readings

-- all messages that the functions of these tasks output are among these [own]
abbrev pub AreListed : Model → List ℕ → List Task → Type 0
AreListed model messages tasks =
    All (λ task. All (λ message. IsTrue (is_in message messages)) (outputs_of model task.function)) tasks
