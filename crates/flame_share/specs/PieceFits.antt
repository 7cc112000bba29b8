-- What a run of a piece asks for.
use Rattle.std.specs.Prelude.{◌≡◌, ℕ, ℤ, List, Some, length, slice_get}
use Rattle.flame_spec.specs.declared.models.Model.{Model}
use Rattle.flame_spec.specs.Columns.{width}
use Rattle.flame_spec.specs.Functions.{Place, functions}
use Rattle.flame_world.specs.declared.pieces.Piece.{Piece}
use Rattle.flame_world.specs.WorldFits.{AreWide}
use Rattle.flame_agent.specs.FunctionFits.{AreBoardsFor}

-- the piece's function is one of the model's, and its agents, the constants and the messages on the boards of its inputs are
-- as wide as the model declares [XMML]
pub record FitsPiece
    (model : Model) (constants : List ℤ) (boards : List (List (List ℤ))) (piece : Piece) :
    Type 0 where
  pub place : Place
  pub there : slice_get (functions model) piece.function ≡ Some place
  pub memories : AreWide (width place.type.memory) piece.agents
  pub known : length constants ≡ length model.constants
  pub wide : AreBoardsFor model place.function.inputs boards

-- the function of this number is one of the model's [XMML]
pub record IsThere (model : Model) (function : ℕ) : Type 0 where
  pub place : Place
  pub at : slice_get (functions model) function ≡ Some place
