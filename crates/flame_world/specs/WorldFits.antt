-- What fits a model stays so: values, memories and messages are as many and as wide as it declares.
use Rattle.std.specs.Prelude.{◌≡◌, ℕ, ℤ, List, Ok, length}
use Rattle.std.specs.List.{AllZip}
use Rattle.flame_spec.specs.declared.models.Model.{Model}
use Rattle.flame_spec.specs.declared.outcomes.Source.{Source}
use Rattle.flame_spec.specs.Columns.{width}
use Rattle.flame_meaning.specs.RangeLaws.{Each}
use Rattle.flame_world.specs.declared.turns.Turn.TheVariants.{Done}
use Rattle.flame_world.specs.declared.worlds.World.{World}
use Rattle.flame_world.specs.declared.worlds.Boards.{Boards}
use Rattle.flame_world.specs.Fields.{Field, HasPools, opening}
use Rattle.flame_world.specs.Iterations.{Round, step, iteration}

-- rows of this width [own]
abbrev pub AreWide : ℕ → List (List ℤ) → Type 0
AreWide wide rows = Each (λ row. length row ≡ wide) rows

-- for each agent type agents with memories as wide as it declares [own]
abbrev pub FitTypes : Model → List (List (List ℤ)) → Type 0
FitTypes model bags = AllZip (λ type agents. AreWide (width type.memory) agents) model.agents bags

-- for each message rows as wide as it declares [own]
abbrev pub FitMessages : Model → List (List (List ℤ)) → Type 0
FitMessages model boards = AllZip (λ message rows. AreWide (width message.variables) rows) model.messages boards

-- a world fits the model: it has a value for each constant, and agents as wide as declared for each type [own]
pub record FitsModel (model : Model) (world : World) : Type 0 where
  pub constants : length world.constants ≡ length model.constants
  pub agents : FitTypes model world.agents

-- a field fits the model: a pool for each state of each type, and agents, births and messages as wide as declared [own]
pub record FitsField (model : Model) (field : Field) : Type 0 where
  pub states : HasPools model field
  pub pools : AllZip (λ type pools. Each (AreWide (width type.memory)) pools) model.agents field.pools
  pub born : FitTypes model field.born
  pub boards : FitMessages model field.boards

-- an iteration of a world that fits begins with a field that fits [own]
abbrev pub FittingWorldsOpen : Type 0
FittingWorldsOpen =
    (model : Model) (world : World) → FitsModel model world → FitsField model (opening model world.agents)

-- a field that fits still does when a function has run [own]
abbrev pub FittingFieldsStay : Type 0
FittingFieldsStay =
    (round : Round) (function : ℕ) (field after : Field)
    → FitsField round.source.model field
    → step round function field ≡ Ok after
    → FitsField round.source.model after

-- a world that fits still does after an iteration, and its boards do [own]
abbrev pub FittingWorldsStay : Type 0
FittingWorldsStay =
    (source : Source) (world after : World) (number : ℤ) (fuel : ℕ) (boards : Boards)
    → FitsModel source.model world
    → iteration source world number fuel ≡ Done after boards
    → FitsModel source.model after × FitMessages source.model boards.boards
