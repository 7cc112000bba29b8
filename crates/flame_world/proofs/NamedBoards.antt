-- What is read from the boards that inputs name is what is read from all boards.
use Rattle.std.proofs.Common.{◌≡◌, ℕ, List, [], ◌∷◌, map, Option, Some, None, refl, ap, ◌∙◌}
use Rattle.std.specs.Prelude.{ℤ}
use Rattle.std.specs.List.{zip}
use Rattle.flame_spec.specs.declared.models.Model.{Model}
use Rattle.flame_spec.specs.declared.models.AgentType.{AgentType}
use Rattle.flame_spec.specs.declared.models.MessageType.{MessageType}
use Rattle.flame_spec.specs.declared.models.Input.{Input}
use Rattle.flame_spec.specs.Functions.{Place}
use Rattle.flame_meaning.specs.Outcomes.{message_named, place_of, reading_by, reading_of, readings_at, outcome_over}
use Rattle.flame_world.specs.Meaning.{view_from, readings_from}
use Rattle.flame_world.specs.InputBoards.{board_of, boards_named, NamedBoardsAreEnough}

view_named :
    (found : Option (ℕ × MessageType)) (type : AgentType) (memory : List ℤ) (boards : List (List (List ℤ)))
    (input : Input)
    → view_from found type memory input (board_of found boards) ≡ reading_by found type memory boards input
view_named None type memory boards input = refl
view_named (Some found) type memory boards input = refl

views_named : (model : Model) (type : AgentType) (memory : List ℤ) (boards : List (List (List ℤ))) (inputs : List Input)
    → map (λ (input, board). view_from (message_named model.messages input.message) type memory input board)
    (zip inputs (map (λ input. board_of (message_named model.messages input.message) boards) inputs))
    ≡ map (reading_of model type memory boards) inputs
views_named model type memory boards [] = refl
views_named model type memory boards (input ∷ inputs) =
    λ i. view_named (message_named model.messages input.message) type memory boards input i
    ∷ views_named model type memory boards inputs i

readings_named : (place : Option Place) (model : Model) (memory : List ℤ) (boards : List (List (List ℤ)))
    → readings_from place model memory (boards_named place model boards) ≡ readings_at place model memory boards
readings_named None model memory boards = refl
readings_named (Some place) model memory boards = views_named model place.type memory boards place.function.inputs

pub named_boards_are_enough : NamedBoardsAreEnough
named_boards_are_enough setting function memory boards named =
    let source = setting.source.now in
    let place = place_of source function in
    ap (λ readings. outcome_over source function memory readings setting.constants.now setting.iteration setting.fuel)
    (ap (readings_from place source.model memory) named ∙ readings_named place source.model memory boards)
