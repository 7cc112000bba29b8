-- What a function means for the agents of a piece, over the boards of its inputs.
use Rattle.std.specs.Prelude.{◌≡◌, ℕ, ℤ, List, [], map, Option, Some, None}
use Rattle.std.specs.List.{zip}
use Rattle.flame_rows.specs.Bags.{ascending}
use Rattle.flame_spec.specs.declared.models.Model.{Model}
use Rattle.flame_spec.specs.declared.models.AgentType.{AgentType}
use Rattle.flame_spec.specs.declared.models.MessageType.{MessageType}
use Rattle.flame_spec.specs.declared.models.Input.{Input}
use Rattle.flame_spec.specs.declared.outcomes.Outcome.{Outcome}
use Rattle.flame_spec.specs.declared.outcomes.Sent.{Sent}
use Rattle.flame_spec.specs.Functions.{Place}
use Rattle.flame_spec.specs.Views.{view_of}
use Rattle.flame_meaning.specs.Outcomes.{place_of, message_named, outputs_at, outcome_over}
use Rattle.flame_world.specs.declared.pieces.Piece.{Piece}
use Rattle.flame_world.specs.declared.pieces.Part.{Part}
use Rattle.flame_world.specs.declared.pieces.Rest.{Rest}
use Rattle.flame_world.specs.declared.settings.Setting.{Setting}
use Rattle.flame_world.specs.AgentRuns.{survivors, sent_from, born_from, least_fault, messages_of}
use Rattle.flame_world.specs.Settings.{boards_of}

-- ---- over the boards of the inputs

-- the view of this board under an input's filter and sort, with this memory, where the input's message was found
-- [FLAME User Manual; no message: own]
abbrev pub view_from :
    Option (ℕ × MessageType) → AgentType → List ℤ → Input → List (List ℤ) → List (List ℤ)
view_from None type memory input board = []
view_from (Some found) type memory input board = view_of type found.1 input.filter input.sort memory board

-- what an agent reads by each input of the function of this place, from the board of each; of an input without a board,
-- or a board without an input, nothing [FLAME User Manual; as many as there are of both: own]
abbrev pub readings_from : Option Place → Model → List ℤ → List (List (List ℤ)) → List (List (List ℤ))
readings_from None model memory boards = []
readings_from (Some place) model memory boards =
    map
    (λ (input, board). view_from (message_named model.messages input.message) place.type memory input board)
    (zip place.function.inputs boards)

-- the outcome of the function of this number for an agent, under this setting [FLAME User Manual]
abbrev pub outcome_under : Setting → ℕ → List ℤ → Outcome
outcome_under setting function memory =
    outcome_over setting.source.now function memory
    (readings_from (place_of setting.source.now function) setting.source.now.model memory (boards_of setting))
    setting.constants.now setting.iteration setting.fuel

-- ---- over the agents of a piece

-- the part of a piece for a message [own]
abbrev pub part_for : Piece → List Sent → ℕ → Part
part_for piece sent message = record {
  function = piece.function;
  number = piece.number;
  message = message;
  rows = ascending (messages_of sent message);
}

-- survivors, births, the least fault, and a part for each output are those of the piece's agents [own]
pub record IsMeaning (setting : Setting) (piece : Piece) (rest : Rest) (parts : List Part) : Type 0 where
  pub survivors_are : rest.survivors ≡ survivors (outcome_under setting piece.function) piece.agents
  pub births_are : rest.born ≡ born_from (outcome_under setting piece.function) piece.agents
  pub fault_is :
      rest.fault
      ≡ least_fault setting.iteration piece.function (outcome_under setting piece.function) piece.agents
  pub parts_are :
      parts
      ≡ map
      (part_for piece (sent_from (outcome_under setting piece.function) piece.agents))
      (outputs_at (place_of setting.source.now piece.function) setting.source.now.model)
