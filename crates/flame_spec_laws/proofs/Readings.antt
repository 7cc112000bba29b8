-- Rows that are read are rows of boards.
use Rattle.std.proofs.Common.{ℕ, Bool, List, [], ◌∷◌, map, Option, Some, None}
use Rattle.std.specs.Prelude.{ℤ, slice_index_or}
use Rattle.std.specs.List.{filter}
use Rattle.flame_spec.specs.declared.models.AgentType.{AgentType}
use Rattle.flame_spec.specs.declared.models.Input.{Input}
use Rattle.flame_spec.specs.declared.models.MessageType.{MessageType}
use Rattle.flame_spec.specs.declared.models.Model.{Model}
use Rattle.flame_spec.specs.Functions.{Place}
use Rattle.flame_spec.specs.Views.{Key, view_order, view, is_read, key_of}
use Rattle.std.specs.Prelude.{option_map}
use Rattle.flame_meaning.specs.Outcomes.{message_named, reading_by, reading_of, readings_at, place_of, readings_of}
use Rattle.flame_meaning.specs.RangeLaws.{Each, AreInts}
use Rattle.flame_meaning.proofs.RangesKept.{outcomes_are_ints}
use Rattle.flame_spec_laws.specs.JoinedLaws.{OutcomesOverBoardsAreInts}
use Rattle.flame_meaning.proofs.Eachs.{each_index, each_sorted, each_filter}

pub viewed :
    (P : List ℤ → Type 0) (passes : List ℤ → Bool) (key : Option Key) (board : List (List ℤ))
    → Each P board
    → Each P (view passes key board)
viewed P passes key board h = each_sorted P (view_order key) (filter passes board) (each_filter P passes board h)

module _ (boards : List (List (List ℤ))) (ints : Each (λ board. Each AreInts board) boards) where
  found_read :
      (found : Option (ℕ × MessageType)) (type : AgentType) (memory : List ℤ) (input : Input)
      → Each AreInts (reading_by found type memory boards input)
  found_read None type memory input = tt
  found_read (Some found) type memory input =
      viewed AreInts (is_read type found.1 input.filter memory) (option_map (key_of found.1) input.sort)
      (slice_index_or boards found.0 [])
      (each_index (λ board. Each AreInts board) [] boards found.0 tt ints)

  all_read :
      (model : Model) (type : AgentType) (memory : List ℤ) (inputs : List Input)
      → Each (λ rows. Each AreInts rows) (map (reading_of model type memory boards) inputs)
  all_read model type memory [] = tt
  all_read model type memory (input ∷ inputs) =
      (found_read (message_named model.messages input.message) type memory input, all_read model type memory inputs)

  place_read :
      (place : Option Place) (model : Model) (memory : List ℤ)
      → Each (λ rows. Each AreInts rows) (readings_at place model memory boards)
  place_read None model memory = tt
  place_read (Some place) model memory = all_read model place.type memory place.function.inputs

pub outcomes_over_boards_are_ints : OutcomesOverBoardsAreInts
outcomes_over_boards_are_ints source function memory boards constants iteration fuel written held ints given counted =
    outcomes_are_ints source function memory (readings_of source function memory boards) constants iteration fuel
    written held (place_read boards ints (place_of source function) source.model memory) given counted
