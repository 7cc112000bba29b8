-- The outcome of a transition function: over what its inputs give, and over the boards of all messages.
use Rattle.std.specs.Prelude.{ℕ, ℤ, List, [], map, Option, Some, None, option_map, slice_get, slice_index_or, if◌then◌else◌}
use Rattle.std.specs.List.{filter_map}
use Rattle.std.specs.Str.{bytes_eq}
use Rattle.flame_spec.specs.declared.models.Model.{Model}
use Rattle.flame_spec.specs.declared.models.AgentType.{AgentType}
use Rattle.flame_spec.specs.declared.models.MessageType.{MessageType}
use Rattle.flame_spec.specs.declared.models.Input.{Input}
use Rattle.flame_spec.specs.declared.outcomes.Source.{Source}
use Rattle.flame_spec.specs.declared.outcomes.Outcome.{Outcome}
use Rattle.flame_spec.specs.declared.outcomes.Outcome.TheVariants.{Ended, Faulted}
use Rattle.flame_spec.specs.Definitions.{helpers, body_of}
use Rattle.flame_spec.specs.Functions.{functions, Place}
use Rattle.flame_spec.specs.Lists.{numbered_where}
use Rattle.flame_spec.specs.Views.{view_of}
use Rattle.flame_spec.specs.Scopes.{context_for}
use Rattle.flame_meaning.specs.Scenes.{Scene, Progress}
use Rattle.flame_meaning.specs.Expressions.{holds}
use Rattle.flame_meaning.specs.Ends.{End, went_on, broke, continued, returned, faulted}
use Rattle.flame_meaning.specs.Statements.{meanings}
use Rattle.flame_meaning.specs.HelperCalls.{helper_calls}

-- ---- over readings

-- the function begins with its memory, no locals, nothing added, and the full fuel [own]
abbrev pub start : List ℤ → ℕ → Progress
start memory fuel = record { memory = memory; locals = []; sent = []; born = []; fuel = fuel }

-- the function ended with this memory, if any, and with what it added [FLAME User Manual]
abbrev pub ended : Option (List ℤ) → Progress → Outcome
ended memory s = Ended (record { memory = memory; sent = s.sent; born = s.born; fuel = s.fuel })

-- a function that returns another value than 0 removes its agent, and what it added still counts; to run off the end is
-- to return 0, and so is a `break` or `continue` outside all loops, which no accepted source has
-- [FLAME User Manual; off the end: own]
abbrev pub finished : End → Outcome
finished (went_on s) = ended (Some s.memory) s
finished (broke s) = ended (Some s.memory) s
finished (continued s) = ended (Some s.memory) s
finished (returned v s) = if holds v then ended None s else ended (Some s.memory) s
finished (faulted fault) = Faulted fault

-- what the function of this place has before it [FLAME User Manual]
abbrev pub scene_of : Source → Place → List (List (List ℤ)) → List ℤ → ℤ → Scene
scene_of source place readings constants iteration = record {
  context = context_for source.model (helpers source.model source.units) (Some place);
  constants = constants;
  iteration = iteration;
  readings = readings;
  open_loops = [];
  answers = helper_calls source.model (helpers source.model source.units) constants iteration;
}

-- the outcome of the function of this place; without one nothing changes [FLAME User Manual; without one: own]
abbrev pub outcome_at :
    Option Place → Source → List ℤ → List (List (List ℤ)) → List ℤ → ℤ → ℕ → Outcome
outcome_at None source memory readings constants iteration fuel = finished (went_on (start memory fuel))
outcome_at (Some place) source memory readings constants iteration fuel =
    finished
    (meanings (body_of source.units place.function)
    (scene_of source place readings constants iteration)
    (start memory fuel))

-- the place of the function of this number, in document order [XMML]
abbrev pub place_of : Source → ℕ → Option Place
place_of source function = slice_get (functions source.model) function

-- the outcome of the function of this number for an agent with this memory, where loops over its inputs give these
-- rows, an entry for each input in order, with these constants, in this iteration, with this fuel [FLAME User Manual]
abbrev pub outcome_over : Source → ℕ → List ℤ → List (List (List ℤ)) → List ℤ → ℤ → ℕ → Outcome
outcome_over source function = outcome_at (place_of source function) source

-- ---- over boards

-- the message of this name, with its number [XMML]
abbrev pub message_named : List MessageType → List ℕ → Option (ℕ × MessageType)
message_named messages name = numbered_where (λ message. bytes_eq message.name name) messages

-- the numbers of the messages that the function of this place outputs [XMML]
abbrev pub outputs_at : Option Place → Model → List ℕ
outputs_at None model = []
outputs_at (Some place) model =
    filter_map (λ output. option_map (λ found. found.0) (message_named model.messages output)) place.function.outputs

-- the view of the board of the message that was found, under the input's filter and sort, with this memory
-- [FLAME User Manual; no message: own]
abbrev pub reading_by :
    Option (ℕ × MessageType) → AgentType → List ℤ → List (List (List ℤ)) → Input → List (List ℤ)
reading_by None type memory boards input = []
reading_by (Some found) type memory boards input =
    view_of type found.1 input.filter input.sort memory (slice_index_or boards found.0 [])

-- what an agent of this type with this memory reads by an input, where these are the boards of the messages in order
-- [FLAME User Manual]
abbrev pub reading_of : Model → AgentType → List ℤ → List (List (List ℤ)) → Input → List (List ℤ)
reading_of model type memory boards input =
    reading_by (message_named model.messages input.message) type memory boards input

-- what it reads by each input of the function of this place, with its memory at entry [FLAME User Manual]
abbrev pub readings_at : Option Place → Model → List ℤ → List (List (List ℤ)) → List (List (List ℤ))
readings_at None model memory boards = []
readings_at (Some place) model memory boards =
    map (reading_of model place.type memory boards) place.function.inputs

-- what it reads by each input of the function of this number [FLAME User Manual]
abbrev pub readings_of : Source → ℕ → List ℤ → List (List (List ℤ)) → List (List (List ℤ))
readings_of source function memory boards =
    readings_at (place_of source function) source.model memory boards

-- the outcome of the function of this number for an agent with this memory, over these boards, one for each message in
-- order, with these constants, in this iteration, with this fuel [FLAME User Manual]
abbrev pub outcome : Source → ℕ → List ℤ → List (List (List ℤ)) → List ℤ → ℤ → ℕ → Outcome
outcome source function memory boards constants iteration fuel =
    outcome_over source function memory (readings_of source function memory boards) constants iteration fuel
