-- What a function comes to, put together from what its agents leave.
use Rattle.std.proofs.Common.{◌≡◌, ℕ, ◌<◌, List, [], length, map, get_or, Option, Some, None, sym, ap, ◌∙◌, arith, subst, refl}
use Rattle.std.specs.Prelude.{ℤ, option_map, slice_get, slice_index_or}
use Rattle.flame_spec.specs.declared.models.AgentType.{AgentType}
use Rattle.flame_spec.specs.declared.models.Model.{Model}
use Rattle.flame_spec.specs.declared.models.Input.{Input}
use Rattle.flame_spec.specs.declared.models.MessageType.{MessageType}
use Rattle.flame_spec.specs.Columns.{width}
use Rattle.flame_spec.specs.Functions.{Place, functions}
use Rattle.flame_spec.specs.States.{states, state_place}
use Rattle.flame_meaning.specs.RangeLaws.{Each}
use Rattle.flame_world.specs.Fields.{Field}
use Rattle.flame_world.specs.Iterations.{Round, resting, taking}
use Rattle.flame_world.specs.WorldFits.{AreWide, FitMessages, FitsField}
use Rattle.flame_leaving.specs.declared.leavings.Leaving.{Leaving}
use Rattle.flame_leaving.specs.Leavings.{AreLeft}
use Rattle.flame_body.specs.FunctionBodies.{input_width}
use Rattle.flame_agent.specs.FunctionFits.{AreBoardsFor}
use Rattle.flame_program.proofs.Acceptances.{variables-found}
use Rattle.flame_round.proofs.NamedNumbers.{named-numbers, named-wide}
use Rattle.flame_world.proofs.Eachs.{zip_at}
use Rattle.flame_world.proofs.RowsKept.{place_type}
use Rattle.flame_route.specs.declared.routes.Route.{Route}
use Rattle.flame_route.specs.ModelRoutes.{AreLeaving}
use Rattle.flame_spec.specs.Choice.{functions_out}
use Rattle.flame_round.specs.KeptRounds.{GoesBy, HasRoute}
use Rattle.flame_round.proofs.Gets.{has-at, mapped-get, position-passes}
use Rattle.flame_spec.specs.declared.outcomes.Outcome.{Outcome}
use Rattle.flame_spec.specs.declared.outcomes.Source.{Source}
use Rattle.flame_meaning.specs.Outcomes.{message_named, outcome, place_of}
use Rattle.flame_world.specs.declared.settings.Setting.{Setting}
use Rattle.flame_world.specs.InputBoards.{boards_named}
use Rattle.flame_world.specs.Meaning.{outcome_under}
use Rattle.flame_world.specs.Settings.{boards_of}
use Rattle.flame_world.proofs.NamedBoards.{named_boards_are_enough}
use Rattle.std.specs.Str.{bytes_eq}
use Rattle.std.proofs.lemmas.Slice.Eq.{bytes_eq-Decides}
use Rattle.std.proofs.lemmas.Option.{slice_get_read}
use Rattle.flame_round.proofs.StatePlaces.{from_place, to_place}
use Rattle.flame_meaning.proofs.Eachs.{each_filter, each_index}

-- ---- what fits

-- two places of one function are one
abbrev place_or : Place → Option Place → Place
place_or p None = p
place_or p (Some q) = q

pub one-place : (model : Model) (function : ℕ) (place other : Place)
    → slice_get (functions model) function ≡ Some place → slice_get (functions model) function ≡ Some other → place ≡ other
one-place model function place other at there = ap (place_or place) (sym at ∙ there)

pub has-route : (model : Model) (function : ℕ) (route : Route) (field : Field)
    → GoesBy model function route → FitsField model field → HasRoute field.pools route
has-route model function route field goes fits =
    let place = goes.place in
    let typed = place_type model function place goes.there in
    let count : length (slice_index_or field.pools place.agent []) ≡ length (states place.type.functions) =
    zip_at (λ (type : AgentType) pools. length pools ≡ length (states type.functions)) model.agents field.pools place.agent place.type []
    fits.states typed in
    let same : length (slice_index_or field.pools route.agent []) ≡ length (states place.type.functions) =
    ap (λ agent. length (slice_index_or field.pools agent [])) goes.routed.agent ∙ count in
    record {
      from = omega (arith, same, goes.routed.from, from_place model function place goes.there);
      to = omega (arith, same, goes.routed.to, to_place model function place goes.there);
    }

-- the agents that take a function are as wide as their type declares
pub takers-wide : (round : Round) (function : ℕ) (place : Place) (field : Field)
    → slice_get (functions round.source.model) function ≡ Some place
    → FitsField round.source.model field
    → Each (λ memory. length memory ≡ width place.type.memory) (taking round function place field)
takers-wide round function place field at fits =
    let model = round.source.model in
    let wide = width place.type.memory in
    each_filter (λ memory. length memory ≡ wide) _ (resting place field)
    (each_index (AreWide wide) [] (slice_index_or field.pools place.agent []) (state_place place.type place.function.current) tt
    (zip_at (λ (type : AgentType) pools. Each (AreWide (width type.memory)) pools) model.agents field.pools place.agent place.type []
    fits.pools (place_type model function place at)))

-- ---- boards that are read

-- under a setting with these boards, what is left is what the boards of all messages leave
pub left-named : (setting : Setting) (source : Source) (function : ℕ) (all : List (List (List ℤ))) (agents : List (List ℤ)) (leaving : Leaving)
    → setting.source.now ≡ source
    → boards_of setting ≡ boards_named (place_of source function) source.model all
    → AreLeft setting.iteration function (outcome_under setting function) agents leaving
    → AreLeft setting.iteration function
    (λ memory. outcome source function memory all setting.constants.now setting.iteration setting.fuel) agents leaving
left-named setting source function all agents leaving same named left =
    let there : boards_of setting ≡ boards_named (place_of setting.source.now function) setting.source.now.model all =
    named ∙ ap (λ (s : Source). boards_named (place_of s function) s.model all) (sym same) in
    let run : (memory : List ℤ) → outcome_under setting function memory
    ≡ outcome source function memory all setting.constants.now setting.iteration setting.fuel =
    λ memory. named_boards_are_enough setting function memory all there
    ∙ ap (λ (s : Source). outcome s function memory all setting.constants.now setting.iteration setting.fuel) same in
    subst (λ (g : List ℤ → Outcome). AreLeft setting.iteration function g agents leaving) (λ i memory. run memory i) left

-- ---- routes

-- the place of a state holds the state
pub state-there : (type : AgentType) (state found : List ℕ)
    → slice_get (states type.functions) (state_place type state) ≡ Some found → found ≡ state
state-there type state found at =
    (bytes_eq-Decides found state).0 (position-passes (λ other. bytes_eq other state) (states type.functions) found at)

-- for the type of a function the lists are those of its states
pub lists-of : (model : Model) (function : ℕ) (place : Place) (leaving : List (List (List ℕ))) (agent : ℕ) (lists : List (List ℕ))
    → slice_get (functions model) function ≡ Some place
    → agent ≡ place.agent
    → AreLeaving model leaving
    → agent < length leaving
    → lists ≡ get_or leaving agent lists
    → lists ≡ map (functions_out model place.agent) (states place.type.functions)
lists-of model function place leaving agent lists at same is within there =
    is.1 place.agent place.type lists (place_type model function place at)
    (ap (slice_get leaving) (sym same) ∙ (slice_get_read leaving (length leaving) agent lists refl within there))

-- the list of the state that a function leaves has the functions out of it
pub out-is : (model : Model) (function : ℕ) (place : Place) (from : ℕ) (out : List ℕ)
    → slice_get (functions model) function ≡ Some place
    → from ≡ state_place place.type place.function.current
    → out ≡ get_or (map (functions_out model place.agent) (states place.type.functions)) from out
    → out ≡ functions_out model place.agent place.function.current
out-is model function place from out at same there =
    let within = from_place model function place at in
    let found = has-at (states place.type.functions) (state_place place.type place.function.current) within in
    there
    ∙ ap (λ k. get_or (map (functions_out model place.agent) (states place.type.functions)) k out) same
    ∙ mapped-get (functions_out model place.agent) out (states place.type.functions) (state_place place.type place.function.current) found.item found.there
    ∙ ap (functions_out model place.agent) (state-there place.type place.function.current found.item found.there)

-- ---- what is read

-- the boards that were frozen are those that the inputs name
pub frozen-named : (source : Source) (function : ℕ) (place : Place) (numbers : List ℕ) (boards read : List (List (List ℤ)))
    → slice_get (functions source.model) function ≡ Some place
    → map (λ (input : Input). option_map (λ (found : ℕ × MessageType). found.0) (message_named source.model.messages input.message)) place.function.inputs ≡ map Some numbers
    → read ≡ map (λ message. slice_index_or boards message []) numbers
    → read ≡ boards_named (place_of source function) source.model boards
frozen-named source function place numbers boards read at inputs is =
    is
    ∙ named-numbers source.model boards place.function.inputs numbers inputs
    ∙ ap (λ (o : Option Place). boards_named o source.model boards) (sym at)

-- and as wide as the inputs' messages declare
pub frozen-wide : (model : Model) (place : Place) (numbers : List ℕ) (boards read : List (List (List ℤ)))
    → FitMessages model boards
    → map (λ (input : Input). option_map (λ (found : ℕ × MessageType). found.0) (message_named model.messages input.message)) place.function.inputs ≡ map Some numbers
    → read ≡ map (λ message. slice_index_or boards message []) numbers
    → AreBoardsFor model place.function.inputs read
frozen-wide model place numbers boards read fits inputs is =
    subst (λ (lists : List (List (List ℤ))). AreBoardsFor model place.function.inputs lists)
    (sym (is ∙ named-numbers model boards place.function.inputs numbers inputs))
    (named-wide model boards (input_width model) place.function.inputs numbers fits inputs
    (λ input found named. ap width (variables-found 0 model.messages input.message found named)))
