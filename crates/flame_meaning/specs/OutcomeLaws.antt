-- What holds of every function's run, whatever its source, memory, readings, constants, iteration and fuel.
use Rattle.std.specs.Prelude.{◌≡◌, ◌≢◌, ℕ, suc, ◌+◌, ◌≤◌, ◌⊎◌, ℤ, pos, List, [], Option, Some, Ok, All, length, slice_get}
use Rattle.std.specs.Prelude.{slice_index_or, IsSomeAnd, if◌then◌else◌}
use Rattle.flame_ops.specs.declared.integers.Cause.TheVariants.{Fuel}
use Rattle.flame_spec.specs.declared.faults.Fault.{Fault}
use Rattle.flame_spec.specs.declared.models.Input.{Input}
use Rattle.flame_spec.specs.declared.models.MessageType.{MessageType}
use Rattle.flame_spec.specs.declared.models.Model.{Model}
use Rattle.flame_spec.specs.declared.outcomes.Source.{Source}
use Rattle.flame_spec.specs.declared.outcomes.Effect.{Effect}
use Rattle.flame_spec.specs.declared.outcomes.Sent.{Sent}
use Rattle.flame_spec.specs.declared.outcomes.Born.{Born}
use Rattle.flame_spec.specs.declared.outcomes.Outcome.TheVariants.{Ended, Faulted}
use Rattle.flame_spec.specs.Columns.{width}
use Rattle.flame_spec.specs.Definitions.{Definition}
use Rattle.flame_spec.specs.Functions.{Place}
use Rattle.flame_spec.specs.Trees.{Expression, Expressions, all_of, any_of, Statements, Assigned}
use Rattle.flame_meaning.specs.Scenes.{Scene, Progress}
use Rattle.flame_meaning.specs.Expressions.{value_of, holds}
use Rattle.flame_meaning.specs.Ends.{End, went_on, with_value, on_to, as_scope}
use Rattle.flame_meaning.specs.Loops.{turn, loop, after_turn}
use Rattle.flame_meaning.specs.Statements.{test_value, step_of, meanings}
use Rattle.flame_meaning.specs.HelperCalls.{gives, entered, helper_scene, calls_within}
use Rattle.flame_meaning.specs.Outcomes.{scene_of, place_of, outcome_over, message_named, outcome}

-- ---- rows

-- a message of the model, with a row as wide as its variables [own]
abbrev pub IsMessage : Model → Sent → Type 0
IsMessage model sent =
    IsSomeAnd (slice_get model.messages sent.message) (λ message. length sent.row ≡ width message.variables)

-- an agent of a type of the model, with a memory as wide as its variables [own]
abbrev pub IsAgent : Model → Born → Type 0
IsAgent model born = IsSomeAnd (slice_get model.agents born.agent) (λ agent. length born.row ≡ width agent.memory)

-- the memory that is kept is as wide as it was; messages and births are of types of the model, and as wide as they
-- declare [own]
pub record HasWidths (model : Model) (memory : List ℤ) (effect : Effect) : Type 0 where
  pub kept : (row : List ℤ) → effect.memory ≡ Some row → length row ≡ length memory
  pub sent : All (IsMessage model) effect.sent
  pub born : All (IsAgent model) effect.born

-- each function leaves rows of these widths [own]
abbrev pub RowsHaveWidths : Type 0
RowsHaveWidths =
    (source : Source) (function : ℕ) (memory : List ℤ) (readings : List (List (List ℤ))) (constants : List ℤ)
    (iteration : ℤ) (fuel : ℕ) (effect : Effect)
    → outcome_over source function memory readings constants iteration fuel ≡ Ended effect
    → HasWidths source.model memory effect

-- ---- fuel

-- what is left is at most what there was [own]
abbrev pub FuelNeverRises : Type 0
FuelNeverRises =
    (source : Source) (function : ℕ) (memory : List ℤ) (readings : List (List (List ℤ))) (constants : List ℤ)
    (iteration : ℤ) (fuel : ℕ) (effect : Effect)
    → outcome_over source function memory readings constants iteration fuel ≡ Ended effect
    → effect.fuel ≤ fuel

-- a turn takes one unit, and then the body runs with the others [own]
abbrev pub TurnTakesOne : Type 0
TurnTakesOne =
    (line fuel : ℕ) (body next : Progress → End) (s : Progress)
    → s.fuel ≡ suc fuel
    → turn line body next s ≡ after_turn (body (record s { fuel = fuel })) next

-- a call takes one unit, and then the helper's body runs with the others, where a further call may be opened [own]
abbrev pub CallTakesOne : Type 0
CallTakesOne =
    (levels : ℕ) (model : Model) (helpers : List Definition) (constants : List ℤ) (iteration : ℤ)
    (line : ℕ) (helper : Definition) (values : List ℤ) (fuel : ℕ)
    → calls_within (suc levels) model helpers constants iteration line helper values (suc fuel)
    ≡ gives (meanings helper.body
    (helper_scene model helpers constants iteration (calls_within levels model helpers constants iteration))
    (entered helper.parameters values fuel))

-- a `while` or a `for` is its test, and where that holds a turn, the step and the same loop again, where calls are
-- those of a source [C, 6.8.5]
abbrev pub LoopGoesOn : Type 0
LoopGoesOn =
    (line : ℕ) (test : Option Expression) (body : Statements) (step : Option Assigned) (source : Source) (place : Place)
    (readings : List (List (List ℤ))) (constants : List ℤ) (iteration : ℤ) (s : Progress)
    → let scene : Scene = scene_of source place readings constants iteration in
    loop line (test_value test scene) (as_scope (meanings body scene)) (step_of step scene) s
    ≡ with_value (test_value test scene s) (λ v.
    if holds v
    then turn line (as_scope (meanings body scene))
    (λ t. on_to (step_of step scene t)
    (loop line (test_value test scene) (as_scope (meanings body scene)) (step_of step scene))) s
    else went_on s)

-- more fuel leaves more fuel, and changes nothing else [own]
abbrev pub MoreFuelLeavesMore : Type 0
MoreFuelLeavesMore =
    (source : Source) (function : ℕ) (memory : List ℤ) (readings : List (List (List ℤ))) (constants : List ℤ)
    (iteration : ℤ) (fuel more : ℕ) (effect : Effect)
    → outcome_over source function memory readings constants iteration fuel ≡ Ended effect
    → outcome_over source function memory readings constants iteration (fuel + more)
    ≡ Ended (record effect { fuel = effect.fuel + more })

-- a fault for another cause than fuel comes with more fuel too [own]
abbrev pub MoreFuelFaultsAlike : Type 0
MoreFuelFaultsAlike =
    (source : Source) (function : ℕ) (memory : List ℤ) (readings : List (List (List ℤ))) (constants : List ℤ)
    (iteration : ℤ) (fuel more : ℕ) (fault : Fault)
    → outcome_over source function memory readings constants iteration fuel ≡ Faulted fault
    → fault.cause ≢ Fuel
    → outcome_over source function memory readings constants iteration (fuel + more) ≡ Faulted fault

-- ---- truth

-- `&&` and `||` give 0 or 1 [C, 6.5.13, 6.5.14]
abbrev pub TruthIsZeroOrOne : Type 0
TruthIsZeroOrOne =
    (parts : Expressions) (scene : Scene) (s : Progress) (v : ℤ)
    → (value_of (all_of parts) scene s ≡ Ok v) ⊎ (value_of (any_of parts) scene s ≡ Ok v)
    → (v ≡ pos 0) ⊎ (v ≡ pos 1)

-- ---- what is seen

-- what a call of a helper comes to is the same whoever calls it: it depends on the source, the constants and the
-- iteration, on the arguments and on the fuel [own]
abbrev pub HelpersSeeNoCaller : Type 0
HelpersSeeNoCaller =
    (source : Source) (place other : Place) (readings others : List (List (List ℤ))) (constants : List ℤ) (iteration : ℤ)
    → (scene_of source place readings constants iteration).answers
    ≡ (scene_of source other others constants iteration).answers

-- the board that the input reads is the same in both [own]
abbrev pub HasSameBoard : Model → List (List (List ℤ)) → List (List (List ℤ)) → Input → Type 0
HasSameBoard model boards others input =
    (found : ℕ × MessageType)
    → message_named model.messages input.message ≡ Some found
    → slice_index_or boards found.0 [] ≡ slice_index_or others found.0 []

-- the boards of a function's inputs alone count [XMML]
abbrev pub InputBoardsCount : Type 0
InputBoardsCount =
    (source : Source) (function : ℕ) (memory : List ℤ) (boards others : List (List (List ℤ))) (constants : List ℤ)
    (iteration : ℤ) (fuel : ℕ)
    → ((place : Place)
    → place_of source function ≡ Some place
    → All (HasSameBoard source.model boards others) place.function.inputs)
    → outcome source function memory boards constants iteration fuel
    ≡ outcome source function memory others constants iteration fuel
