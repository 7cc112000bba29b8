-- How deep calls of helpers go. [own]
use Rattle.std.specs.Prelude.{◌≡◌, ℕ, ◌<◌, ◌≤◌, ℤ, List, length, true, Some, slice_get}
use Rattle.flame_spec.specs.declared.models.Model.{Model}
use Rattle.flame_spec.specs.declared.outcomes.Source.{Source}
use Rattle.flame_spec.specs.Definitions.{Definition, helpers}
use Rattle.flame_spec.specs.Functions.{Place}
use Rattle.flame_spec.specs.HelperFaults.{is_called_by, call_height, deepest_calls}
use Rattle.flame_spec.specs.Trees.{Statements}
use Rattle.flame_meaning.specs.Scenes.{Progress}
use Rattle.flame_meaning.specs.Statements.{meanings}
use Rattle.flame_meaning.specs.HelperCalls.{calls_within, helper_calls}
use Rattle.flame_meaning.specs.Outcomes.{scene_of}

-- no helper is higher than 64, and each is higher than those that it calls
abbrev pub HaveHeights : Model → List Definition → Type 0
HaveHeights model hs =
    (g : ℕ)
    → g < length hs
    → (call_height model hs g ≤ deepest_calls)
    × ((h : ℕ) → h < length hs → is_called_by model hs h g ≡ true → call_height model hs h < call_height model hs g)

-- where helpers have heights, a call of a helper ends in the same way however many more may be open inside one another
abbrev pub DeeperCallsEndAlike : Type 0
DeeperCallsEndAlike =
    (model : Model) (hs : List Definition) (constants : List ℤ) (iteration : ℤ) (levels line number : ℕ)
    (helper : Definition) (values : List ℤ) (fuel : ℕ)
    → HaveHeights model hs
    → slice_get hs number ≡ Some helper
    → deepest_calls ≤ levels
    → calls_within levels model hs constants iteration line helper values fuel
    ≡ helper_calls model hs constants iteration line helper values fuel

-- and a body of a function means the same
abbrev pub DeeperCallsMeanAlike : Type 0
DeeperCallsMeanAlike =
    (source : Source) (place : Place) (readings : List (List (List ℤ))) (constants : List ℤ) (iteration : ℤ)
    (levels : ℕ) (body : Statements) (s : Progress)
    → HaveHeights source.model (helpers source.model source.units)
    → deepest_calls ≤ levels
    → meanings body (record (scene_of source place readings constants iteration) {
      answers = calls_within levels source.model (helpers source.model source.units) constants iteration;
    }) s
    ≡ meanings body (scene_of source place readings constants iteration) s
