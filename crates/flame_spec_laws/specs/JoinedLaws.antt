-- What checks of sources give to the outcomes of their functions. [own]
use Rattle.std.specs.Prelude.{◌≡◌, ℕ, ◌≤◌, ℤ, List, [], Some, slice_get}
use Rattle.flame_spec.specs.declared.outcomes.Source.{Source}
use Rattle.flame_spec.specs.CheckFaults.{check_faults}
use Rattle.flame_spec.specs.Definitions.{Definition, definitions, helpers}
use Rattle.flame_spec.specs.Functions.{Place}
use Rattle.flame_spec.specs.HelperFaults.{deepest_calls}
use Rattle.flame_spec.specs.Trees.{Statements}
use Rattle.flame_meaning.specs.Scenes.{Progress}
use Rattle.flame_meaning.specs.Statements.{meanings}
use Rattle.flame_meaning.specs.HelperCalls.{calls_within, helper_calls}
use Rattle.flame_meaning.specs.Outcomes.{scene_of, outcome}
use Rattle.flame_meaning.specs.RangeLaws.{IsInt, AreInts, Each, AllWriteInts, OutcomeIsInts}

-- ---- the bound of 64 levels

-- without check faults the bound is never felt: a call of a helper ends in the same way however many more may be open
-- inside one another
abbrev pub CallsEndWithinTheBound : Type 0
CallsEndWithinTheBound =
    (source : Source) (constants : List ℤ) (iteration : ℤ) (levels line number : ℕ) (helper : Definition)
    (values : List ℤ) (fuel : ℕ)
    → check_faults source.model source.units ≡ []
    → slice_get (helpers source.model source.units) number ≡ Some helper
    → deepest_calls ≤ levels
    → calls_within levels source.model (helpers source.model source.units) constants iteration line helper values fuel
    ≡ helper_calls source.model (helpers source.model source.units) constants iteration line helper values fuel

-- and a body means the same, in the place of any function
abbrev pub BodiesMeanWithinTheBound : Type 0
BodiesMeanWithinTheBound =
    (source : Source) (place : Place) (readings : List (List (List ℤ))) (constants : List ℤ) (iteration : ℤ)
    (levels : ℕ) (body : Statements) (s : Progress)
    → check_faults source.model source.units ≡ []
    → deepest_calls ≤ levels
    → meanings body (record (scene_of source place readings constants iteration) {
      answers = calls_within levels source.model (helpers source.model source.units) constants iteration;
    }) s
    ≡ meanings body (scene_of source place readings constants iteration) s

-- ---- within int

-- where the numbers that files write, the memory, the rows of the boards, the constants and the iteration are within
-- int, so are the memory, the messages and the births that a function leaves
abbrev pub OutcomesOverBoardsAreInts : Type 0
OutcomesOverBoardsAreInts =
    (source : Source) (function : ℕ) (memory : List ℤ) (boards : List (List (List ℤ))) (constants : List ℤ)
    (iteration : ℤ) (fuel : ℕ)
    → AllWriteInts (definitions source.units)
    → AreInts memory
    → Each (λ board. Each AreInts board) boards
    → AreInts constants
    → IsInt iteration
    → OutcomeIsInts (outcome source function memory boards constants iteration fuel)
