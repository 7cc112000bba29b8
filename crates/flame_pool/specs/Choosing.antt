-- What each agent of a pool takes, where conditions are numbered and functions are named by the numbers of theirs.
use Rattle.std.specs.Prelude.{ℕ, ℤ, List, Bool, true, Option, Some, None, map, slice_index_or}
use Rattle.std.specs.List.{position_or_len}
use Rattle.flame_cond.specs.declared.forms.Test.{Test}
use Rattle.flame_cond.specs.Said.{holds}

-- whether a condition that was read lets an agent with this memory through; a missing one does [FLAME User Manual]
abbrev pub lets_through : Option Test → List ℤ → ℤ → Bool
lets_through None memory iteration = true
lets_through (Some test) memory iteration = holds test memory iteration

-- whether the function of this number lets the agent through [FLAME User Manual]
abbrev pub admits : List (Option Test) → ℤ → List ℤ → ℕ → Bool
admits conditions iteration memory function = lets_through (slice_index_or conditions function None) memory iteration

-- the place, among these functions, of the first that lets the agent through; their number where none does
-- [FLAME User Manual; the first: own]
abbrev pub first_place : List (Option Test) → List ℕ → ℤ → List ℤ → ℕ
first_place conditions functions iteration memory = position_or_len (admits conditions iteration memory) functions

-- that place for each agent of a pool [own]
abbrev pub choices_of : List (Option Test) → List ℕ → ℤ → List (List ℤ) → List ℕ
choices_of conditions functions iteration pool = map (first_place conditions functions iteration) pool
