-- Columns lie within rows, and memories keep their lengths. [own]
use Rattle.std.specs.Prelude.{◌≡◌, ℕ, ◌+◌, ◌<◌, ◌≤◌, ℤ, List, length, Bool, Some}
use Rattle.flame_spec.specs.declared.models.Variable.{Variable}
use Rattle.flame_spec.specs.Columns.{width_of, width, columned_where}
use Rattle.flame_spec.specs.Trees.{Statements}
use Rattle.flame_meaning.specs.Scenes.{Scene, Progress, element_column}
use Rattle.flame_meaning.specs.Statements.{meanings}
use Rattle.flame_meaning.specs.Kept.{Leaves}

-- a variable that is found stands within the row, whichever way it is looked for
abbrev pub VariablesStandWithinRows : Type 0
VariablesStandWithinRows =
    (passes : Variable → Bool) (variables : List Variable) (found : ℕ × Variable)
    → columned_where passes variables ≡ Some found
    → found.0 + width_of found.1 ≤ width variables

-- an element of a variable stands within the variable
abbrev pub ElementsStandWithinVariables : Type 0
ElementsStandWithinVariables =
    (found : ℕ × Variable) (index : ℤ) (column : ℕ)
    → element_column (Some found) index ≡ Some column
    → column < found.0 + width_of found.1

-- the memory is as long as before
pub record KeepsLength (s t : Progress) : Type 0 where
  pub same : length t.memory ≡ length s.memory

-- statements keep the length of the memory
abbrev pub MemoriesKeepTheirLengths : Type 0
MemoriesKeepTheirLengths =
    (statements : Statements) (scene : Scene) (s : Progress) → Leaves KeepsLength s (meanings statements scene s)
