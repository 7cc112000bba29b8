-- Parts of lines: functions and types by name, lists with a mark between, and the numbers of a memory.
use Rattle.std.specs.Prelude.{ℕ, ℤ, List, [], ◌∷◌, ◌++◌, take, drop, slice_get, codes, Option, Some, None}
use Rattle.std.specs.Fmt.{signed_decimal}
use Rattle.std.specs.List.{flat_map}
use Rattle.std.specs.Option.{option_map_or}
use Rattle.flame_spec.specs.declared.models.Model.{Model}
use Rattle.flame_spec.specs.declared.models.Variable.{Variable}
use Rattle.flame_spec.specs.Columns.{width_of}
use Rattle.flame_spec.specs.Functions.{Place, functions}

-- ---- names

-- a function with its type: `Type.function` [own]
abbrev pub place_name : Place → List ℕ
place_name place = place.type.name ++ codes "." ++ place.function.name

-- among these functions the one of this number, with its type; nothing where there is none [own]
abbrev pub name_among : List Place → ℕ → List ℕ
name_among places function = option_map_or place_name (slice_get places function) []

-- the function of the model of this number, in document order, with its type [own]
abbrev pub function_name : Model → ℕ → List ℕ
function_name model function = name_among (functions model) function

-- the agent type of this number; nothing where the model has none [own]
abbrev pub type_name : Model → ℕ → List ℕ
type_name model agent = option_map_or (λ type. type.name) (slice_get model.agents agent) []

-- the function file of this number; nothing where the model has none [own]
abbrev pub function_file : Model → ℕ → List ℕ
function_file model file = option_map_or (λ name. name) (slice_get model.files file) []

-- ---- lists

-- the texts of these, with a mark between each two [own]
abbrev pub with_between : {X : Type 0} → List ℕ → (X → List ℕ) → List X → List ℕ
with_between mark text [] = []
with_between mark text (x ∷ xs) = text x ++ flat_map (λ more. mark ++ text more) xs

-- ---- memories

-- among these functions, the variables of the memory on which the one of this number runs; none where there is none [own]
abbrev pub memory_among : List Place → ℕ → List Variable
memory_among places function = option_map_or (λ place. place.type.memory) (slice_get places function) []

-- the variables of the memory on which the function of the model of this number runs [own]
abbrev pub memory_of : Model → ℕ → List Variable
memory_of model function = memory_among (functions model) function

-- numbers, with commas between them [own]
abbrev pub numbers_text : List ℤ → List ℕ
numbers_text numbers = with_between (codes ",") signed_decimal numbers

-- the numbers of a variable: an array's stand in brackets [own]
abbrev pub value_text : Option ℕ → List ℤ → List ℕ
value_text None numbers = numbers_text numbers
value_text (Some length) numbers = codes "[" ++ numbers_text numbers ++ codes "]"

-- a variable with its numbers: ` x=1` or ` x=[1,2]` [own]
abbrev pub variable_text : Variable → List ℤ → List ℕ
variable_text variable numbers = codes " " ++ variable.name ++ codes "=" ++ value_text variable.length numbers

-- the variables, each with its numbers of the row [own]
abbrev pub memory_text : List Variable → List ℤ → List ℕ
memory_text [] row = []
memory_text (variable ∷ variables) row =
    variable_text variable (take (width_of variable) row)
    ++ memory_text variables (drop (width_of variable) row)
