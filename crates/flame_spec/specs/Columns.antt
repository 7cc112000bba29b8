-- Widths of rows, and the columns of their variables.
use Rattle.std.specs.Prelude.{ℕ, ◌+◌, List, [], ◌∷◌, Bool, Option, Some, None, is_some, if◌then◌else◌}
use Rattle.std.specs.Str.{bytes_eq}
use Rattle.flame_spec.specs.declared.models.Variable.{Variable}

-- 1, or the length of an array [XMML]
abbrev pub width_by : Option ℕ → ℕ
width_by None = 1
width_by (Some length) = length

-- how many elements there are: as many as the array is long, and none where it is no array [C, 6.7.6.2; no array: own]
abbrev pub elements : Option ℕ → ℕ
elements None = 0
elements (Some length) = length

-- how many numbers of a row the variable takes [XMML]
abbrev pub width_of : Variable → ℕ
width_of variable = width_by variable.length

-- the width of a row of these variables: the sum of all their widths [own]
abbrev pub width : List Variable → ℕ
width [] = 0
width (variable ∷ variables) = width_of variable + width variables

-- the column of the variable of this name: the widths before it together [own]
abbrev pub column : List ℕ → List Variable → ℕ
column name [] = 0
column name (variable ∷ variables) =
    if bytes_eq variable.name name then 0 else width_of variable + column name variables

-- the first of these variables that passes, with its column, where the columns begin with `from` [own]
abbrev pub columned_from : (Variable → Bool) → ℕ → List Variable → Option (ℕ × Variable)
columned_from passes from [] = None
columned_from passes from (variable ∷ variables) =
    if passes variable then Some (from, variable) else columned_from passes (from + width_of variable) variables

-- the first of these variables that passes, with its column [own]
abbrev pub columned_where : (Variable → Bool) → List Variable → Option (ℕ × Variable)
columned_where passes variables = columned_from passes 0 variables

-- the variable of this name, with its column [own]
abbrev pub variable_named : List Variable → List ℕ → Option (ℕ × Variable)
variable_named variables name = columned_where (λ variable. bytes_eq variable.name name) variables

-- the variable is an array [own]
abbrev pub is_array : Variable → Bool
is_array variable = is_some variable.length
