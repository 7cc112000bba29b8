-- Tables of data types: each name with its flat fields.
use Rattle.std.specs.Prelude.{◌≡◌, ℕ, ◌+◌, max, length, List, [], ◌∷◌, ◌++◌, map, codes, Bool, true, not, ◌&&◌, Option, Some, None, if◌then◌else◌}
use Rattle.std.specs.List.{flat_map, fold, list_all}
use Rattle.std.specs.Str.{bytes_eq}
use Rattle.flame_spec.specs.declared.models.Variable.{Variable}
use Rattle.flame_spec.specs.declared.wide.WideVariable.{WideVariable}
use Rattle.flame_spec.specs.declared.wide.DataType.{DataType}
use Rattle.flame_spec.specs.KnownNames.{is_among}
use Rattle.flame_name_sets.specs.NameTables.{look}
use Rattle.flame_nest.specs.FlatModels.{single}
use Rattle.flame_nest.specs.NestFaults.{is_wide}

-- names with flat fields [own]
abbrev pub FieldTable : Type 0
FieldTable = List (List ℕ × List Variable)

-- the flat field inside a variable of this name [own]
abbrev pub flat_inside : List ℕ → Variable → Variable
flat_inside name field = record { name = name ++ (codes "_" ++ field.name); length = field.length }

-- the flat form of a variable whose kind has these fields, or is none of a data type [own]
abbrev pub unfolded : Option (List Variable) → WideVariable → List Variable
unfolded None variable = single variable ∷ []
unfolded (Some fields) variable = map (flat_inside variable.name) fields

-- the flat form of variables by a table [own]
abbrev pub expanded : FieldTable → List WideVariable → List Variable
expanded table variables = flat_map (λ variable. unfolded (look variable.kind table) variable) variables

-- the table with one data type more [own]
abbrev pub with_type : FieldTable → DataType → FieldTable
with_type table type = table ++ (type.name, expanded table type.variables) ∷ []

-- the table of data types [own]
abbrev pub table_of : List DataType → FieldTable
table_of types = fold with_type [] types

-- each has a name that none before it has, nor any of these [own]
abbrev pub are_new : List (List ℕ) → List DataType → Bool
are_new names [] = true
are_new names (type ∷ types) = not (is_among type.name names) && are_new (names ++ type.name ∷ []) types

-- one more than the longest name has bytes; 0 where there is none [own]
abbrev pub reach : List Variable → ℕ
reach variables = fold (λ most variable. max most (length variable.name + 1)) 0 variables

-- the table is that of these data types, whose names are new, and no fields are too wide [own]
pub record IsKinds (types : List DataType) (table : FieldTable) : Type 0 where
  pub same : table ≡ table_of types
  pub once : are_new [] types ≡ true
  pub narrow : list_all (λ entry. not (is_wide entry.1)) table ≡ true

-- the names with one more, where it is new [own]
abbrev pub with_name : List (List ℕ) → List ℕ → List (List ℕ)
with_name names name = if is_among name names then names else names ++ name ∷ []
