-- The C functions of function files, and which of them are helpers.
use Rattle.std.specs.Prelude.{ℕ, ◌==◌, List, [], ◌∷◌, map, slice_get, codes, Bool, true, false, not, ◌&&◌, Option}
use Rattle.std.specs.Prelude.{Some, None, if◌then◌else◌}
use Rattle.std.specs.List.{list_any, filter, find}
use Rattle.std.specs.Option.{option_map_or}
use Rattle.std.specs.Str.{bytes_eq}
use Rattle.flame_spec.specs.declared.models.Model.{Model}
use Rattle.flame_spec.specs.declared.models.Function.{Function}
use Rattle.flame_spec.specs.declared.trees.Unit as file
use Rattle.flame_spec.specs.declared.trees.Def.{Def}
use Rattle.flame_spec.specs.declared.trees.Parameter.{Parameter}
use Rattle.flame_spec.specs.Functions.{Place, functions}
use Rattle.flame_spec.specs.Lists.{each, numbered_where}
use Rattle.flame_spec.specs.Seen.{statements}
use Rattle.flame_spec.specs.Trees.{Statements, no_more}

-- a C function: the number of its file among the model's files, its line, its name, its parameters and its body [own]
pub record Definition : Type 0 where
  pub file : ℕ
  pub line : ℕ
  pub name : List ℕ
  pub parameters : List Parameter
  pub body : Statements

-- a C function of the file of this number [own]
abbrev pub definition : ℕ → Def → Definition
definition file def = record {
  file = file;
  line = def.line;
  name = def.name;
  parameters = def.parameters;
  body = statements def.body;
}

-- the C functions of the file of this number [own]
abbrev pub definitions_of : ℕ → file.Unit → List Definition
definitions_of file unit = map (definition file) unit.functions

-- all C functions in source order: file by file, from the top [own]
abbrev pub definitions : List file.Unit → List Definition
definitions units = each definitions_of units

-- ---- functions of the model

-- a function of the model that needs no C function [own]
abbrev pub is_idle : Function → Bool
is_idle function = bytes_eq function.name (codes "idle")

-- the C function has the name of the function of the model [own]
abbrev pub is_for : Function → Definition → Bool
is_for function d = bytes_eq d.name function.name

-- the C function has the name of a function of the model [own]
abbrev pub is_transition : Model → Definition → Bool
is_transition model d = list_any (λ place. is_for place.function d) (functions model)

-- the body of a C function, where there is one [FLAME User Manual]
abbrev pub body_in : Option Definition → Statements
body_in None = no_more
body_in (Some d) = d.body

-- the body of a function: that of the first C function of its name; `idle` has an empty one [FLAME User Manual]
abbrev pub body_among : List Definition → Function → Statements
body_among ds function = if is_idle function then no_more else body_in (find (is_for function) ds)

-- the body of a function of the model, in these files [FLAME User Manual]
abbrev pub body_of : List file.Unit → Function → Statements
body_of units function = body_among (definitions units) function

-- ---- helpers

-- the list is empty [own]
abbrev pub has_none : {X : Type 0} → List X → Bool
has_none [] = true
has_none (x ∷ xs) = false

-- a helper is a C function with parameters that has no name of a function of the model [own]
abbrev pub is_helper : Model → Definition → Bool
is_helper model d = not (has_none d.parameters) && not (is_transition model d)

-- the helpers in source order, by which they are numbered [own]
abbrev pub helpers_among : Model → List Definition → List Definition
helpers_among model ds = filter (is_helper model) ds

-- the helpers of these files [own]
abbrev pub helpers : Model → List file.Unit → List Definition
helpers model units = helpers_among model (definitions units)

-- there is a helper of this number and it takes so many arguments, where the helpers take these numbers of them, in
-- order [C, 6.5.2.2]
abbrev pub takes : List ℕ → ℕ → ℕ → Bool
takes counts helper given = option_map_or (λ count. count == given) (slice_get counts helper) false

-- the helper of this name, with its number [own]
abbrev pub helper_named : List Definition → List ℕ → Option (ℕ × Definition)
helper_named hs word = numbered_where (λ d. bytes_eq d.name word) hs
