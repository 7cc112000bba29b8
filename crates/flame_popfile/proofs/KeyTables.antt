-- What keys ask for by tables.
use Rattle.std.proofs.Common.{◌≡◌, ℕ, List, [], ◌∷◌, ◌++◌, Option, Some, None, option_map, refl, ap, ap₂, sym, ◌∙◌}
use Rattle.std.specs.Borrow.{Bor}
use Rattle.std.specs.Option.{option_copied}
use Rattle.std.specs.Prelude.{if◌then◌else◌}
use Rattle.std.specs.HashMap.{get_by_text}
use Rattle.std.specs.List.{flat_map}
use Rattle.serde_json.specs.Data.{Data}
use Rattle.flame_spec.specs.declared.models.Variable.{Variable}
use Rattle.flame_spec.specs.Paths.{at_key}
use Rattle.flame_xmml.specs.ValueParts.{is_object}
use Rattle.flame_popfile.specs.declared.faults.PopKind.{PopKind}
use Rattle.flame_popfile.specs.declared.faults.PopKind.TheVariants.{Shape, UnknownConstant, UnknownVariable}
use Rattle.flame_popfile.specs.declared.faults.PopFault.{PopFault}
use Rattle.flame_popfile.specs.PopulationParts.{Faults, called, known_faults, entries_faults, entries_of, int_faults}
use Rattle.flame_popfile.specs.PopulationParts.{variable_faults, object_faults, refused}
use Rattle.flame_popfile.specs.PopulationFaults.{constant_asked, variable_asked, environment_faults, memory_faults}
use Rattle.flame_popfile.specs.declared.formats.Format.TheVariants.{One}
use Rattle.flame_popfile.specs.PopulationTables.{LengthTable, asked_by}

-- equal element by element
flat_map_same :
    {X A : Type 0} (f g : X → List A) → ((x : X) → f x ≡ g x) → (xs : List X) → flat_map f xs ≡ flat_map g xs
flat_map_same f g same [] = refl
flat_map_same f g same (x ∷ xs) = ap₂ (λ l m. l ++ m) (same x) (flat_map_same f g same xs)

-- what asks for the same at each key has the same faults
asked_same :
    (asked other : List ℕ → Faults) → ((key : List ℕ) → asked key ≡ other key)
    → (path : List ℕ) (value : Data) → entries_faults asked path value ≡ entries_faults other path value
asked_same asked other same path value =
    flat_map_same
    (λ (key, inside). asked key (at_key path key) inside)
    (λ (key, inside). other key (at_key path key) inside)
    (λ entry. ap (λ (faults : Faults). faults (at_key path entry.0) entry.1) (same entry.0))
    (entries_of value)

-- what was found for a name
pub found_lengths :
    (found : Option (Bor (Option ℕ))) (length : Option (Option ℕ))
    → option_copied found ≡ length
    → option_map (λ length. variable_faults length.now) found ≡ option_map variable_faults length
found_lengths None length is = ap (option_map variable_faults) is
found_lengths (Some found) length is = ap (option_map variable_faults) is

-- a constant is a single number
single : (o : Option (List ℕ)) → option_map variable_faults (option_map (λ constant. None) o) ≡ option_map (λ constant. int_faults) o
single None = refl
single (Some constant) = refl

-- a variable is of its length
sized :
    (o : Option Variable)
    → option_map variable_faults (option_map (λ (variable : Variable). variable.length) o)
    ≡ option_map (λ (variable : Variable). variable_faults variable.length) o
sized None = refl
sized (Some variable) = refl

-- the same in an object
in_object :
    (keys other : Faults) (path : List ℕ) (value : Data)
    → keys path value ≡ other path value → object_faults keys path value ≡ object_faults other path value
in_object keys other path value same = ap (λ faults. if is_object value then faults else refused Shape path) same

-- by a table of the constants
pub environment_asked :
    (table : LengthTable) (constants : List (List ℕ))
    → ((name : List ℕ) → get_by_text table name ≡ option_map (λ constant. None) (called (λ constant. constant) constants name))
    → (path : List ℕ) (value : Data)
    → object_faults (entries_faults (asked_by UnknownConstant table)) path value ≡ environment_faults One constants path value
environment_asked table constants is path value =
    in_object (entries_faults (asked_by UnknownConstant table)) (entries_faults (constant_asked constants)) path value
    (asked_same (asked_by UnknownConstant table) (constant_asked constants)
    (λ name.
    ap (λ o. known_faults UnknownConstant (option_map variable_faults o)) (is name)
    ∙ ap (known_faults UnknownConstant) (single (called (λ constant. constant) constants name)))
    path value)

-- by a table of the variables
pub memory_asked :
    (table : LengthTable) (variables : List Variable)
    → ((name : List ℕ)
    → get_by_text table name
    ≡ option_map (λ (variable : Variable). variable.length)
    (called (λ (variable : Variable). variable.name) variables name))
    → (path : List ℕ) (value : Data)
    → object_faults (entries_faults (asked_by UnknownVariable table)) path value ≡ memory_faults variables path value
memory_asked table variables is path value =
    in_object (entries_faults (asked_by UnknownVariable table)) (entries_faults (variable_asked variables)) path value
    (asked_same (asked_by UnknownVariable table) (variable_asked variables)
    (λ name.
    ap (λ o. known_faults UnknownVariable (option_map variable_faults o)) (is name)
    ∙ ap (known_faults UnknownVariable) (sized (called (λ (variable : Variable). variable.name) variables name)))
    path value)
