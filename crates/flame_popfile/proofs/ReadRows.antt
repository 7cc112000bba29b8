-- Numbers, rows and memories are read from their values, and have no fault.
use Rattle.std.proofs.Common.{◌≡◌, ℕ, ◌+◌, ◌≤◌, List, [], ◌∷◌, ◌++◌, map, take, drop, length, Bool, true, Option, Some, None, refl, sym, ap, ap₂, subst, ◌∙◌, arith, length-drop, map-id, length-take-le, take-append-drop}
use Rattle.std.specs.Prelude.{ℤ, pos, negsuc, unwrap_or, option_map, if◌then◌else◌}
use Rattle.std.specs.List.{flat_map}
use Rattle.std.specs.Option.{option_map_or}
use Rattle.std.proofs.lemmas.Bool.{eq-eqb}
use Rattle.std.proofs.lemmas.List.{length-map, nil_from_length}
use Rattle.serde_json.specs.Data.{Data, null, object, Members, no_members}
use Rattle.serde_json.specs.View.{items_of}
use Rattle.flame_ops.specs.Integers.{is_int}
use Rattle.flame_spec.specs.declared.models.Variable.{Variable}
use Rattle.flame_spec.specs.Columns.{width, width_by, width_of}
use Rattle.flame_spec.specs.Json.{items_list}
use Rattle.flame_spec.specs.Lists.{each_from}
use Rattle.flame_spec.specs.Paths.{at_key, at_number}
use Rattle.flame_spec.specs.Steps.{◌>>=◌}
use Rattle.flame_xmml.specs.ValueParts.{part}
use Rattle.flame_xmml.specs.Wants.{whole_of, held}
use Rattle.flame_meaning.specs.RangeLaws.{IsInt, AreInts, Each}
use Rattle.flame_popfile.specs.declared.faults.PopKind.TheVariants.{Shape, OutOfInt, UnknownVariable, UnknownConstant}
use Rattle.flame_popfile.specs.PopulationParts.{Faults, number_of, numbers_of, variable_numbers, called, refused, each_member, counted_faults, entries_faults, known_faults, number_faults, int_faults, ints_faults, variable_faults}
use Rattle.flame_popfile.specs.PopulationFaults.{constant_asked, variable_asked, memory_faults}
use Rattle.flame_popfile.specs.PopulationAgents.{memory_of}
use Rattle.flame_world.proofs.Eachs.{each_map}
use Rattle.flame_popfile.proofs.PutMembers.{StandsIn, names_of, AllDiffer, each_stands, entries_put_all}
use Rattle.flame_popfile.proofs.NameSearches.{each_called}
use Rattle.flame_popfile.proofs.PopulationValues.{object_of, int_value, row_value, variable_value, variable_pairs, memory_value, constant_pairs}
use Rattle.flame_popfile.proofs.WrittenRows.{each_take}
use Rattle.flame_meaning.proofs.Eachs.{each_drop}

-- ---- numbers

whole_back : (z : ℤ) → whole_of (int_value z) ≡ Some z
whole_back (pos n) = refl
whole_back (negsuc n) = refl

-- a number of int is read as itself
pub number_back : (z : ℤ) → IsInt z → number_of (int_value z) ≡ z
number_back z h =
    ap (λ o. unwrap_or (o >>= held) (pos 0)) (whole_back z) ∙ ap (λ b. unwrap_or (if b then Some z else None) (pos 0)) h

-- and has no fault, where it passes
pub number_clear :
    (passes : ℤ → Bool) (path : List ℕ) (z : ℤ) → passes z ≡ true → number_faults passes path (int_value z) ≡ []
number_clear passes path z h =
    ap (λ o. option_map_or (λ number. if passes number then [] else refused OutOfInt path) o (refused Shape path))
    (whole_back z)
    ∙ ap (λ b. if b then [] else refused OutOfInt path) h

-- ---- lists

-- the members of a list are those that it is made of
pub items_back : (values : List Data) → items_list (items_of values) ≡ values
items_back [] = refl
items_back (value ∷ values) = ap (λ l. value ∷ l) (items_back values)

-- where each element gives nothing, all do
pub each_clear :
    {X Y : Type 0} (P : X → Type 0) (f : ℕ → X → List Y) (i : ℕ) (xs : List X)
    → ((n : ℕ) (x : X) → P x → f n x ≡ [])
    → Each P xs
    → each_from f i xs ≡ []
each_clear P f i [] clear all = refl
each_clear P f i (x ∷ xs) clear all =
    ap₂ (λ a b. a ++ b) (clear i x all.0) (each_clear P f (i + 1) xs clear all.1)

numbers_back : (row : List ℤ) → AreInts row → map number_of (map int_value row) ≡ row
numbers_back [] ints = refl
numbers_back (z ∷ row) ints = ap₂ (λ a b. a ∷ b) (number_back z ints.0) (numbers_back row ints.1)

-- a row is read as itself
pub row_back : (count : ℕ) (row : List ℤ) → AreInts row → numbers_of count (row_value row) ≡ row
row_back count row ints = ap (map number_of) (items_back (map int_value row)) ∙ numbers_back row ints

-- a value without a fault at whatever path
abbrev pub IsClear : Faults → Data → Type 0
IsClear faults value = (path : List ℕ) → faults path value ≡ []

-- and has no fault
pub row_clear :
    (count : ℕ) (path : List ℕ) (row : List ℤ)
    → length row ≡ count → AreInts row → ints_faults count path (row_value row) ≡ []
row_clear count path row long ints =
    ap (counted_faults count int_faults path) (items_back (map int_value row))
    ∙ ap (λ b. if b then each_member int_faults path (map int_value row) else refused Shape path)
    (eq-eqb (length (map int_value row)) count (length-map row int_value ∙ long))
    ∙ each_clear (IsClear int_faults) (λ number value. int_faults (at_number path number) value) 0 (map int_value row)
    (λ n value clear. clear (at_number path n))
    (each_map IsInt (IsClear int_faults) int_value (λ z is path. number_clear is_int path z is) row ints)

-- ---- memories

variable_back :
    (wide : Option ℕ) (row : List ℤ)
    → width_by wide ≤ length row
    → AreInts row
    → variable_numbers wide (variable_value wide row) ≡ take (width_by wide) row
variable_back None [] enough ints = absurd (omega arith)
variable_back None (z ∷ row) enough ints = ap (λ n. n ∷ []) (number_back z ints.0)
variable_back (Some wide) row enough ints = row_back wide (take wide row) (each_take IsInt wide row ints)

-- a memory is read as its row
pub memory_back :
    (found : Members) (variables : List Variable) (row : List ℤ)
    → Each (StandsIn found) (variable_pairs variables row)
    → length row ≡ width variables
    → AreInts row
    → memory_of variables (object found) ≡ row
memory_back found [] row stands long ints = (sym (nil_from_length row long))
memory_back found (variable ∷ variables) row stands long ints =
    let wide = width_of variable in
    ap₂ (λ a b. a ++ b)
    (ap (λ o. variable_numbers variable.length (unwrap_or o null)) stands.0
    ∙ variable_back variable.length row (omega arith) ints)
    (memory_back found variables (drop wide row) stands.1 (omega (arith, length-drop wide row))
    (each_drop IsInt wide row ints))
    ∙ take-append-drop wide row

variable_clear :
    (wide : Option ℕ) (path : List ℕ) (row : List ℤ)
    → width_by wide ≤ length row
    → AreInts row
    → known_faults UnknownVariable (Some (variable_faults wide)) path (variable_value wide row) ≡ []
variable_clear None path [] enough ints = absurd (omega arith)
variable_clear None path (z ∷ row) enough ints = number_clear is_int path z ints.0
variable_clear (Some wide) path row enough ints =
    row_clear wide path (take wide row) (length-take-le wide row enough) (each_take IsInt wide row ints)

-- what a key asks for has no fault at whatever path
abbrev pub IsAsked : (List ℕ → Faults) → List ℕ × Data → Type 0
IsAsked asked pair = (path : List ℕ) → asked pair.0 path pair.1 ≡ []

variables_asked :
    (all variables : List Variable) (row : List ℤ)
    → Each (λ variable. called (λ (v : Variable). v.name) all variable.name ≡ Some variable) variables
    → width variables ≤ length row
    → AreInts row
    → Each (IsAsked (variable_asked all)) (variable_pairs variables row)
variables_asked all [] row known enough ints = tt
variables_asked all (variable ∷ variables) row known enough ints =
    let wide = width_of variable in (
      λ path.
          ap
          (λ o. known_faults UnknownVariable (option_map (λ (v : Variable). variable_faults v.length) o) path
          (variable_value variable.length row))
          known.0
          ∙ variable_clear variable.length path row (omega arith) ints,
      variables_asked all variables (drop wide row) known.1 (omega (arith, length-drop wide row))
          (each_drop IsInt wide row ints),
    )

flat_clear :
    {X Y : Type 0} (f : X → List Y) (xs : List X) → Each (λ x. f x ≡ []) xs → flat_map f xs ≡ []
flat_clear f [] all = refl
flat_clear f (x ∷ xs) all = ap₂ (λ a b. a ++ b) all.0 (flat_clear f xs all.1)

each_at :
    (asked : List ℕ → Faults) (path : List ℕ) (pairs : List (List ℕ × Data))
    → Each (IsAsked asked) pairs
    → Each (λ entry. asked entry.0 (at_key path entry.0) entry.1 ≡ []) pairs
each_at asked path [] all = tt
each_at asked path (pair ∷ pairs) all = (all.0 (at_key path pair.0), each_at asked path pairs all.1)

-- an object whose members have no fault
pub entries_clear :
    (asked : List ℕ → Faults) (path : List ℕ) (pairs : List (List ℕ × Data))
    → Each (IsAsked asked) pairs → entries_faults asked path (object_of pairs) ≡ []
entries_clear asked path pairs all =
    flat_clear (λ (entry : List ℕ × Data). asked entry.0 (at_key path entry.0) entry.1) _
    (each_at asked path _ (entries_put_all (IsAsked asked) pairs no_members all tt))

-- a memory has no fault
pub memory_clear :
    (variables : List Variable) (path : List ℕ) (row : List ℤ)
    → AllDiffer (map (λ (v : Variable). v.name) variables)
    → length row ≡ width variables
    → AreInts row
    → memory_faults variables path (memory_value variables row) ≡ []
memory_clear variables path row apart long ints =
    entries_clear (variable_asked variables) path (variable_pairs variables row)
    (variables_asked variables variables row (each_called (λ (v : Variable). v.name) variables apart)
    (omega (arith, long)) ints)

-- the names of a memory are those of its variables
pub names_of-variables :
    (variables : List Variable) (row : List ℤ)
    → names_of (variable_pairs variables row) ≡ map (λ (v : Variable). v.name) variables
names_of-variables [] row = refl
names_of-variables (variable ∷ variables) row =
    ap (λ l. variable.name ∷ l) (names_of-variables variables (drop (width_of variable) row))

-- ---- constants

constants_asked :
    (all names : List (List ℕ)) (values : List ℤ)
    → Each (λ name. called (λ constant. constant) all name ≡ Some name) names
    → AreInts values
    → Each (IsAsked (constant_asked all)) (constant_pairs names values)
constants_asked all [] values known ints = tt
constants_asked all (name ∷ names) [] known ints = tt
constants_asked all (name ∷ names) (value ∷ values) known ints = (
  λ path.
      ap
      (λ (o : Option (List ℕ)). known_faults UnknownConstant (option_map (λ constant. int_faults) o) path
      (int_value value))
      known.0
      ∙ number_clear is_int path value ints.0,
  constants_asked all names values known.1 ints.1,
)

-- the constants have no fault
pub constants_clear :
    (names : List (List ℕ)) (path : List ℕ) (values : List ℤ)
    → AllDiffer names
    → AreInts values
    → entries_faults (constant_asked names) path (object_of (constant_pairs names values)) ≡ []
constants_clear names path values apart ints =
    entries_clear (constant_asked names) path (constant_pairs names values)
    (constants_asked names names values
    (each_called (λ constant. constant) names (subst AllDiffer (sym (map-id names)) apart)) ints)

constants_of_pairs :
    (found : Members) (names : List (List ℕ)) (values : List ℤ)
    → Each (StandsIn found) (constant_pairs names values)
    → length values ≡ length names
    → AreInts values
    → map (λ name. number_of (part name (object found))) names ≡ values
constants_of_pairs found [] [] stands long ints = refl
constants_of_pairs found [] (value ∷ values) stands long ints = absurd (omega arith)
constants_of_pairs found (name ∷ names) [] stands long ints = absurd (omega arith)
constants_of_pairs found (name ∷ names) (value ∷ values) stands long ints =
    ap₂ (λ a b. a ∷ b)
    (ap (λ o. number_of (unwrap_or o null)) stands.0 ∙ number_back value ints.0)
    (constants_of_pairs found names values stands.1 (omega arith) ints.1)

names_of-constants :
    (names : List (List ℕ)) (values : List ℤ)
    → length values ≡ length names → names_of (constant_pairs names values) ≡ names
names_of-constants [] values long = refl
names_of-constants (name ∷ names) [] long = absurd (omega arith)
names_of-constants (name ∷ names) (value ∷ values) long =
    ap (λ l. name ∷ l) (names_of-constants names values (omega arith))

-- the constants are read as they are
pub constants_back :
    (names : List (List ℕ)) (values : List ℤ)
    → AllDiffer names
    → length values ≡ length names
    → AreInts values
    → map (λ name. number_of (part name (object_of (constant_pairs names values)))) names ≡ values
constants_back names values apart long ints =
    constants_of_pairs _ names values
    (each_stands (constant_pairs names values) no_members
    (subst AllDiffer (sym (names_of-constants names values long)) apart))
    long ints
