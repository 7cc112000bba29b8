-- The rows of members without faults are as wide as their type, and their numbers are within int.
use Rattle.std.proofs.Common.{◌≡◌, ℕ, suc, ◌+◌, List, [], ◌∷◌, length, map, Option, Some, None, refl, sym, ap, ap₂, ◌∙◌, codes, length-append, Ordering, Less, Equal, Greater, is_eq}
use Rattle.std.specs.Prelude.{slice_get, unwrap_or, option_map}
use Rattle.std.specs.Cmp.Lexicographic.{slice_cmp}
use Rattle.std.specs.List.{flat_map}
use Rattle.std.specs.Option.{option_map_or}
use Rattle.std.specs.Ordering.{nat_cmp, match_ordering}
use Rattle.std.proofs.lemmas.Map.Text.{is_eq-slice_cmp}
use Rattle.std.proofs.lemmas.Slice.Eq.{bytes_eq-Decides}
use Rattle.flame_rows.proofs.Lists.{append-is_nil_left, append-is_nil_right}
use Rattle.serde_json.specs.Data.{Data, null, boolean, number, string, array, object, Members, no_members, member}
use Rattle.serde_json.specs.Find.{get_member}
use Rattle.flame_spec.specs.declared.models.AgentType.{AgentType}
use Rattle.flame_spec.specs.declared.models.Variable.{Variable}
use Rattle.flame_spec.specs.Columns.{width_by, width_of, width}
use Rattle.flame_spec.specs.Paths.{at_key, at_number}
use Rattle.flame_meaning.specs.RangeLaws.{IsInt, AreInts, Each}
use Rattle.flame_world.specs.WorldLaws.{IsRowOf}
use Rattle.flame_world.proofs.Eachs.{each_append, each_map}
use Rattle.flame_xmml.specs.ValueParts.{part, members}
use Rattle.flame_popfile.specs.declared.faults.PopFault.{PopFault}
use Rattle.flame_popfile.specs.declared.faults.PopKind.TheVariants.{Shape, UnknownVariable}
use Rattle.flame_popfile.specs.declared.formats.Format.{Format}
use Rattle.flame_popfile.specs.declared.formats.Format.TheVariants.{One, Two}
use Rattle.flame_popfile.specs.PopulationParts.{entries, refused, known_faults, ints_faults, each_member, variable_faults, variable_numbers}
use Rattle.flame_popfile.specs.PopulationParts.{numbers_of, members_of, called}
use Rattle.flame_popfile.specs.PopulationFaults.{variable_asked, memory_faults, rows_faults, content_faults}
use Rattle.flame_popfile.specs.PopulationAgents.{memory_of, agents_in}
use Rattle.flame_popfile.proofs.FaultlessParts.{each_none, where_missing, number_int, numbers_ints, numbers_counted, zeros_counted, row_is}
use Rattle.flame_popfile.proofs.FirstVariables.{AreFirst}

-- ---- what stands at a key

-- it has no fault where no entry has one
entry_none :
    (asked : List ℕ → Data → List PopFault) (key : List ℕ) (entered : Members) (inside : Data)
    → flat_map (λ (name, value). asked name value) (entries entered) ≡ []
    → get_member key entered ≡ Some inside
    → asked key inside ≡ []
entry_none asked key no_members inside none at = cc
entry_none asked key (member name value others) inside none at =
    by_order (slice_cmp nat_cmp key name) refl
    (entry_none asked key others inside (append-is_nil_right (asked name value) _ none))
    at
  where
    by_order :
        (order : Ordering)
        → slice_cmp nat_cmp key name ≡ order
        → (get_member key others ≡ Some inside → asked key inside ≡ [])
        → match_ordering order (get_member key others) (Some value) (get_member key others) ≡ Some inside
        → asked key inside ≡ []
    by_order Less is later at = later at
    by_order Equal is later at =
        let found : value ≡ inside = cc in
        let same : key ≡ name = (bytes_eq-Decides key name).0 (sym (is_eq-slice_cmp key name) ∙ ap is_eq is) in
        ap₂ asked same (sym found) ∙ append-is_nil_left (asked name value) _ none
    by_order Greater is later at = later at

-- ---- variables

variable_ints : (length : Option ℕ) (value : Data) → AreInts (variable_numbers length value)
variable_ints None value = (number_int value, tt)
variable_ints (Some length) value = numbers_ints length value

variable_wide :
    (wide : Option ℕ) (path : List ℕ) (value : Data)
    → variable_faults wide path value ≡ [] → length (variable_numbers wide value) ≡ width_by wide
variable_wide None path value none = refl
variable_wide (Some count) path value none = numbers_counted count path value none

variable_missing : (wide : Option ℕ) → length (variable_numbers wide null) ≡ width_by wide
variable_missing None = refl
variable_missing (Some count) = zeros_counted count

-- a variable in an object
entered_wide :
    (variables : List Variable) (variable : Variable) (path : List ℕ) (entered : Members)
    → called (λ (one : Variable). one.name) variables variable.name ≡ Some variable
    → memory_faults variables path (object entered) ≡ []
    → length (variable_numbers variable.length (part variable.name (object entered))) ≡ width_of variable
entered_wide variables variable path entered first none = of (get_member variable.name entered) refl
  where
    of :
        (found : Option Data)
        → get_member variable.name entered ≡ found
        → length (variable_numbers variable.length (unwrap_or found null)) ≡ width_of variable
    of None is = variable_missing variable.length
    of (Some inside) is =
        let asked =
        entry_none (λ name value. variable_asked variables name (at_key path name) value) variable.name entered inside none is in
        let known =
        ap
        (λ (o : Option Variable). known_faults UnknownVariable (option_map (λ (one : Variable). variable_faults one.length) o)
        (at_key path variable.name) inside)
        (sym first)
        ∙ asked in
        where_missing (λ value. length (variable_numbers variable.length value) ≡ width_of variable)
        (variable_faults variable.length) (at_key path variable.name) inside
        (variable_missing variable.length)
        (variable_wide variable.length (at_key path variable.name) inside)
        known

memory_value_wide :
    (variables : List Variable) (variable : Variable) (path : List ℕ) (memory : Data)
    → called (λ (one : Variable). one.name) variables variable.name ≡ Some variable
    → memory_faults variables path memory ≡ []
    → length (variable_numbers variable.length (part variable.name memory)) ≡ width_of variable
memory_value_wide variables variable path null first none = cc
memory_value_wide variables variable path (boolean b) first none = cc
memory_value_wide variables variable path (number n) first none = cc
memory_value_wide variables variable path (string s) first none = cc
memory_value_wide variables variable path (array ds) first none = cc
memory_value_wide variables variable path (object entered) first none = entered_wide variables variable path entered first none

-- ---- memories

memory_ints : (variables : List Variable) (memory : Data) → AreInts (memory_of variables memory)
memory_ints [] memory = tt
memory_ints (variable ∷ variables) memory =
    each_append IsInt (variable_numbers variable.length (part variable.name memory)) (memory_of variables memory)
    (variable_ints variable.length (part variable.name memory)) (memory_ints variables memory)

memory_wide :
    (variables : List Variable) (memory : Data)
    → ((i : ℕ) (variable : Variable)
    → slice_get variables i ≡ Some variable
    → length (variable_numbers variable.length (part variable.name memory)) ≡ width_of variable)
    → length (memory_of variables memory) ≡ width variables
memory_wide [] memory wide = refl
memory_wide (variable ∷ variables) memory wide =
    length-append (variable_numbers variable.length (part variable.name memory)) (memory_of variables memory)
    ∙ ap₂ (λ a b. a + b) (wide 0 variable refl) (memory_wide variables memory (λ i one at. wide (suc i) one at))

-- ---- members

-- a memory of version 1
memory_is :
    (variables : List Variable) (path : List ℕ) (memory : Data)
    → AreFirst variables
    → memory_faults variables path memory ≡ []
    → IsRowOf (width variables) (memory_of variables memory)
memory_is variables path memory are none = (
  memory_wide variables memory
      (λ i variable at. memory_value_wide variables variable path memory (are.first i variable at) none),
  memory_ints variables memory,
)

memory_missing : (variables : List Variable) → IsRowOf (width variables) (memory_of variables null)
memory_missing variables =
    (memory_wide variables null (λ i variable at. variable_missing variable.length), memory_ints variables null)

-- the rows of version 2
rows_are :
    (wide : ℕ) (path : List ℕ) (value : Data)
    → rows_faults wide path value ≡ [] → Each (IsRowOf wide) (map (numbers_of wide) (members_of value))
rows_are wide path value none = of (members value) none
  where
    of :
        (o : Option (List Data))
        → option_map_or (each_member (ints_faults wide) path) o (refused Shape path) ≡ []
        → Each (IsRowOf wide) (map (numbers_of wide) (unwrap_or o []))
    of None none = tt
    of (Some values) none =
        each_map (λ value. IsRowOf wide (numbers_of wide value)) (IsRowOf wide) (numbers_of wide) (λ value is. is) values
        (each_none (λ value. IsRowOf wide (numbers_of wide value)) (λ number value. ints_faults wide (at_number path number) value)
        (λ number value one. row_is wide (at_number path number) value one) 0 values none)

-- the agents that a member holds
pub content_rows :
    (format : Format) (type : AgentType) (path : List ℕ) (value : Data)
    → AreFirst type.memory
    → content_faults format type path value ≡ []
    → Each (IsRowOf (width type.memory)) (agents_in format type.memory value)
content_rows One type path value are none = (
  where_missing (λ memory. IsRowOf (width type.memory) (memory_of type.memory memory)) (memory_faults type.memory)
      (at_key path (codes "memory")) (part (codes "memory") value) (memory_missing type.memory)
      (memory_is type.memory (at_key path (codes "memory")) (part (codes "memory") value) are) none,
  tt,
)
content_rows Two type path value are none =
    where_missing (λ rows. Each (IsRowOf (width type.memory)) (map (numbers_of (width type.memory)) (members_of rows)))
    (rows_faults (width type.memory)) (at_key path (codes "rows")) (part (codes "rows") value) tt
    (rows_are (width type.memory) (at_key path (codes "rows")) (part (codes "rows") value)) none
