-- What stands in the value of a population, and the faults of what stands there.
use Rattle.std.specs.Prelude.{ℕ, ◌==◌, ◌&&◌, ℤ, pos, int_le, List, [], ◌∷◌, map, length, replicate, codes}
use Rattle.std.specs.Prelude.{Bool, if◌then◌else◌, Option, Some, None, unwrap_or, is_none}
use Rattle.std.specs.List.{flat_map, find}
use Rattle.std.specs.Option.{option_map_or}
use Rattle.std.specs.Str.{bytes_eq}
use Rattle.serde_json.specs.Data.{Data, Members, no_members, member}
use Rattle.serde_json.specs.Find.{as_null, as_object, as_str}
use Rattle.flame_ops.specs.Integers.{is_int}
use Rattle.flame_spec.specs.Lists.{each}
use Rattle.flame_spec.specs.Paths.{at_key, at_number}
use Rattle.flame_xmml.specs.ValueParts.{part, is_object, members}
use Rattle.flame_xmml.specs.Wants.{whole_of, int_of}
use Rattle.flame_popfile.specs.declared.faults.PopFault.{PopFault}
use Rattle.flame_popfile.specs.declared.faults.PopKind.{PopKind}
use Rattle.flame_popfile.specs.declared.faults.PopKind.TheVariants.{Shape, OutOfInt}

-- ---- what stands there

-- the keys of an object with what stands at each, as serde_json holds them: ascending by bytes, each key once [own]
abbrev pub entries : Members → List (List ℕ × Data)
entries no_members = []
entries (member key value others) = (key, value) ∷ entries others

-- the keys of a value with what stands at each; none where it is no object [own]
abbrev pub entries_of : Data → List (List ℕ × Data)
entries_of value = option_map_or entries (as_object value) []

-- the members of a list; none where the value is no list [own]
abbrev pub members_of : Data → List Data
members_of value = unwrap_or (members value) []

-- the name of a member of the agents, where it is a text [own]
abbrev pub name_in : Data → Option (List ℕ)
name_in value = as_str (part (codes "name") value)

-- the whole number of int that the value is; 0 where it is none, as where nothing stands [own]
abbrev pub number_of : Data → ℤ
number_of value = unwrap_or (int_of value) (pos 0)

-- so many zeros [own]
abbrev pub zeros : ℕ → List ℤ
zeros count = replicate count (pos 0)

-- the numbers in a list; so many zeros where there is no list, as where nothing stands [own]
abbrev pub numbers_of : ℕ → Data → List ℤ
numbers_of count value = option_map_or (map number_of) (members value) (zeros count)

-- the first of these that has the name [own]
abbrev pub called : {X : Type 0} → (X → List ℕ) → List X → List ℕ → Option X
called name_of xs name = find (λ x. bytes_eq (name_of x) name) xs

-- ---- faults: each list has the faults of a value that stands at a path, in walking order

-- the faults of a value, by its path [own]
abbrev pub Faults : Type 0
Faults = List ℕ → Data → List PopFault

-- the one fault of a place [own]
abbrev pub refused : PopKind → List ℕ → List PopFault
refused kind path = record { kind = kind; path = path } ∷ []

-- the faults of what may be missing; null counts as missing, and what is missing has none [own]
abbrev pub unless_missing : Faults → List ℕ → Data → List PopFault
unless_missing faults path value = if is_none (as_null value) then faults path value else []

-- the faults of what stands at a key, if something does [own]
abbrev pub optional : Faults → List ℕ → List ℕ → Data → List PopFault
optional faults key path value = unless_missing faults (at_key path key) (part key value)

-- an object, with the faults of its parts [own]
abbrev pub object_faults : Faults → List ℕ → Data → List PopFault
object_faults parts path value = if is_object value then parts path value else refused Shape path

-- the faults of members, each by itself [own]
abbrev pub each_member : Faults → List ℕ → List Data → List PopFault
each_member faults path values = each (λ number value. faults (at_number path number) value) values

-- a list, with the faults of its members together [own]
abbrev pub list_faults : (List ℕ → List Data → List PopFault) → List ℕ → Data → List PopFault
list_faults faults path value = option_map_or (faults path) (members value) (refused Shape path)

-- exactly so many members, each with its faults [own]
abbrev pub counted_faults : ℕ → Faults → List ℕ → List Data → List PopFault
counted_faults count faults path values =
    if length values == count then each_member faults path values else refused Shape path

-- a list of exactly so many members, each with its faults [own]
abbrev pub sized_faults : ℕ → Faults → List ℕ → Data → List PopFault
sized_faults count faults = list_faults (counted_faults count faults)

-- the faults at the keys of an object, from what each key asks for [own]
abbrev pub entries_faults : (List ℕ → Faults) → List ℕ → Data → List PopFault
entries_faults asked path value = flat_map (λ (key, inside). asked key (at_key path key) inside) (entries_of value)

-- what stands at a name: a fault where the name is unknown, and else those that the name asks for [own]
abbrev pub known_faults : PopKind → Option Faults → List ℕ → Data → List PopFault
known_faults unknown None path value = refused unknown path
known_faults unknown (Some faults) path value = unless_missing faults path value

-- ---- faults of numbers

-- a whole number that passes this test [own]
abbrev pub number_faults : (ℤ → Bool) → List ℕ → Data → List PopFault
number_faults passes path value =
    option_map_or (λ number. if passes number then [] else refused OutOfInt path) (whole_of value) (refused Shape path)

-- a whole number of int [C, 6.2.5]
abbrev pub int_faults : List ℕ → Data → List PopFault
int_faults = number_faults is_int

-- the number may be that of an iteration: 0 to 2147483647 [own]
abbrev pub is_itno : ℤ → Bool
is_itno number = int_le (pos 0) number && is_int number

-- a list of exactly so many whole numbers of int [own]
abbrev pub ints_faults : ℕ → List ℕ → Data → List PopFault
ints_faults count = sized_faults count int_faults

-- ---- variables: a number, or for an array a list of exactly its length

-- the faults of a variable without a length, or of this length [own]
abbrev pub variable_faults : Option ℕ → List ℕ → Data → List PopFault
variable_faults None = int_faults
variable_faults (Some length) = ints_faults length

-- the numbers of a variable without a length, or of this length [own]
abbrev pub variable_numbers : Option ℕ → Data → List ℤ
variable_numbers None value = number_of value ∷ []
variable_numbers (Some length) value = numbers_of length value
