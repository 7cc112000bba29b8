-- What stands in an object or a list, and the faults of what stands there.
use Rattle.std.specs.Prelude.{ℕ, List, [], ◌∷◌, Bool, is_some, is_none, if◌then◌else◌, Option, Some, None, option_map}
use Rattle.std.specs.Prelude.{unwrap_or}
use Rattle.std.specs.Option.{option_map_or}
use Rattle.serde_json.specs.Data.{Data, null}
use Rattle.serde_json.specs.Find.{get, as_null, as_object, as_array}
use Rattle.flame_spec.specs.Lists.{each}
use Rattle.flame_spec.specs.Json.{items_list}
use Rattle.flame_spec.specs.Paths.{at_key, at_number}
use Rattle.flame_xmml.specs.declared.faults.Shape.{Shape}
use Rattle.flame_xmml.specs.declared.faults.Want.{Want}
use Rattle.flame_xmml.specs.declared.faults.Want.TheVariants.{Object, List as ListWant}

-- ---- what stands there

-- what stands at a key of an object; null where nothing does, since null counts as missing [own]
abbrev pub part : List ℕ → Data → Data
part key value = unwrap_or (get key value) null

-- something other than null stands at a key [own]
abbrev pub has : List ℕ → Data → Bool
has key value = is_none (as_null (part key value))

-- the value is an object [own]
abbrev pub is_object : Data → Bool
is_object value = is_some (as_object value)

-- the value, where it is an object [own]
abbrev pub object_of : Data → Option Data
object_of value = if is_object value then Some value else None

-- the members of a list [own]
abbrev pub members : Data → Option (List Data)
members value = option_map items_list (as_array value)

-- ---- faults: each list has the faults of a value that stands at a path, in walking order

-- the one fault of a place where something else is wanted [own]
abbrev pub wanted : Want → List ℕ → List Shape
wanted want path = record { path = path; want = want } ∷ []

-- the faults of a value that is to be read [own]
abbrev pub leaf : {X : Type 0} → Want → (Data → Option X) → List ℕ → Data → List Shape
leaf want read path value = if is_some (read value) then [] else wanted want path

-- the faults of what stands at a key that is required [own]
abbrev pub required : (List ℕ → Data → List Shape) → List ℕ → List ℕ → Data → List Shape
required faults key path value = faults (at_key path key) (part key value)

-- the faults of what stands at a key that may be missing [own]
abbrev pub optional : (List ℕ → Data → List Shape) → List ℕ → List ℕ → Data → List Shape
optional faults key path value =
    if has key value then faults (at_key path key) (part key value) else []

-- the faults of an object, from those at its keys [own]
abbrev pub object_faults : (List ℕ → Data → List Shape) → List ℕ → Data → List Shape
object_faults keys path value = if is_object value then keys path value else wanted Object path

-- the faults of the members of a list, from those of each [own]
abbrev pub each_member : (List ℕ → Data → List Shape) → List ℕ → List Data → List Shape
each_member member path values = each (λ number value. member (at_number path number) value) values

-- the faults of a list, from those of its members [own]
abbrev pub list_faults : (List ℕ → Data → List Shape) → List ℕ → Data → List Shape
list_faults member path value =
    option_map_or (each_member member path) (members value) (wanted ListWant path)
