-- Paths of places within a place.
use Rattle.std.proofs.Common.{◌≡◌, ℕ, List, [], Bor, Bool, true, false, codes, sym, ap, ◌∙◌}
use Rattle.std.specs.Prelude.{if◌then◌else◌}
use Rattle.serde_json.specs.Data.{Data, null}
use Rattle.flame_spec.specs.Paths.{root, at_key, at_number}
use Rattle.flame_popfile.specs.declared.faults.PopKind.{PopKind}
use Rattle.flame_xmml.specs.declared.place.Place.{Place}
use Rattle.flame_xmml.specs.declared.place.Place.TheVariants.{Root, Key, Member, rolls-Member}
use Rattle.flame_xmml.specs.declared.place.Place.TheOpen.{Place-F}
use Rattle.flame_xmml.specs.declared.place.Place.TheFolds.{fold-roll-Place}
use Rattle.flame_xmml.specs.ValueParts.{part, has, is_object}
use Rattle.flame_popfile.specs.declared.faults.PopFault.{PopFault}
use Rattle.flame_popfile.specs.declared.faults.PopKind.TheVariants.{Shape}
use Rattle.flame_popfile.specs.PopulationParts.{Faults, optional, unless_missing, object_faults, refused}
use Rattle.flame_xmml.specs.ValuePlaces.{path_of, path_step}
use Rattle.flame_xmml.proofs.Paths.{path_of-Root, path_of-Key}
use Rattle.flame_popfile.specs.PopulationTables.{LengthTable, asked_by}

pub path_of-Member :
    (parent : Bor Place) (number : ℕ) → path_of (Member parent number) ≡ at_number (path_of parent.now) number
path_of-Member parent number =
    ap path_of (sym (rolls-Member parent number)) ∙ fold-roll-Place (List ℕ) path_step (Place-F.Member parent number)

-- what a name asks for at its key
pub asked_at :
    (unknown : PopKind) (lengths : LengthTable) (parent : Bor Place) (key : Bor (List ℕ)) (name : List ℕ) (value : Data)
    → key.now ≡ name
    → asked_by unknown lengths name (at_key (path_of parent.now) name) value
    ≡ asked_by unknown lengths key.now (path_of (Key parent key)) value
asked_at unknown lengths parent key name value is =
    ap (λ name. asked_by unknown lengths name (at_key (path_of parent.now) name) value) (sym is)
    ∙ ap (λ path. asked_by unknown lengths key.now path value) (sym (path_of-Key parent key))

-- the faults of what stands at a key are those at the place of the key
pub optional_inside :
    (faults : Faults) (parent : Bor Place) (key : Bor (List ℕ)) (inner value : Data)
    → inner ≡ part key.now value
    → true ≡ has key.now value
    → optional faults key.now (path_of parent.now) value ≡ faults (path_of (Key parent key)) inner
optional_inside faults parent key inner value there is_there =
    ap
    (λ missing. if missing then faults (at_key (path_of parent.now) key.now) (part key.now value) else [])
    (sym is_there)
    ∙ ap (λ path. faults path (part key.now value)) (sym (path_of-Key parent key))
    ∙ ap (faults (path_of (Key parent key))) (sym there)

-- what is missing has no faults
pub optional_missing :
    (faults : Faults) (key path : List ℕ) (value : Data)
    → null ≡ part key value → optional faults key path value ≡ []
optional_missing faults key path value there = ap (unless_missing faults (at_key path key)) (sym there)

-- the faults of an object are those of its parts
pub object_is :
    (parts : Faults) (path : List ℕ) (value : Data)
    → is_object value ≡ true → object_faults parts path value ≡ parts path value
object_is parts path value object = ap (λ b. if b then parts path value else refused Shape path) object

-- what is no object is refused
pub object_not :
    (parts : Faults) (path : List ℕ) (value : Data)
    → is_object value ≡ false → object_faults parts path value ≡ refused Shape path
object_not parts path value object = ap (λ b. if b then parts path value else refused Shape path) object

-- the place of the states
pub states_path :
    (top : Bor Place) (key : Bor (List ℕ))
    → top.now ≡ Root → key.now ≡ codes "states" → path_of (Key top key) ≡ at_key root (codes "states")
states_path top key at_root is_key =
    path_of-Key top key
    ∙ ap (λ place. at_key (path_of place) key.now) at_root
    ∙ ap (λ path. at_key path key.now) path_of-Root
    ∙ ap (at_key root) is_key

-- the faults of the whole value are those at the place of the states
pub whole :
    (faults : Faults) (top : Bor Place) (key : Bor (List ℕ)) (inner value : Data)
    → top.now ≡ Root
    → key.now ≡ codes "states"
    → is_object value ≡ true
    → inner ≡ part (codes "states") value
    → object_faults
    (λ path value. object_faults faults (at_key path (codes "states")) (part (codes "states") value))
    root value
    ≡ object_faults faults (path_of (Key top key)) inner
whole faults top key inner value at_root is_key object there =
    object_is (λ path value. object_faults faults (at_key path (codes "states")) (part (codes "states") value)) root value object
    ∙ ap (λ path. object_faults faults path (part (codes "states") value)) (sym (states_path top key at_root is_key))
    ∙ ap (object_faults faults (path_of (Key top key))) (sym there)
