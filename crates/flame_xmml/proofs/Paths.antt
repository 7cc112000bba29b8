-- Paths of places within a place.
use Rattle.std.proofs.Common.{◌≡◌, ℕ, List, codes, Bool, true, Bor, refl, sym, ap, ◌∙◌}
use Rattle.serde_json.specs.Data.{Data}
use Rattle.flame_spec.specs.Paths.{root, at_key}
use Rattle.flame_xmml.specs.declared.faults.Shape.{Shape}
use Rattle.flame_xmml.specs.declared.place.Place.{Place}
use Rattle.flame_xmml.specs.declared.place.Place.TheVariants.{Root, Key, rolls-Root, rolls-Key}
use Rattle.flame_xmml.specs.declared.place.Place.TheOpen.{Place-F}
use Rattle.flame_xmml.specs.declared.place.Place.TheFolds.{fold-roll-Place}
use Rattle.flame_xmml.specs.ValueParts.{part, has, is_object, required, optional}
use Rattle.flame_xmml.specs.ConditionShapes.{condition_faults}
use Rattle.flame_xmml.specs.ShapeFaults.{Form, xmodel_faults, form_faults}
use Rattle.flame_xmml.specs.ValuePlaces.{path_of, path_step}

pub path_of-Key : (parent : Bor Place) (key : Bor (List ℕ)) → path_of (Key parent key) ≡ at_key (path_of parent.now) key.now
path_of-Key parent key =
    ap path_of (sym (rolls-Key parent key)) ∙ fold-roll-Place (List ℕ) path_step (Place-F.Key parent key)

-- the faults of the condition at a key are those at the place of the key
pub inside :
    (in_filter : Bool) (parent : Bor Place) (key : Bor (List ℕ)) (inner value : Data)
    → inner ≡ part key.now value
    → condition_faults in_filter (path_of (Key parent key)) inner
    ≡ required (condition_faults in_filter) key.now (path_of parent.now) value
inside in_filter parent key inner value there = rw (path_of-Key parent key, there) refl

-- the faults of what stands at a key are those at the place of the key
pub optional-inside :
    (faults : List ℕ → Data → List Shape) (parent : Bor Place) (key : Bor (List ℕ)) (inner value : Data)
    → inner ≡ part key.now value
    → true ≡ has key.now value
    → optional faults key.now (path_of parent.now) value ≡ faults (path_of (Key parent key)) inner
optional-inside faults parent key inner value there is_there =
    rw (path_of-Key parent key, there, ← is_there) refl

pub path_of-Root : path_of Root ≡ root
path_of-Root = ap path_of (sym rolls-Root) ∙ fold-roll-Place (List ℕ) path_step Place-F.Root

-- the faults of the whole value are those at the place of `xmodel`
pub whole :
    (form : Form) (top : Bor Place) (key : Bor (List ℕ)) (inner value : Data)
    → top.now ≡ Root
    → key.now ≡ codes "xmodel"
    → is_object value ≡ true
    → inner ≡ part (codes "xmodel") value
    → form_faults form value ≡ xmodel_faults form (path_of (Key top key)) inner
whole form top key inner value at_root is_key object there =
    let path : path_of (Key top key) ≡ at_key root (codes "xmodel") =
    path_of-Key top key ∙ ap (λ place. at_key (path_of place) key.now) at_root
    ∙ ap (λ path. at_key path key.now) path_of-Root ∙ ap (at_key root) is_key in
    let opened : form_faults form value ≡ xmodel_faults form (at_key root (codes "xmodel")) (part (codes "xmodel") value) =
    rw object refl in
    opened ∙ ap (λ path. xmodel_faults form path (part (codes "xmodel") value)) (sym path)
    ∙ ap (λ value. xmodel_faults form (path_of (Key top key)) value) (sym there)
