-- The names that later members may not have.
use Rattle.std.proofs.Common.{◌≡◌, ℕ, List, [], ◌∷◌, ◌++◌, Bor, Option, Some, None, codes, refl, ap, sym, ◌∙◌}
use Rattle.std.specs.Prelude.{is_some, if◌then◌else◌, option_and_then}
use Rattle.std.specs.List.{cons_option}
use Rattle.std.specs.Option.{option_map_or}
use Rattle.std.proofs.lemmas.List.Elements.{filter_map-append}
use Rattle.serde_json.specs.Data.{Data}
use Rattle.flame_popfile.specs.declared.formats.Format.{Format}
use Rattle.flame_popfile.specs.declared.formats.Format.TheVariants.{One, Two}
use Rattle.flame_spec.specs.KnownNames.{is_among}
use Rattle.flame_spec.specs.Paths.{at_key}
use Rattle.flame_spec.specs.declared.models.AgentType.{AgentType}
use Rattle.flame_popfile.specs.declared.faults.PopFault.{PopFault}
use Rattle.flame_popfile.specs.declared.faults.PopKind.TheVariants.{Shape, UnknownAgent, Duplicate}
use Rattle.flame_xmml.specs.declared.place.Place.{Place}
use Rattle.flame_xmml.specs.declared.place.Place.TheVariants.{Key}
use Rattle.flame_popfile.specs.PopulationParts.{name_in, refused}
use Rattle.flame_popfile.specs.PopulationFaults.{taken_names, type_named, type_in, name_faults, member_name_faults}
use Rattle.flame_xmml.specs.ValuePlaces.{path_of}
use Rattle.flame_popfile.specs.DealtAgents.{names_taken}
use Rattle.flame_xmml.proofs.Paths.{path_of-Key}

-- before any member no name is taken
pub taken_none : (format : Format) → taken_names format [] ≡ []
taken_none One = refl
taken_none Two = refl

-- one member more
pub taken_more :
    (format : Format) (values : List Data) (value : Data)
    → taken_names format (values ++ value ∷ []) ≡ taken_names format values ++ taken_names format (value ∷ [])
taken_more One values value = refl
taken_more Two values value = filter_map-append name_in values (value ∷ [])

-- ---- the name of a member

-- where the name is a text
pub name_known :
    (types : List AgentType) (earlier : List (List ℕ)) (parent : Bor Place) (key : Bor (List ℕ)) (value : Data)
    (name : List ℕ)
    → key.now ≡ codes "name"
    → Some name ≡ name_in value
    → member_name_faults types earlier (path_of parent.now) value
    ≡ name_faults types earlier (path_of (Key parent key)) name
name_known types earlier parent key value name is_key is =
    let path = at_key (path_of parent.now) (codes "name") in
    ap (λ o. option_map_or (name_faults types earlier path) o (refused Shape path)) (sym is)
    ∙ ap (λ path. name_faults types earlier path name)
    (ap (at_key (path_of parent.now)) (sym is_key) ∙ sym (path_of-Key parent key))

-- where it is none
pub name_missing :
    (types : List AgentType) (earlier : List (List ℕ)) (parent : Bor Place) (key : Bor (List ℕ)) (value : Data)
    → key.now ≡ codes "name"
    → None ≡ name_in value
    → member_name_faults types earlier (path_of parent.now) value ≡ refused Shape (path_of (Key parent key))
name_missing types earlier parent key value is_key is =
    let path = at_key (path_of parent.now) (codes "name") in
    ap (λ o. option_map_or (name_faults types earlier path) o (refused Shape path)) (sym is)
    ∙ ap (refused Shape) (ap (at_key (path_of parent.now)) (sym is_key) ∙ sym (path_of-Key parent key))

-- the type of a name that is a text
pub type_known :
    (types : List AgentType) (value : Data) (name : List ℕ)
    → Some name ≡ name_in value → type_in types value ≡ type_named types name
type_known types value name is = ap (option_and_then (type_named types)) (sym is)

-- the name that it takes
pub taken_known :
    (format : Format) (value : Data) (name : List ℕ)
    → Some name ≡ name_in value → names_taken format name ≡ taken_names format (value ∷ [])
taken_known One value name is = refl
taken_known Two value name is = ap (λ o. cons_option o []) is

-- a name of a type
pub name_of_type :
    (types : List AgentType) (earlier : List (List ℕ)) (path name : List ℕ) (found : ℕ × AgentType)
    → type_named types name ≡ Some found
    → name_faults types earlier path name ≡ (if is_among name earlier then refused Duplicate path else [])
name_of_type types earlier path name found is =
    ap
    (λ (o : Option (ℕ × AgentType)). if is_some o then (if is_among name earlier then refused Duplicate path else [])
    else refused UnknownAgent path)
    is

-- a name of none
pub name_of_none :
    (types : List AgentType) (earlier : List (List ℕ)) (path name : List ℕ)
    → type_named types name ≡ None
    → name_faults types earlier path name ≡ refused UnknownAgent path
name_of_none types earlier path name is =
    ap
    (λ (o : Option (ℕ × AgentType)). if is_some o then (if is_among name earlier then refused Duplicate path else [])
    else refused UnknownAgent path)
    is
