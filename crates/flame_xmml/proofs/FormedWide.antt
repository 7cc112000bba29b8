-- What a value without shape faults of the wide form stands for is well formed.
use Rattle.std.proofs.Common.{◌≡◌, ℕ, List, [], ◌∷◌, Bool, true, false, cond, refl, sym, subst, codes}
use Rattle.std.specs.List.{list_all}
use Rattle.std.proofs.lemmas.Bool.{and_parts, and_from}
use Rattle.flame_rows.proofs.Lists.{append-is_nil_left, append-is_nil_right}
use Rattle.serde_json.specs.Data.{Data}
use Rattle.flame_spec.specs.Names.{is_filled}
use Rattle.flame_spec.specs.Paths.{root, at_key}
use Rattle.flame_spec.specs.WellFormed.{is_well_formed_function}
use Rattle.flame_spec.specs.WideModels.{is_well_formed_wide_variable, is_well_formed_type, is_well_formed_wide_message}
use Rattle.flame_spec.specs.WideModels.{is_well_formed_wide_agent, is_well_formed_wide}
use Rattle.flame_xmml.specs.declared.rows.Nested.{Nested}
use Rattle.flame_xmml.specs.ValueParts.{part, has, required, optional}
use Rattle.flame_xmml.specs.LeafShapes.{name_faults}
use Rattle.flame_xmml.specs.ShapeFaults.{variable_keys, row_keys, row_faults, agent_keys, agent_faults, function_faults}
use Rattle.flame_xmml.specs.ShapeFaults.{environment_keys, environment_faults, environment_lists, nested_keys, nested_faults}
use Rattle.flame_xmml.specs.ShapeFaults.{wide_variable_faults, wide, wide_faults, xmodel_keys, xmodel_faults}
use Rattle.flame_xmml.specs.Models.{list_at, function_of}
use Rattle.flame_xmml.specs.WideValues.{wide_variable_of, type_of, wide_message_of, wide_agent_of, nested_of}
use Rattle.flame_xmml.specs.WideValues.{enabled_files, wide_of}
use Rattle.flame_xmml.proofs.Formed.{object-is, name-is, filled-is, optional-is, list_at-is}
use Rattle.flame_xmml.proofs.Formed.{is_null, length-formed, function-formed, environment_at-formed}

wide_variable-formed : (path : List ℕ) (value : Data)
    → wide_variable_faults path value ≡ [] → is_well_formed_wide_variable (wide_variable_of value) ≡ true
wide_variable-formed path value none =
    let typed = append-is_nil_left _ _ (object-is (variable_keys name_faults) path value none) in
    and_from _ _ (name-is _ _ (codes "name") value (append-is_nil_right _ _ typed))
    (and_from _ _ (name-is _ _ (codes "type") value (append-is_nil_left _ _ typed)) (length-formed value))

type-formed : (path : List ℕ) (value : Data)
    → row_faults wide_variable_faults path value ≡ [] → is_well_formed_type (type_of value) ≡ true
type-formed path value none =
    let keys = object-is (row_keys wide_variable_faults) path value none in
    and_from _ _ (name-is _ _ (codes "name") value (append-is_nil_left _ _ keys))
    (list_at-is wide_variable_faults wide_variable_of is_well_formed_wide_variable wide_variable-formed
    (codes "variables") path value (append-is_nil_right _ _ keys))

wide_message-formed : (path : List ℕ) (value : Data)
    → row_faults wide_variable_faults path value ≡ [] → is_well_formed_wide_message (wide_message_of value) ≡ true
wide_message-formed path value none =
    let keys = object-is (row_keys wide_variable_faults) path value none in
    and_from _ _ (name-is _ _ (codes "name") value (append-is_nil_left _ _ keys))
    (list_at-is wide_variable_faults wide_variable_of is_well_formed_wide_variable wide_variable-formed
    (codes "variables") path value (append-is_nil_right _ _ keys))

wide_agent-formed : (path : List ℕ) (value : Data)
    → agent_faults wide_variable_faults path value ≡ [] → is_well_formed_wide_agent (wide_agent_of value) ≡ true
wide_agent-formed path value none =
    let keys = object-is (agent_keys wide_variable_faults) path value none in
    let front = append-is_nil_left _ _ keys in
    and_from _ _ (name-is _ _ (codes "name") value (append-is_nil_left _ _ front))
    (and_from _ _
    (list_at-is wide_variable_faults wide_variable_of is_well_formed_wide_variable wide_variable-formed
    (codes "memory") path value (append-is_nil_right _ _ front))
    (list_at-is function_faults function_of is_well_formed_function function-formed
    (codes "functions") path value (append-is_nil_right _ _ keys)))

-- the file of a nested one is named
abbrev names_file : Nested → Bool
names_file nested = is_filled nested.file

nested-formed : (path : List ℕ) (value : Data) → nested_faults path value ≡ [] → names_file (nested_of value) ≡ true
nested-formed path value none =
    let keys = object-is nested_keys path value none in
    filled-is _ _ (part (codes "file") value) (append-is_nil_left _ _ keys)

enabled-step : (enabled : Bool) (file : List ℕ) (files : List (List ℕ))
    → is_filled file ≡ true
    → list_all is_filled files ≡ true
    → list_all is_filled (cond enabled (file ∷ files) files) ≡ true
enabled-step true file files here more = and_from _ _ here more
enabled-step false file files here more = more

enabled-formed : (named : List Nested) → list_all names_file named ≡ true → list_all is_filled (enabled_files named) ≡ true
enabled-formed [] all = refl
enabled-formed (nested ∷ more) all =
    enabled-step nested.enabled nested.file (enabled_files more) (and_parts _ _ all).0
    (enabled-formed more (and_parts (names_file nested) _ all).1)

types-formed : (path : List ℕ) (value : Data)
    → environment_faults wide.types path value ≡ [] → list_all is_well_formed_type (list_at type_of (codes "dataTypes") value) ≡ true
types-formed path value none =
    let keys = object-is (environment_keys wide.types) path value none in
    list_at-is (row_faults wide_variable_faults) type_of is_well_formed_type type-formed (codes "dataTypes") path value
    (append-is_nil_right (environment_lists path value) _ keys)

types_at-formed : (path : List ℕ) (value : Data)
    → optional (environment_faults wide.types) (codes "environment") path value ≡ []
    → list_all is_well_formed_type (list_at type_of (codes "dataTypes") (part (codes "environment") value)) ≡ true
types_at-formed path value none = by (has (codes "environment") value) refl
  where
    by : (b : Bool) → has (codes "environment") value ≡ b
        → list_all is_well_formed_type (list_at type_of (codes "dataTypes") (part (codes "environment") value)) ≡ true
    by true e =
        types-formed _ (part (codes "environment") value)
        (optional-is (environment_faults wide.types) (codes "environment") path value none e)
    by false e =
        let P : Data → Type 0 = λ v. list_all is_well_formed_type (list_at type_of (codes "dataTypes") v) ≡ true in
        subst P (sym (is_null (part (codes "environment") value) e)) refl

-- a value without shape faults of the wide form stands for a model file that is well formed
pub wide-formed : (value : Data) → wide_faults value ≡ [] → is_well_formed_wide (wide_of value) ≡ true
wide-formed value none =
    let whole = part (codes "xmodel") value in
    let path = at_key root (codes "xmodel") in
    let keys = object-is (xmodel_keys wide) path whole (object-is (required (xmodel_faults wide) (codes "xmodel")) root value none) in
    let to_agents = append-is_nil_left _ _ keys in
    let to_messages = append-is_nil_left _ _ to_agents in
    let environment = environment_at-formed wide.types path whole (append-is_nil_left _ _ to_messages) in
    and_from _ _ environment.constants
    (and_from _ _ environment.files
    (and_from _ _ environment.units
    (and_from _ _ (types_at-formed path whole (append-is_nil_left _ _ to_messages))
    (and_from _ _
    (list_at-is (row_faults wide_variable_faults) wide_message_of is_well_formed_wide_message wide_message-formed
    (codes "messages") path whole (append-is_nil_right _ _ to_messages))
    (and_from _ _
    (list_at-is (agent_faults wide_variable_faults) wide_agent_of is_well_formed_wide_agent wide_agent-formed
    (codes "agents") path whole (append-is_nil_right _ _ to_agents))
    (enabled-formed (list_at nested_of (codes "models") whole)
    (list_at-is nested_faults nested_of names_file nested-formed (codes "models") path whole (append-is_nil_right _ _ keys))))))))
