-- What a value without shape faults stands for in both forms.
use Rattle.std.proofs.Common.{◌≡◌, ℕ, ◌+◌, List, [], ◌∷◌, ◌++◌, map, Bool, true, false, cond, refl, sym, ap, ◌∙◌, codes, arith}
use Rattle.std.proofs.Common.{Option, Some, None, length, ◌==◌}
use Rattle.std.specs.Prelude.{is_some, unwrap_or, option_and_then}
use Rattle.std.specs.Option.{option_map_or}
use Rattle.std.specs.Str.{bytes_eq}
use Rattle.std.proofs.lemmas.Bool.Decides.{nat_tests}
use Rattle.std.proofs.lemmas.Slice.Eq.{bytes_eq-Decides}
use Rattle.flame_rows.proofs.Lists.{append-is_nil_left, append-is_nil_right, append-nils}
use Rattle.serde_json.specs.Data.{Data}
use Rattle.serde_json.specs.Find.{as_str}
use Rattle.flame_spec.specs.Json.{kept}
use Rattle.flame_spec.specs.Steps.{◌>>=◌, only_where}
use Rattle.flame_spec.specs.Lists.{each_from}
use Rattle.flame_spec.specs.Names.{is_name}
use Rattle.flame_spec.specs.Paths.{root, at_key, at_number}
use Rattle.flame_xmml.specs.declared.faults.Shape.{Shape}
use Rattle.flame_xmml.specs.declared.faults.Want.{Want}
use Rattle.flame_xmml.specs.ValueParts.{part, has, is_object, members, wanted, required, optional, object_faults, list_faults}
use Rattle.flame_xmml.specs.Wants.{int_type_of, empty_of}
use Rattle.flame_xmml.specs.LeafShapes.{name_faults, int_faults, empty_faults}
use Rattle.flame_xmml.specs.ShapeFaults.{typed_keys, variable_keys, variable_faults, row_keys, row_faults, agent_keys, agent_faults}
use Rattle.flame_xmml.specs.ShapeFaults.{environment_lists, environment_keys, environment_faults, nested_faults}
use Rattle.flame_xmml.specs.ShapeFaults.{wide_variable_faults, wide, wide_faults, plain, shape_faults, xmodel_keys, xmodel_faults}
use Rattle.flame_xmml.specs.Models.{name_at, length_at, list_at, variable_of, message_of, agent_of, function_of, model_of, environment_of}
use Rattle.flame_xmml.specs.WideValues.{wide_variable_of, type_of, wide_message_of, wide_agent_of, nested_of, enabled_files, wide_of}
use Rattle.flame_spec.specs.PlainFiles.{int_variable, int_message, int_agent, as_file}
use Rattle.flame_xmml.proofs.Firsts.{object_faults-is}
use Rattle.flame_xmml.proofs.Formed.{object-is, leaf-is, optional-is, no_members, is_null}

-- an object whose keys have no faults is one
object-there : (faults : List ℕ → Data → List Shape) (path : List ℕ) (value : Data)
    → object_faults faults path value ≡ [] → is_object value ≡ true
object-there faults path value none =
    elim (is_object value) as (λ b. cond b (faults path value) (wanted Want.Object path) ≡ [] → b ≡ true) [
      | true ↦ λ e. refl
      | false ↦ λ e. cc
    ] none

int-text : (o : Option (List ℕ)) → is_some (o >>= kept (bytes_eq (codes "int"))) ≡ true → o ≡ Some (codes "int")
int-text None there = cc
int-text (Some text) there = by (bytes_eq (codes "int") text) refl there
  where
    by : (b : Bool) → bytes_eq (codes "int") text ≡ b → is_some (cond b (Some text) None) ≡ true → Some text ≡ Some (codes "int")
    by true same e = ap Some (sym ((bytes_eq-Decides (codes "int") text).0 same))
    by false same e = cc

-- where the type int is wanted, a name is there, which is int
type-is : (path : List ℕ) (value : Data)
    → required int_faults (codes "type") path value ≡ []
    → (required name_faults (codes "type") path value ≡ []) × (name_at (codes "type") value ≡ codes "int")
type-is path value none =
    let text = int-text (as_str (part (codes "type") value))
    (leaf-is Want.Int int_type_of (at_key path (codes "type")) (part (codes "type") value) none) in (
      ap (λ o. cond (is_some (option_and_then (kept is_name) o)) [] (wanted Want.Name (at_key path (codes "type")))) text,
      ap (λ o. unwrap_or (option_and_then (kept is_name) o) []) text,
    )

variable-same : (path : List ℕ) (value : Data)
    → variable_faults int_faults path value ≡ []
    → (wide_variable_faults path value ≡ []) × (wide_variable_of value ≡ int_variable (variable_of value))
variable-same path value none =
    let keys = object-is (variable_keys int_faults) path value none in
    let typed = append-is_nil_left _ _ keys in
    let kind = type-is path value (append-is_nil_left _ _ typed) in (
      object_faults-is (variable_keys name_faults) path value (object-there (variable_keys int_faults) path value none)
          ∙ append-nils (typed_keys name_faults path value) _
          (append-nils (required name_faults (codes "type") path value) _ kind.0 (append-is_nil_right (required int_faults (codes "type") path value) _ typed))
          (append-is_nil_right (typed_keys int_faults path value) _ keys),
      λ i. record { name = name_at (codes "name") value; kind = kind.1 i; length = length_at value },
    )

module _ {X Y : Type 0} (faults faults' : List ℕ → Data → List Shape) (read : Data → X) (read' : Data → Y) (widen : X → Y)
    (member : (path : List ℕ) (value : Data)
    → faults path value ≡ [] → (faults' path value ≡ []) × (read' value ≡ widen (read value))) where
  each-same : (path : List ℕ) (i : ℕ) (values : List Data)
      → each_from (λ number value. faults (at_number path number) value) i values ≡ []
      → (each_from (λ number value. faults' (at_number path number) value) i values ≡ [])
      × (map read' values ≡ map widen (map read values))
  each-same path i [] none = (refl, refl)
  each-same path i (value ∷ values) none =
      let here = member (at_number path i) value (append-is_nil_left _ _ none) in
      let more = each-same path (i + 1) values (append-is_nil_right (faults (at_number path i) value) _ none) in (
        append-nils (faults' (at_number path i) value) _ here.0 more.0,
        λ j. here.1 j ∷ more.1 j,
      )

  found-same : (path : List ℕ) (o : Option (List Data))
      → option_map_or (λ values. each_from (λ number value. faults (at_number path number) value) 0 values) o (wanted Want.List path) ≡ []
      → (option_map_or (λ values. each_from (λ number value. faults' (at_number path number) value) 0 values) o (wanted Want.List path) ≡ [])
      × (map read' (unwrap_or o []) ≡ map widen (map read (unwrap_or o [])))
  found-same path None none = absurd (cc)
  found-same path (Some values) none = each-same path 0 values none

  list-same : (key path : List ℕ) (value : Data)
      → optional (list_faults faults) key path value ≡ []
      → (optional (list_faults faults') key path value ≡ []) × (list_at read' key value ≡ map widen (list_at read key value))
  list-same key path value none = by (has key value) refl
    where
      by : (b : Bool) → has key value ≡ b
          → (optional (list_faults faults') key path value ≡ []) × (list_at read' key value ≡ map widen (list_at read key value))
      by true e =
          let found = found-same (at_key path key) (members (part key value)) (optional-is (list_faults faults) key path value none e) in (
            ap (λ b. cond b (list_faults faults' (at_key path key) (part key value)) []) e ∙ found.0,
            found.1,
          )
      by false e =
          let nothing = no_members (part key value) e in (
            ap (λ b. cond b (list_faults faults' (at_key path key) (part key value)) []) e,
            ap (λ o. map read' (unwrap_or o [])) nothing ∙ sym (ap (λ o. map widen (map read (unwrap_or o []))) nothing),
          )

message-same : (path : List ℕ) (value : Data)
    → row_faults plain.variable path value ≡ []
    → (row_faults wide_variable_faults path value ≡ []) × (wide_message_of value ≡ int_message (message_of value))
message-same path value none =
    let keys = object-is (row_keys plain.variable) path value none in
    let variables = list-same plain.variable wide_variable_faults variable_of wide_variable_of int_variable variable-same
    (codes "variables") path value (append-is_nil_right (required name_faults (codes "name") path value) _ keys) in (
      object_faults-is (row_keys wide_variable_faults) path value (object-there (row_keys plain.variable) path value none)
          ∙ append-nils (required name_faults (codes "name") path value) _ (append-is_nil_left _ _ keys) variables.0,
      λ i. record { name = name_at (codes "name") value; variables = variables.1 i },
    )

agent-same : (path : List ℕ) (value : Data)
    → agent_faults plain.variable path value ≡ []
    → (agent_faults wide_variable_faults path value ≡ []) × (wide_agent_of value ≡ int_agent (agent_of value))
agent-same path value none =
    let keys = object-is (agent_keys plain.variable) path value none in
    let front = append-is_nil_left _ _ keys in
    let memory = list-same plain.variable wide_variable_faults variable_of wide_variable_of int_variable variable-same
    (codes "memory") path value (append-is_nil_right (required name_faults (codes "name") path value) _ front) in (
      object_faults-is (agent_keys wide_variable_faults) path value (object-there (agent_keys plain.variable) path value none)
          ∙ append-nils
          (required name_faults (codes "name") path value ++ optional (list_faults wide_variable_faults) (codes "memory") path value)
          _
          (append-nils (required name_faults (codes "name") path value) _ (append-is_nil_left _ _ front) memory.0)
          (append-is_nil_right
          (required name_faults (codes "name") path value ++ optional (list_faults plain.variable) (codes "memory") path value)
          _
          keys),
      λ i. record {
        name = name_at (codes "name") value;
        memory = memory.1 i;
        functions = list_at function_of (codes "functions") value;
      },
    )

-- a list of no member, of whatever members
empty-found : (o : Option (List Data))
    → is_some (o >>= (λ values. only_where (length values == 0) >>= (λ u. Some values))) ≡ true
    → o ≡ Some []
empty-found None there = cc
empty-found (Some []) there = refl
empty-found (Some (value ∷ values)) there = by (length (value ∷ values) == 0) refl there
  where
    by : (b : Bool) → (length (value ∷ values) == 0) ≡ b
        → is_some (only_where b >>= (λ u. Some (value ∷ values))) ≡ true
        → Some (value ∷ values) ≡ Some []
    by true e h = absurd (grind (arith, nat_tests))
    by false e h = cc

empty-same : {X : Type 0} (faults : List ℕ → Data → List Shape) (read : Data → X) (key path : List ℕ) (value : Data)
    → optional empty_faults key path value ≡ []
    → (optional (list_faults faults) key path value ≡ []) × (list_at read key value ≡ [])
empty-same faults read key path value none = by (has key value) refl
  where
    by : (b : Bool) → has key value ≡ b → (optional (list_faults faults) key path value ≡ []) × (list_at read key value ≡ [])
    by true e =
        let found = empty-found (members (part key value))
        (leaf-is Want.Empty empty_of (at_key path key) (part key value) (optional-is empty_faults key path value none e)) in (
          ap (λ b. cond b (list_faults faults (at_key path key) (part key value)) []) e
              ∙ ap
              (λ o. option_map_or (λ values. each_from (λ number value. faults (at_number (at_key path key) number) value) 0 values) o (wanted Want.List (at_key path key)))
              found,
          ap (λ o. map read (unwrap_or o [])) found,
        )
    by false e = (
      ap (λ b. cond b (list_faults faults (at_key path key) (part key value)) []) e,
      ap (λ o. map read (unwrap_or o [])) (no_members (part key value) e),
    )

environment-same : (path : List ℕ) (value : Data)
    → optional (environment_faults plain.types) (codes "environment") path value ≡ []
    → (optional (environment_faults wide.types) (codes "environment") path value ≡ [])
    × (list_at type_of (codes "dataTypes") (part (codes "environment") value) ≡ [])
environment-same path value none = by (has (codes "environment") value) refl
  where
    by : (b : Bool) → has (codes "environment") value ≡ b
        → (optional (environment_faults wide.types) (codes "environment") path value ≡ [])
        × (list_at type_of (codes "dataTypes") (part (codes "environment") value) ≡ [])
    by true e =
        let inside = part (codes "environment") value in
        let there = at_key path (codes "environment") in
        let whole = optional-is (environment_faults plain.types) (codes "environment") path value none e in
        let keys = object-is (environment_keys plain.types) there inside whole in
        let types = empty-same (row_faults wide_variable_faults) type_of (codes "dataTypes") there inside
        (append-is_nil_right (environment_lists there inside) _ keys) in (
          ap (λ b. cond b (environment_faults wide.types there inside) []) e
              ∙ object_faults-is (environment_keys wide.types) there inside
              (object-there (environment_keys plain.types) there inside whole)
              ∙ append-nils (environment_lists there inside) _ (append-is_nil_left (environment_lists there inside) _ keys) types.0,
          types.1,
        )
    by false e = (
      ap
          (λ b. cond b (environment_faults wide.types (at_key path (codes "environment")) (part (codes "environment") value)) [])
          e,
      ap (list_at type_of (codes "dataTypes")) (is_null (part (codes "environment") value) e),
    )

-- a plain value has no faults in the wide form, and stands for the same there
pub plain-same : (value : Data) → shape_faults value ≡ [] → (wide_faults value ≡ []) × (wide_of value ≡ as_file (model_of value))
plain-same value none =
    let whole = part (codes "xmodel") value in
    let path = at_key root (codes "xmodel") in
    let inner = object-is (required (xmodel_faults plain) (codes "xmodel")) root value none in
    let keys = object-is (xmodel_keys plain) path whole inner in
    let to_agents = append-is_nil_left _ _ keys in
    let to_messages = append-is_nil_left _ _ to_agents in
    let environment = environment-same path whole (append-is_nil_left _ _ to_messages) in
    let messages = list-same (row_faults plain.variable) (row_faults wide_variable_faults) message_of wide_message_of int_message
    message-same (codes "messages") path whole
    (append-is_nil_right (optional (environment_faults plain.types) (codes "environment") path whole) _ to_messages) in
    let agents = list-same (agent_faults plain.variable) (agent_faults wide_variable_faults) agent_of wide_agent_of int_agent
    agent-same (codes "agents") path whole (append-is_nil_right _ _ to_agents) in
    let nested = empty-same nested_faults nested_of (codes "models") path whole (append-is_nil_right _ _ keys) in
    let lists = environment_of (part (codes "environment") whole) in (
      object_faults-is (required (xmodel_faults wide) (codes "xmodel")) root value
          (object-there (required (xmodel_faults plain) (codes "xmodel")) root value none)
          ∙ object_faults-is (xmodel_keys wide) path whole (object-there (xmodel_keys plain) path whole inner)
          ∙ append-nils _ _ (append-nils _ _ (append-nils _ _ environment.0 messages.0) agents.0) nested.0,
      λ i. record {
        constants = lists.constants;
        files = lists.files;
        units = lists.units;
        types = environment.1 i;
        messages = messages.1 i;
        agents = agents.1 i;
        nested = enabled_files (nested.1 i);
      },
    )
