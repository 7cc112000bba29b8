-- Conditions and filters that can be read by columns.
use Rattle.std.proofs.Common.{◌≡◌, ℕ, ◌<◌, ◌^◌, ℤ, pos, Bool, true, false, true≢false, ◌&&◌, List, []}
use Rattle.std.proofs.Common.{get_or, Option, Some, None, refl, ap, sym, ◌∙◌, arith, rules}
use Rattle.std.specs.Prelude.{slice_get, int_le}
use Rattle.std.specs.List.{list_all}
use Rattle.std.specs.Option.{option_map_or}
use Rattle.std.proofs.lemmas.Option.{slice_get-get_or}
use denote.Hole.Carrier.{hidden}
use Rattle.std.proofs.lemmas.Bool.{and_parts, and_from}
use Rattle.flame_rows.proofs.Lists.{list_all-at}
use Rattle.flame_ops.specs.declared.integers.Op.{Op}
use Rattle.flame_spec.specs.declared.conditions.Condition.{Condition, Compare, And, Or, Not, Time, And', Or', Not'}
use Rattle.flame_spec.specs.declared.conditions.Condition.{more_of-Condition, end_of-Condition, the_lemmas}
use Rattle.flame_spec.specs.declared.conditions.Condition.TheBlock.{shape-the_row-Condition-0}
use Rattle.flame_spec.specs.declared.conditions.Condition.TheBlock.{hidden-the_row-Condition-0}
use Rattle.flame_spec.specs.declared.conditions.Operand.{Operand}
use Rattle.flame_spec.specs.declared.models.Model.{Model}
use Rattle.flame_spec.specs.declared.models.MessageType.{MessageType}
use Rattle.flame_spec.specs.declared.models.AgentType.{AgentType}
use Rattle.flame_spec.specs.declared.models.Function.{Function}
use Rattle.flame_spec.specs.declared.models.Input.{Input}
use Rattle.flame_spec.specs.declared.models.TimeUnit.{TimeUnit}
use Rattle.flame_spec.specs.declared.outcomes.Source.{Source}
use Rattle.flame_spec.specs.Columns.{width}
use Rattle.flame_spec.specs.KnownNames.{is_among, unit_names, declared_by}
use Rattle.flame_spec.specs.TimeUnits.{unit_length}
use Rattle.flame_spec.specs.Conditions.{agent_scope, input_scope, is_length, has_lengths, IsReadable}
use Rattle.flame_spec.specs.FunctionFaults.{condition_scope}
use Rattle.flame_spec.specs.Leaves.{LeafScope}
use Rattle.flame_spec.specs.WellFormed.{is_well_formed, is_well_formed_unit, is_well_formed_agent}
use Rattle.flame_spec.specs.WellFormed.{is_well_formed_function}
use Rattle.flame_spec.specs.WellFormed.{is_well_formed_input, is_well_formed_filter, is_well_formed_condition}
use Rattle.flame_spec.specs.WellFormed.{is_well_formed_variable, is_well_formed_message}
use Rattle.flame_spec.specs.Names.{is_name, is_filled}
use Rattle.flame_spec.specs.Accepted.{IsAccepted}
use Rattle.flame_spec.proofs.ConditionForms.{has_lengths-And, has_lengths-Or}
use Rattle.flame_spec_laws.specs.UsedNames.{knows, IsFunctionKnown}
use Rattle.flame_spec_laws.proofs.Distinct.{units_path, units_none}
use Rattle.flame_spec_laws.proofs.Measures.{Positive, Known, all_known}
use Rattle.flame_spec_laws.proofs.NameKnowledge.{knows-And, knows-Or, knows-Not, knows-Time}
use Rattle.flame_spec_laws.proofs.UsedKnown.{used_declared}

-- ---- tests

there : {X : Type 0} (p : X → Bool) (o : Option X) (x : X) → option_map_or p o true ≡ true → o ≡ Some x → p x ≡ true
there p None x all is = cc
there p (Some y) x all is =
    let same : y ≡ x = cc in
    sym (ap p same) ∙ all

-- ---- forms

lengths-Compare : (units : List TimeUnit) (op : Op) (a b : Operand) → has_lengths units (Compare op a b) ≡ true
lengths-Compare units op a b = search (rules, the_lemmas)

lengths-Not : (units : List TimeUnit) (a : Condition) → has_lengths units (Not a) ≡ has_lengths units a
lengths-Not units a = search (rules, the_lemmas)

lengths-Time : (units : List TimeUnit) (unit : List ℕ) (phase : Operand) (duration : ℤ)
    → has_lengths units (Time unit phase duration) ≡ is_length (unit_length units unit)
lengths-Time units unit phase duration = search (rules, the_lemmas)

formed-And : (a b : Condition) → is_well_formed_filter (And a b) ≡ is_well_formed_filter a && is_well_formed_filter b
formed-And a b = search (rules, the_lemmas)

formed-Or : (a b : Condition) → is_well_formed_filter (Or a b) ≡ is_well_formed_filter a && is_well_formed_filter b
formed-Or a b = search (rules, the_lemmas)

formed-Not : (a : Condition) → is_well_formed_filter (Not a) ≡ is_well_formed_filter a
formed-Not a = search (rules, the_lemmas)

formed-Time : (unit : List ℕ) (phase : Operand) (duration : ℤ)
    → is_well_formed_filter (Time unit phase duration) ≡ false
formed-Time unit phase duration = search (rules, the_lemmas)

-- ---- lengths

known_length : (units : List TimeUnit) (unit : List ℕ) (o : Option ℤ) → Positive o → is_length o ≡ true
known_length units unit None positive = absurd positive
known_length units unit (Some z) positive = positive

condition_lengths :
    (scope : LeafScope) (units : List TimeUnit) (condition : Condition)
    → scope.units ≡ unit_names units
    → Known units
    → knows scope condition ≡ true
    → has_lengths units condition ≡ true
unfolding shape-the_row-Condition-0 hidden-the_row-Condition-0 hidden
condition_lengths scope units (Compare op a b) same known h = lengths-Compare units op a b
condition_lengths scope units (And' _ (more_of-Condition a end_of-Condition) _ (more_of-Condition b end_of-Condition))
    same known h =
    let parts = sym (knows-And scope a b) ∙ h in
    has_lengths-And units a b
    ∙ and_from _ _ (condition_lengths scope units a same known (and_parts _ _ parts).0)
    (condition_lengths scope units b same known (and_parts _ _ parts).1)
condition_lengths scope units (Or' _ (more_of-Condition a end_of-Condition) _ (more_of-Condition b end_of-Condition))
    same known h =
    let parts = sym (knows-Or scope a b) ∙ h in
    has_lengths-Or units a b
    ∙ and_from _ _ (condition_lengths scope units a same known (and_parts _ _ parts).0)
    (condition_lengths scope units b same known (and_parts _ _ parts).1)
condition_lengths scope units (Not' _ (more_of-Condition a end_of-Condition)) same known h =
    lengths-Not units a ∙ condition_lengths scope units a same known (sym (knows-Not scope a) ∙ h)
condition_lengths scope units (Time unit phase duration) same known h =
    lengths-Time units unit phase duration
    ∙ known_length units unit (unit_length units unit)
    (known.lengths unit
    (ap (is_among unit) (sym same) ∙ (and_parts _ _ (sym (knows-Time scope unit phase duration) ∙ h)).0))

filter_lengths :
    (units : List TimeUnit) (filter : Condition)
    → is_well_formed_filter filter ≡ true
    → has_lengths units filter ≡ true
unfolding shape-the_row-Condition-0 hidden-the_row-Condition-0 hidden
filter_lengths units (Compare op a b) h = lengths-Compare units op a b
filter_lengths units (And' _ (more_of-Condition a end_of-Condition) _ (more_of-Condition b end_of-Condition)) h =
    let parts = sym (formed-And a b) ∙ h in
    has_lengths-And units a b
    ∙ and_from _ _ (filter_lengths units a (and_parts _ _ parts).0) (filter_lengths units b (and_parts _ _ parts).1)
filter_lengths units (Or' _ (more_of-Condition a end_of-Condition) _ (more_of-Condition b end_of-Condition)) h =
    let parts = sym (formed-Or a b) ∙ h in
    has_lengths-Or units a b
    ∙ and_from _ _ (filter_lengths units a (and_parts _ _ parts).0) (filter_lengths units b (and_parts _ _ parts).1)
filter_lengths units (Not' _ (more_of-Condition a end_of-Condition)) h =
    lengths-Not units a ∙ filter_lengths units a (sym (formed-Not a) ∙ h)
filter_lengths units (Time unit phase duration) h = absurd (true≢false (sym h ∙ formed-Time unit phase duration))

-- ---- parts of well formed models

units_formed : (model : Model) → is_well_formed model ≡ true → list_all is_well_formed_unit model.units ≡ true
units_formed model h =
    (and_parts (list_all is_well_formed_unit model.units) _ (and_parts (list_all is_filled model.files) _ (and_parts (list_all is_name model.constants) _ h).1).1).0

pub agents_formed : (model : Model) → is_well_formed model ≡ true → list_all is_well_formed_agent model.agents ≡ true
agents_formed model h =
    (and_parts (list_all is_well_formed_message model.messages) _ (and_parts (list_all is_well_formed_unit model.units) _ (and_parts (list_all is_filled model.files) _ (and_parts (list_all is_name model.constants) _ h).1).1).1).1

functions_formed : (type : AgentType)
    → is_well_formed_agent type ≡ true
    → list_all is_well_formed_function type.functions ≡ true
functions_formed type h =
    (and_parts (list_all is_well_formed_variable type.memory) _ (and_parts (is_name type.name) _ h).1).1

inputs_formed : (function : Function)
    → is_well_formed_function function ≡ true
    → list_all is_well_formed_input function.inputs ≡ true
inputs_formed function h =
    (and_parts (list_all is_well_formed_input function.inputs) _ (and_parts (option_map_or is_well_formed_condition function.condition true) _ (and_parts (is_filled function.next) _ (and_parts (is_filled function.current) _ (and_parts (is_name function.name) _ h).1).1).1).1).0

filter_formed : (input : Input) → is_well_formed_input input ≡ true
    → option_map_or is_well_formed_filter input.filter true ≡ true
filter_formed input h =
    (and_parts (option_map_or is_well_formed_filter input.filter true) _ (and_parts (is_name input.message) _ h).1).0

period_positive : (unit : TimeUnit) → is_well_formed_unit unit ≡ true → int_le (pos 1) unit.period ≡ true
period_positive unit h =
    (and_parts (int_le (pos 1) unit.period) _ (and_parts (is_name unit.unit) _ (and_parts (is_name unit.name) _ h).1).1).0

-- ---- conditions and filters of accepted sources

pub condition_readable :
    (source : Source) (i j : ℕ) (type : AgentType) (function : Function) (condition : Condition)
    → IsAccepted source
    → slice_get source.model.agents i ≡ Some type
    → slice_get type.functions j ≡ Some function
    → function.condition ≡ Some condition
    → width type.memory < 2 ^ 32
    → IsReadable (agent_scope type source.model.units) condition
condition_readable source i j type function condition is at_type at_function given narrow =
    let model = source.model in
    let formed = units_formed model is.formed in
    let used : IsFunctionKnown (declared_by model) type.memory function
    = used_declared model i j type function is.named at_type at_function in
    record {
      lengths =
          condition_lengths
          (condition_scope (declared_by model) type.memory) model.units condition refl
          (all_known units_path model.units (units_none model is.named) formed) (used.condition condition given);
      periods = λ k d inside.
          period_positive (get_or model.units k d)
          (list_all-at is_well_formed_unit model.units k (get_or model.units k d) formed
          (slice_get-get_or model.units k d inside));
      memory = narrow;
      message = omega arith;
    }

pub filter_readable :
    (source : Source) (i j k : ℕ) (type : AgentType) (function : Function) (input : Input) (filter : Condition)
    (message : MessageType)
    → IsAccepted source
    → slice_get source.model.agents i ≡ Some type
    → slice_get type.functions j ≡ Some function
    → slice_get function.inputs k ≡ Some input
    → input.filter ≡ Some filter
    → width type.memory < 2 ^ 32
    → width message.variables < 2 ^ 32
    → IsReadable (input_scope type message) filter
filter_readable source i j k type function input filter message is at_type at_function at_input given narrow thin =
    let of_type =
    list_all-at is_well_formed_agent source.model.agents i type (agents_formed source.model is.formed) at_type in
    let of_function =
    list_all-at is_well_formed_function type.functions j function (functions_formed type of_type) at_function in
    let of_input = list_all-at is_well_formed_input function.inputs k input (inputs_formed function of_function) at_input in
    record {
      lengths =
          filter_lengths [] filter
          (there is_well_formed_filter input.filter filter (filter_formed input of_input) given);
      periods = λ k d inside. absurd (omega arith);
      memory = narrow;
      message = thin;
    }
