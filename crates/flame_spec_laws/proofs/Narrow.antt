-- Widths of rows, and what can be read by columns.
use Rattle.std.proofs.Common.{◌≡◌, ℕ, ◌<◌, ◌^◌, true, List, [], ◌∷◌, length, Option, Some, None, IsTrue}
use Rattle.std.proofs.Common.{refl, arith}
use Rattle.std.specs.Prelude.{slice_get}
use Rattle.std.specs.List.{list_all}
use Rattle.std.specs.Option.{is_none}
use Rattle.std.proofs.lemmas.Bool.{ltb-true, and_parts}
use Rattle.flame_rows.proofs.Lists.{list_all-at}
use Rattle.flame_spec.specs.declared.models.Model.{Model}
use Rattle.flame_spec.specs.declared.models.AgentType.{AgentType}
use Rattle.flame_spec.specs.declared.models.MessageType.{MessageType}
use Rattle.flame_spec.specs.declared.models.Variable.{Variable}
use Rattle.flame_spec.specs.Columns.{width, width_by, width_of}
use Rattle.flame_spec.specs.Counted.{is_numbered, is_counted_row, is_counted_message, is_counted_agent, is_counted}
use Rattle.flame_spec.proofs.Counts.{has_few}
use Rattle.flame_spec_laws.specs.AcceptedLaws.{CountedConditionsAreReadable, CountedFiltersAreReadable}
use Rattle.flame_spec_laws.proofs.Columned.{condition_readable, filter_readable}

lone : (o : Option ℕ) → is_none o ≡ true → width_by o ≡ 1
lone None is = refl
lone (Some length) is = cc

pub width-length :
    (variables : List Variable)
    → list_all (λ variable. is_none variable.length) variables ≡ true
    → width variables ≡ length variables
width-length [] single = refl
width-length (variable ∷ variables) single =
    let one : width_of variable ≡ 1 = lone variable.length (and_parts (is_none variable.length) _ single).0 in
    let rest = width-length variables (and_parts (is_none variable.length) _ single).1 in
    omega (arith, one, rest)

narrow : (variables : List Variable) → IsTrue (is_counted_row variables) → width variables < 2 ^ 32
narrow variables counted = ltb-true _ _ (and_parts (is_numbered variables) _ counted).1

pub memory_narrow :
    (model : Model) (i : ℕ) (type : AgentType)
    → IsTrue (is_counted model)
    → slice_get model.agents i ≡ Some type
    → width type.memory < 2 ^ 32
memory_narrow model i type counted at =
    let of_count = list_all-at is_counted_agent model.agents i type (has_few model counted).each_agent at in
    narrow type.memory (and_parts (is_counted_row type.memory) _ of_count).0

pub message_narrow :
    (model : Model) (i : ℕ) (message : MessageType)
    → IsTrue (is_counted model)
    → slice_get model.messages i ≡ Some message
    → width message.variables < 2 ^ 32
message_narrow model i message counted at =
    narrow message.variables
    (list_all-at is_counted_message model.messages i message (has_few model counted).each_message at)

pub counted_condition_readable : CountedConditionsAreReadable
counted_condition_readable source i j type function condition is counted at_type at_function given =
    condition_readable source i j type function condition is at_type at_function given
    (memory_narrow source.model i type counted at_type)

pub counted_filter_readable : CountedFiltersAreReadable
counted_filter_readable source i j k m type function input filter message is counted at_type at_function at_input given
    at_message =
    filter_readable source i j k type function input filter message is at_type at_function at_input given
    (memory_narrow source.model i type counted at_type)
    (message_narrow source.model m message counted at_message)
