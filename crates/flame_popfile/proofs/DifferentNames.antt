-- The names of an accepted model differ, and stand in texts as they are.
use Rattle.std.proofs.Common.{◌≡◌, ◌≢◌, ℕ, suc, ◌<◌, List, [], ◌∷◌, map, length, Bool, true, arith}
use Rattle.std.specs.Prelude.{slice_index_or}
use Rattle.std.specs.List.{list_all}
use Rattle.std.specs.Option.{option_map_or}
use Rattle.std.proofs.lemmas.Bool.{and_parts}
use Rattle.flame_spec.specs.declared.models.Model.{Model}
use Rattle.flame_spec.specs.declared.models.AgentType.{AgentType}
use Rattle.flame_spec.specs.declared.models.MessageType.{MessageType}
use Rattle.flame_spec.specs.declared.models.Variable.{Variable}
use Rattle.flame_spec.specs.KnownNames.{variable_names}
use Rattle.flame_spec.specs.Names.{is_name, is_filled}
use Rattle.flame_spec.specs.NameFaults.{type_names, name_faults}
use Rattle.flame_spec.specs.WellFormed.{is_well_formed, is_well_formed_unit, is_well_formed_variable, is_array_length, is_well_formed_message}
use Rattle.flame_spec.specs.WellFormed.{is_well_formed_agent, is_well_formed_function}
use Rattle.flame_spec_laws.specs.DistinctNames.{AreDistinct}
use Rattle.flame_spec_laws.proofs.Distinct.{distinct, constants_differ, types_differ}
use Rattle.flame_spec_laws.proofs.Members.{types_apart}
use Rattle.flame_meaning.specs.RangeLaws.{Each}
use Rattle.flame_popfile.proofs.PutMembers.{IsNoneOf, AllDiffer}
use Rattle.flame_popfile.proofs.WrittenNames.{IsPlain, name_plain}
use Rattle.flame_popfile.proofs.WrittenRows.{ArePlain}
use Rattle.flame_popfile.proofs.WrittenMembers.{IsPlainType, IsPlainMessage, IsPlainModel}
use Rattle.flame_meaning.proofs.Eachs.{each_from}

-- ---- different names

none_of :
    (name : List ℕ) (names : List (List ℕ))
    → ((k : ℕ) → k < length names → name ≢ slice_index_or names k []) → IsNoneOf name names
none_of name [] h = tt
none_of name (other ∷ names) h =
    (h 0 (omega arith), none_of name names (λ k within. h (suc k) (omega arith)))

all_differ : (names : List (List ℕ)) → AreDistinct names → AllDiffer names
all_differ [] h = tt
all_differ (name ∷ names) h = (
  none_of name names (λ k within. h 0 (suc k) (omega arith) (omega arith)),
  all_differ names (λ i k below within. h (suc i) (suc k) (omega arith) (omega arith)),
)

-- the variables of the type have different names
abbrev pub HasDifferentVariables : AgentType → Type 0
HasDifferentVariables type = AllDiffer (map (λ (v : Variable). v.name) type.memory)

-- the constants, the types and the variables of each type have different names
pub record HasDifferentNames (model : Model) : Type 0 where
  pub constants : AllDiffer model.constants
  pub types : AllDiffer (map (λ (type : AgentType). type.name) model.agents)
  pub memories : Each HasDifferentVariables model.agents

pub different_names : (model : Model) → name_faults model ≡ [] → HasDifferentNames model
different_names model none = record {
  constants = all_differ model.constants (distinct model.constants (constants_differ model none).plain);
  types = all_differ (type_names model.agents) (distinct (type_names model.agents) (types_differ model none));
  memories =
      each_from HasDifferentVariables model.agents
      (λ k type at. all_differ (variable_names type.memory) (types_apart model k type none at).plain);
}

-- ---- plain names

each_passes :
    {X : Type 0} (test : X → Bool) (P : X → Type 0)
    → ((x : X) → test x ≡ true → P x) → (xs : List X) → list_all test xs ≡ true → Each P xs
each_passes test P go [] h = tt
each_passes test P go (x ∷ xs) h =
    let both = and_parts (test x) (list_all test xs) h in
    (go x both.0, each_passes test P go xs both.1)

variable_plain : (variable : Variable) → is_well_formed_variable variable ≡ true → IsPlain variable.name
variable_plain variable h =
    name_plain variable.name
    (and_parts (is_name variable.name) (option_map_or is_array_length variable.length true) h).0

variables_plain : (variables : List Variable) → list_all is_well_formed_variable variables ≡ true → ArePlain variables
variables_plain = each_passes is_well_formed_variable (λ (v : Variable). IsPlain v.name) variable_plain

message_plain : (message : MessageType) → is_well_formed_message message ≡ true → IsPlainMessage message
message_plain message h =
    let both = and_parts (is_name message.name) (list_all is_well_formed_variable message.variables) h in
    record { name = name_plain message.name both.0; variables = variables_plain message.variables both.1 }

type_plain : (type : AgentType) → is_well_formed_agent type ≡ true → IsPlainType type
type_plain type h =
    let outer = and_parts (is_name type.name) _ h in
    let inner =
    and_parts (list_all is_well_formed_variable type.memory) (list_all is_well_formed_function type.functions)
    outer.1 in
    record { name = name_plain type.name outer.0; memory = variables_plain type.memory inner.0 }

pub plain_model : (model : Model) → is_well_formed model ≡ true → IsPlainModel model
plain_model model h =
    let one = and_parts (list_all is_name model.constants) _ h in
    let two = and_parts (list_all is_filled model.files) _ one.1 in
    let three = and_parts (list_all is_well_formed_unit model.units) _ two.1 in
    let four =
    and_parts (list_all is_well_formed_message model.messages) (list_all is_well_formed_agent model.agents) three.1 in
    record {
      constants = each_passes is_name IsPlain name_plain model.constants one.0;
      agents = each_passes is_well_formed_agent IsPlainType type_plain model.agents four.1;
      messages = each_passes is_well_formed_message IsPlainMessage message_plain model.messages four.0;
    }
