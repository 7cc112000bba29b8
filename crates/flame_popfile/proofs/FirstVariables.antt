-- Each memory variable is the first of its name, where the names of the model have no fault.
use Rattle.std.proofs.Common.{◌≡◌, ℕ, zero, suc, List, [], ◌∷◌, take, Bool, true, false, cond, Some, refl, sym, ap, ◌∙◌, codes}
use Rattle.std.specs.Prelude.{slice_get}
use Rattle.std.specs.Str.{bytes_eq}
use Rattle.std.proofs.lemmas.Slice.Eq.{bytes_eq-Decides}
use Rattle.std.proofs.lemmas.Bool.{or_parts}
use Rattle.flame_rows.proofs.Bytes.{bytes_eq-self}
use Rattle.flame_rows.proofs.Lists.{append-is_nil_left, append-is_nil_right}
use Rattle.flame_spec.specs.declared.faults.NameFault.{NameFault}
use Rattle.flame_spec.specs.declared.faults.NameKind.TheVariants.{Duplicate}
use Rattle.flame_spec.specs.declared.models.Model.{Model}
use Rattle.flame_spec.specs.declared.models.AgentType.{AgentType}
use Rattle.flame_spec.specs.declared.models.Variable.{Variable}
use Rattle.flame_spec.specs.KnownNames.{is_among, variable_names, declared_by}
use Rattle.flame_spec.specs.MessageFaults.{messages_faults}
use Rattle.flame_spec.specs.NameFaults.{memory_name_faults, memory_variable_faults, memory_faults, agent_faults, type_names, names_of_functions}
use Rattle.flame_spec.specs.NameFaults.{environment_faults, name_faults}
use Rattle.flame_spec.specs.Paths.{root, at_key, at_number}
use Rattle.flame_spec.specs.Refusals.{fault_where}
use Rattle.flame_spec.proofs.FaultTests.{name_fault_where-none}
use Rattle.flame_popfile.specs.PopulationParts.{called}
use Rattle.flame_popfile.proofs.FaultlessParts.{each-nth}

-- each of these variables is the first of its name
pub record AreFirst (variables : List Variable) : Type 0 where
  pub first :
      (i : ℕ) (variable : Variable)
      → slice_get variables i ≡ Some variable
      → called (λ (one : Variable). one.name) variables variable.name ≡ Some variable

other_name : (a b : List ℕ) → bytes_eq a b ≡ false → bytes_eq b a ≡ false
other_name a b other = by_test (bytes_eq b a) refl
  where
    by_test : (t : Bool) → bytes_eq b a ≡ t → t ≡ false
    by_test true is = let same : b ≡ a = (bytes_eq-Decides b a).0 is in sym ((bytes_eq-Decides a b).1 (sym same)) ∙ other
    by_test false is = refl

-- behind variables of other names it is the first of its name
first_at :
    (variables : List Variable) (i : ℕ) (variable : Variable)
    → slice_get variables i ≡ Some variable
    → is_among variable.name (variable_names (take i variables)) ≡ false
    → called (λ (one : Variable). one.name) variables variable.name ≡ Some variable
first_at [] i variable at none = cc
first_at (one ∷ variables) zero variable at none =
    let same : one ≡ variable = cc in
    ap (λ b. cond b (Some one) (called (λ (one : Variable). one.name) variables variable.name))
    (ap (λ (v : Variable). bytes_eq v.name variable.name) same ∙ bytes_eq-self variable.name)
    ∙ ap Some same
first_at (one ∷ variables) (suc i) variable at none =
    ap (λ b. cond b (Some one) (called (λ (one : Variable). one.name) variables variable.name))
    (other_name variable.name one.name (or_parts _ _ none).0)
    ∙ first_at variables i variable at (or_parts (bytes_eq variable.name one.name) _ none).1

-- variables without faults
memory_first :
    (constants : List (List ℕ)) (path : List ℕ) (variables : List Variable)
    → memory_faults constants path variables ≡ []
    → AreFirst variables
memory_first constants path variables none = record {
  first = λ i variable at.
      let here : memory_variable_faults constants (take i variables) (at_number path i) variable ≡ [] =
      each-nth (λ i variable. memory_variable_faults constants (take i variables) (at_number path i) variable) variables
      none i variable at in
      let named = append-is_nil_left (memory_name_faults constants (variable_names (take i variables)) (at_key (at_number path i) (codes "name")) variable.name) _ here in
      first_at variables i variable at (name_fault_where-none _ Duplicate _ _ (append-is_nil_left (fault_where (is_among variable.name (variable_names (take i variables))) Duplicate (at_key (at_number path i) (codes "name")) variable.name) _ named));
}

-- the memory variables of each type of the model
pub memories_first :
    (model : Model)
    → name_faults model ≡ []
    → (n : ℕ) (type : AgentType)
    → slice_get model.agents n ≡ Some type
    → AreFirst type.memory
memories_first model none n type at =
    let path = at_key root (codes "xmodel") in
    let declared = declared_by model in
    let behind = append-is_nil_right (environment_faults (at_key path (codes "environment")) model) _ none in
    let agents = append-is_nil_right (messages_faults (at_key path (codes "messages")) model.messages) _ behind in
    let place = at_number (at_key path (codes "agents")) n in
    let faults : ℕ → AgentType → List NameFault = λ i one.
    agent_faults declared (type_names (take i model.agents)) (λ name. is_among name (names_of_functions (take i model.agents)))
    (at_number (at_key path (codes "agents")) i) one in
    let here = each-nth faults model.agents agents n type at in
    let later = append-is_nil_right (fault_where (is_among type.name (type_names (take n model.agents))) Duplicate (at_key place (codes "name")) type.name) _ here in
    memory_first declared.constants (at_key place (codes "memory")) type.memory
    (append-is_nil_left (memory_faults declared.constants (at_key place (codes "memory")) type.memory) _ later)
