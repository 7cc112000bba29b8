-- Faults of the names in conditions.
use Rattle.std.specs.Prelude.{ℕ, List, [], ◌∷◌, ◌++◌, codes, not, Option, Some, None}
use Rattle.flame_spec.specs.declared.faults.NameFault.{NameFault}
use Rattle.flame_spec.specs.declared.faults.NameKind.TheVariants.{UnknownVariable, UnknownUnit, NotSingle}
use Rattle.flame_spec.specs.declared.conditions.Operand.{Operand}
use Rattle.flame_spec.specs.declared.conditions.Operand.TheVariants.{Number, Agent, Message}
use Rattle.flame_spec.specs.declared.conditions.Condition.{Condition, fold-Condition}
use Rattle.flame_spec.specs.declared.conditions.Condition.TheOpen.{Condition-F}
use Rattle.flame_spec.specs.declared.models.Variable.{Variable}
use Rattle.flame_spec.specs.Columns.{variable_named, is_array}
use Rattle.flame_spec.specs.KnownNames.{is_among}
use Rattle.flame_spec.specs.Paths.{at_key}
use Rattle.flame_spec.specs.Refusals.{name_fault, fault_where}

-- what the names in a condition may stand for [own]
pub record LeafScope : Type 0 where
  -- the agent's variables, which it writes with `a.`
  pub memory : List Variable
  -- the message's variables, which it writes with `m.`
  pub message : List Variable
  -- the names of the time units, and `iteration`
  pub units : List (List ℕ)

-- what is read has to be there, and to be a single variable; `text` is how it is written [own]
abbrev pub found_faults : Option (ℕ × Variable) → List ℕ → List ℕ → List NameFault
found_faults None path text = name_fault UnknownVariable path text ∷ []
found_faults (Some found) path text = fault_where (is_array found.1) NotSingle path text

-- the variable of this name has to be one of these, and a single one; `text` is how it is written [own]
abbrev pub single_faults : List Variable → List ℕ → List ℕ → List ℕ → List NameFault
single_faults variables name path text = found_faults (variable_named variables name) path text

-- a variable that is read has to be a single one of the agent's, or of the message's [own]
abbrev pub operand_faults : LeafScope → List ℕ → Operand → List NameFault
operand_faults scope path (Number number) = []
operand_faults scope path (Agent name) = single_faults scope.memory name path (codes "a." ++ name)
operand_faults scope path (Message name) = single_faults scope.message name path (codes "m." ++ name)

-- a period has to be `iteration` or a time unit [own]
abbrev pub period_faults : LeafScope → List ℕ → List ℕ → List NameFault
period_faults scope path name = fault_where (not (is_among name scope.units)) UnknownUnit path name

-- the names in a time condition at this path: its period, and then its phase [own]
abbrev pub time_faults : LeafScope → List ℕ → List ℕ → Operand → List NameFault
time_faults scope path period phase =
    period_faults scope (at_key path (codes "period")) period
    ++ operand_faults scope (at_key path (codes "phase")) phase

-- the faults of a form, where the parts give theirs by their paths [own]
abbrev pub leaf_step : LeafScope → Condition-F (List ℕ → List NameFault) → List ℕ → List NameFault
leaf_step scope (Condition-F.Compare op left right) path =
    operand_faults scope (at_key (at_key path (codes "lhs")) (codes "value")) left
    ++ operand_faults scope (at_key (at_key path (codes "rhs")) (codes "value")) right
leaf_step scope (Condition-F.And left right) path =
    left (at_key path (codes "lhs")) ++ right (at_key path (codes "rhs"))
leaf_step scope (Condition-F.Or left right) path =
    left (at_key path (codes "lhs")) ++ right (at_key path (codes "rhs"))
leaf_step scope (Condition-F.Not part) path = part (at_key path (codes "not"))
leaf_step scope (Condition-F.Time period phase duration) path =
    time_faults scope (at_key path (codes "time")) period phase

-- the faults of the names in the condition at this path, from left to right [own]
abbrev pub leaf_faults : LeafScope → Condition → List ℕ → List NameFault
leaf_faults scope = fold-Condition (List ℕ → List NameFault) (leaf_step scope)

-- the same, where there is a condition [own]
abbrev pub condition_faults : LeafScope → List ℕ → Option Condition → List NameFault
condition_faults scope path None = []
condition_faults scope path (Some condition) = leaf_faults scope condition path
