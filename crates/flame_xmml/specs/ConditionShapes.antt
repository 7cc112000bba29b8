-- Conditions of functions and filters of inputs: their faults, and what they are read as.
use Rattle.std.specs.Prelude.{ℕ, List, [], ◌++◌, codes, ℤ, pos, Bool, not, if◌then◌else◌, Option, Some}
use Rattle.std.specs.Prelude.{None, unwrap_or}
use Rattle.std.specs.Ordering.{nat_cmp, match_ordering}
use Rattle.std.specs.Cmp.Lexicographic.{slice_cmp}
use Rattle.serde_json.specs.Data.{Data, null, boolean, number, string, array, object, Members, no_members, member}
use Rattle.flame_ops.specs.declared.integers.Op.{Op}
use Rattle.flame_ops.specs.declared.integers.Op.TheVariants.{Eq}
use Rattle.flame_spec.specs.declared.conditions.Condition.{Condition, Compare as comparison, And as conjunction}
use Rattle.flame_spec.specs.declared.conditions.Condition.{Or as disjunction, Not as negation, Time as timing}
use Rattle.flame_spec.specs.declared.conditions.Operand.{Operand}
use Rattle.flame_spec.specs.declared.conditions.Operand.TheVariants.{Number}
use Rattle.flame_spec.specs.Paths.{at_key}
use Rattle.flame_xmml.specs.declared.faults.Shape.{Shape}
use Rattle.flame_xmml.specs.declared.faults.Want.TheVariants.{Condition as ConditionWant}
use Rattle.flame_xmml.specs.declared.words.Connective.{Connective}
use Rattle.flame_xmml.specs.declared.words.Connective.TheVariants.{Compare, And, Or}
use Rattle.flame_xmml.specs.ValueParts.{part, has, is_object, wanted, required, optional, object_faults}
use Rattle.flame_xmml.specs.LeafShapes.{name_faults, positive_faults, op_faults, operand_faults, phase_faults}
use Rattle.flame_xmml.specs.Wants.{name_of, positive_of, operand_of, phase_of, connective_of}

-- ---- what a value gives by what the values at its keys give

-- `step` says what a value gives, from what each of its keys gives; a missing key, and all that is no object, has none
-- [own]
abbrev mutual
  pub by_keys : {X : Type 0} → (Data → (List ℕ → X) → X) → X → Data → X
  by_keys step none (object entries) = step (object entries) (at_keys step none entries)
  by_keys step none null = step null (λ key. none)
  by_keys step none (boolean truth) = step (boolean truth) (λ key. none)
  by_keys step none (number n) = step (number n) (λ key. none)
  by_keys step none (string text) = step (string text) (λ key. none)
  by_keys step none (array items) = step (array items) (λ key. none)

  -- what the value at this key gives [own]
  pub at_keys : {X : Type 0} → (Data → (List ℕ → X) → X) → X → Members → List ℕ → X
  at_keys step none no_members key = none
  at_keys step none (member name value entries) key =
      let elsewhere = at_keys step none entries key in
      match_ordering (slice_cmp nat_cmp key name) elsewhere (by_keys step none value) elsewhere

-- ---- faults

-- a side of a comparison: an object with the key `value` [XMML]
abbrev pub side_faults : List ℕ → Data → List Shape
side_faults = object_faults (required operand_faults (codes "value"))

-- `period`, `phase` and `duration` [XMML]
abbrev pub time_keys : List ℕ → Data → List Shape
time_keys path value =
    required name_faults (codes "period") path value
    ++ optional phase_faults (codes "phase") path value
    ++ optional positive_faults (codes "duration") path value

-- what stands at `time`; a filter has no time condition [XMML]
abbrev pub time_faults : Bool → List ℕ → Data → List Shape
time_faults in_filter path value =
    if in_filter then wanted ConditionWant path else object_faults time_keys path value

-- the two sides that the operator wants; where it is none, they are not walked [XMML]
abbrev pub sides_keys : Option Connective → Data → (List ℕ → List ℕ → List Shape) → List ℕ → List Shape
sides_keys None value inner path = []
sides_keys (Some (Compare op)) value inner path =
    required side_faults (codes "lhs") path value ++ required side_faults (codes "rhs") path value
sides_keys (Some And) value inner path =
    inner (codes "lhs") (at_key path (codes "lhs")) ++ inner (codes "rhs") (at_key path (codes "rhs"))
sides_keys (Some Or) value inner path =
    inner (codes "lhs") (at_key path (codes "lhs")) ++ inner (codes "rhs") (at_key path (codes "rhs"))

-- `op`, then both sides [XMML]
abbrev pub operation_keys : Data → (List ℕ → List ℕ → List Shape) → List ℕ → List Shape
operation_keys value inner path =
    required op_faults (codes "op") path value
    ++ sides_keys (connective_of (part (codes "op") value)) value inner path

-- the faults of a condition at a path: a negation, a time condition, or two sides with `op`. `inner` has the faults of
-- the condition at a key, at its path [XMML]
abbrev pub condition_keys : Bool → Data → (List ℕ → List ℕ → List Shape) → List ℕ → List Shape
condition_keys in_filter value inner path =
    if not (is_object value) then wanted ConditionWant path
    else if has (codes "not") value then inner (codes "not") (at_key path (codes "not"))
    else if has (codes "time") value then required (time_faults in_filter) (codes "time") path value
    else operation_keys value inner path

-- the faults of the condition at a path; a filter has no time condition [XMML]
abbrev pub condition_faults : Bool → List ℕ → Data → List Shape
condition_faults in_filter path value = by_keys (condition_keys in_filter) (wanted ConditionWant) value path

-- ---- what they are read as; what is read of a value with a fault is of no account

-- a side of a comparison [XMML]
abbrev pub side_of : Data → Operand
side_of value = unwrap_or (operand_of (part (codes "value") value)) (Number (pos 0))

-- the phase of a time condition, 0 where it is missing [XMML]
abbrev pub phase_at : Data → Operand
phase_at value = unwrap_or (phase_of (part (codes "phase") value)) (Number (pos 0))

-- the duration of a time condition, 1 where it is missing [XMML]
abbrev pub duration_at : Data → ℤ
duration_at value = unwrap_or (positive_of (part (codes "duration") value)) (pos 1)

-- a time condition [XMML]
abbrev pub time_of : Data → Condition
time_of value =
    let period = unwrap_or (name_of (part (codes "period") value)) [] in
    timing period (phase_at value) (duration_at value)

-- a comparison by this operator [XMML]
abbrev pub comparison_of : Op → Data → Condition
comparison_of op value =
    comparison op (side_of (part (codes "lhs") value)) (side_of (part (codes "rhs") value))

-- two sides with an operator; `inner` has the condition at a key [XMML]
abbrev pub sides_of : Connective → (List ℕ → Condition) → Data → Condition
sides_of (Compare op) inner value = comparison_of op value
sides_of And inner value = conjunction (inner (codes "lhs")) (inner (codes "rhs"))
sides_of Or inner value = disjunction (inner (codes "lhs")) (inner (codes "rhs"))

-- a negation, a time condition, or two sides with an operator; `inner` has the condition at a key [XMML]
abbrev pub condition_parts : Data → (List ℕ → Condition) → Condition
condition_parts value inner =
    if has (codes "not") value then negation (inner (codes "not"))
    else if has (codes "time") value then time_of (part (codes "time") value)
    else sides_of (unwrap_or (connective_of (part (codes "op") value)) (Compare Eq)) inner value

-- what is read of nothing [own]
abbrev pub no_condition : Condition
no_condition = comparison Eq (Number (pos 0)) (Number (pos 0))

-- the condition that a value stands for [XMML]
abbrev pub condition_of : Data → Condition
condition_of = by_keys condition_parts no_condition

-- ---- a condition with `op`

-- its faults [own]
abbrev pub operation_faults : Bool → List ℕ → Data → List Shape
operation_faults in_filter path value =
    operation_keys value (λ key inner. condition_faults in_filter inner (part key value)) path

-- what it stands for [own]
abbrev pub operation_of : Data → Condition
operation_of value =
    let operator = unwrap_or (connective_of (part (codes "op") value)) (Compare Eq) in
    sides_of operator (λ key. condition_of (part key value)) value

-- the conditions on both sides [own]
abbrev pub conditions_at : Data → Condition × Condition
conditions_at value = (condition_of (part (codes "lhs") value), condition_of (part (codes "rhs") value))
