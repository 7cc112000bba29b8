-- Conditions of two parts, part by part.
use Rattle.std.proofs.Common.{◌≡◌, ◌&&◌, List, rules, ℕ, ◌++◌, codes}
use Rattle.std.specs.Prelude.{ℤ}
use Rattle.flame_ops.specs.declared.integers.Op.{Op}
use Rattle.flame_spec.specs.declared.conditions.Condition.{Condition, And, the_lemmas, Or, Compare, Time}
use Rattle.flame_spec.specs.declared.models.TimeUnit.{TimeUnit}
use Rattle.flame_spec.specs.Conditions.{has_lengths, Scope, Moment, operand_value, compares, truth, in_unit}
use Rattle.flame_spec.specs.Paths.{at_key}
use Rattle.flame_spec.specs.Leaves.{LeafScope, leaf_faults}
use Rattle.flame_spec.specs.declared.conditions.Operand.{Operand}
use Rattle.flame_spec.specs.TimeUnits.{unit_length}

pub has_lengths-And : (units : List TimeUnit) (a b : Condition) → has_lengths units (And a b) ≡ has_lengths units a && has_lengths units b
has_lengths-And units a b = search (rules, the_lemmas)

pub has_lengths-Or : (units : List TimeUnit) (a b : Condition) → has_lengths units (Or a b) ≡ has_lengths units a && has_lengths units b
has_lengths-Or units a b = search (rules, the_lemmas)

pub leaf_faults-And : (scope : LeafScope) (path : List ℕ) (left right : Condition)
    → leaf_faults scope (And left right) path
    ≡ leaf_faults scope left (at_key path (codes "lhs")) ++ leaf_faults scope right (at_key path (codes "rhs"))
leaf_faults-And scope path left right = search (rules, the_lemmas)

pub leaf_faults-Or : (scope : LeafScope) (path : List ℕ) (left right : Condition)
    → leaf_faults scope (Or left right) path
    ≡ leaf_faults scope left (at_key path (codes "lhs")) ++ leaf_faults scope right (at_key path (codes "rhs"))
leaf_faults-Or scope path left right = search (rules, the_lemmas)

pub truth-Compare :
    (scope : Scope) (op : Op) (a b : Operand) (moment : Moment)
    → truth scope (Compare op a b) moment ≡ compares op (operand_value scope a moment) (operand_value scope b moment)
truth-Compare scope op a b moment = search (rules, the_lemmas)

pub truth-Time :
    (scope : Scope) (unit : List ℕ) (phase : Operand) (duration : ℤ) (moment : Moment)
    → truth scope (Time unit phase duration) moment
    ≡ in_unit (unit_length scope.units unit) (operand_value scope phase moment) duration moment.iteration
truth-Time scope unit phase duration moment = search (rules, the_lemmas)
