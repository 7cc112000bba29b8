-- Where nothing is found wrong with the names of a condition, they are declared.
use Rattle.std.proofs.Common.{◌≡◌, ℕ, zero, suc, ◌+◌, true, List, [], ◌∷◌, ◌++◌, Option, Some, None}
use Rattle.std.proofs.Common.{refl, ap, sym, ◌∙◌}
use Rattle.std.proofs.Common.{arith, rules, not}
use Rattle.std.specs.Prelude.{ℤ, slice_get, codes, ◌&&◌}
use Rattle.flame_ops.specs.declared.integers.Op.{Op}
use Rattle.flame_spec.specs.declared.conditions.Condition.{Condition, Compare, And, Or, Not, Time, And', Or', Not'}
use Rattle.flame_spec.specs.declared.conditions.Condition.{more_of-Condition, end_of-Condition, the_lemmas}
use Rattle.flame_spec.specs.declared.conditions.Condition.TheBlock.{shape-the_row-Condition-0}
use Rattle.flame_spec.specs.declared.conditions.Condition.TheBlock.{hidden-the_row-Condition-0}
use denote.Hole.Carrier.{hidden}
use Rattle.std.proofs.lemmas.Bool.{and_from, not-false}
use Rattle.flame_rows.proofs.Lists.{append-is_nil_left, append-is_nil_right}
use Rattle.flame_spec.specs.declared.conditions.Operand.{Operand}
use Rattle.flame_spec.specs.declared.conditions.Operand.TheVariants.{Number, Agent, Message}
use Rattle.flame_spec.specs.declared.models.Variable.{Variable}
use Rattle.flame_spec.specs.Columns.{is_array, variable_named}
use Rattle.flame_spec.specs.Lists.{each_from}
use Rattle.flame_spec.specs.KnownNames.{is_among}
use Rattle.flame_spec.specs.Paths.{at_key}
use Rattle.flame_spec.specs.Leaves.{LeafScope, found_faults, operand_faults, period_faults, leaf_faults}
use Rattle.flame_spec.proofs.FaultTests.{name_fault_where-none}
use Rattle.flame_spec.proofs.ConditionForms.{leaf_faults-And, leaf_faults-Or}
use Rattle.flame_spec_laws.specs.UsedNames.{is_single, knows_operand, knows}

-- where nothing comes from a list, nothing comes from any of its elements
pub each_none :
    {X Y : Type 0} (f : ℕ → X → List Y) (i : ℕ) (xs : List X) (k : ℕ) (x : X) (n : ℕ)
    → each_from f i xs ≡ []
    → slice_get xs k ≡ Some x
    → n ≡ i + k
    → f n x ≡ []
each_none f i [] k x n none at e = cc
each_none f i (y ∷ ys) zero x n none at e =
    let same : y ≡ x = cc in
    let place : n ≡ i = omega arith in
    ap (λ m. f m x) place ∙ sym (ap (f i) same) ∙ append-is_nil_left (f i y) (each_from f (i + 1) ys) none
each_none f i (y ∷ ys) (suc k) x n none at e =
    each_none f (i + 1) ys k x n (append-is_nil_right (f i y) (each_from f (i + 1) ys) none) at (omega arith)

pub found_single : (o : Option (ℕ × Variable)) (path text : List ℕ) → found_faults o path text ≡ [] → is_single o ≡ true
found_single None path text none = cc
found_single (Some found) path text none = ap not (name_fault_where-none (is_array found.1) _ path text none)

operand_known :
    (scope : LeafScope) (path : List ℕ) (operand : Operand)
    → operand_faults scope path operand ≡ []
    → knows_operand scope operand ≡ true
operand_known scope path (Number number) none = refl
operand_known scope path (Agent name) none = found_single (variable_named scope.memory name) _ _ none
operand_known scope path (Message name) none = found_single (variable_named scope.message name) _ _ none

pub leaf-Compare :
    (scope : LeafScope) (op : Op) (a b : Operand) (path : List ℕ)
    → leaf_faults scope (Compare op a b) path
    ≡ operand_faults scope (at_key (at_key path (codes "lhs")) (codes "value")) a
    ++ operand_faults scope (at_key (at_key path (codes "rhs")) (codes "value")) b
leaf-Compare scope op a b path = search (rules, the_lemmas)

leaf-Not :
    (scope : LeafScope) (a : Condition) (path : List ℕ)
    → leaf_faults scope (Not a) path ≡ leaf_faults scope a (at_key path (codes "not"))
leaf-Not scope a path = search (rules, the_lemmas)

pub leaf-Time :
    (scope : LeafScope) (unit : List ℕ) (phase : Operand) (duration : ℤ) (path : List ℕ)
    → leaf_faults scope (Time unit phase duration) path
    ≡ period_faults scope (at_key (at_key path (codes "time")) (codes "period")) unit
    ++ operand_faults scope (at_key (at_key path (codes "time")) (codes "phase")) phase
leaf-Time scope unit phase duration path = search (rules, the_lemmas)

knows-Compare :
    (scope : LeafScope) (op : Op) (a b : Operand)
    → knows scope (Compare op a b) ≡ knows_operand scope a && knows_operand scope b
knows-Compare scope op a b = search (rules, the_lemmas)

pub knows-And : (scope : LeafScope) (a b : Condition) → knows scope (And a b) ≡ knows scope a && knows scope b
knows-And scope a b = search (rules, the_lemmas)

pub knows-Or : (scope : LeafScope) (a b : Condition) → knows scope (Or a b) ≡ knows scope a && knows scope b
knows-Or scope a b = search (rules, the_lemmas)

pub knows-Not : (scope : LeafScope) (a : Condition) → knows scope (Not a) ≡ knows scope a
knows-Not scope a = search (rules, the_lemmas)

pub knows-Time :
    (scope : LeafScope) (unit : List ℕ) (phase : Operand) (duration : ℤ)
    → knows scope (Time unit phase duration) ≡ is_among unit scope.units && knows_operand scope phase
knows-Time scope unit phase duration = search (rules, the_lemmas)

pub condition_known :
    (scope : LeafScope) (condition : Condition) (path : List ℕ)
    → leaf_faults scope condition path ≡ []
    → knows scope condition ≡ true
unfolding shape-the_row-Condition-0 hidden-the_row-Condition-0 hidden
condition_known scope (Compare op a b) path none =
    let parts = sym (leaf-Compare scope op a b path) ∙ none in
    knows-Compare scope op a b
    ∙ and_from _ _ (operand_known scope _ a (append-is_nil_left _ _ parts)) (operand_known scope _ b (append-is_nil_right _ _ parts))
condition_known scope
    (And' _ (more_of-Condition a end_of-Condition) _ (more_of-Condition b end_of-Condition)) path none =
    let parts = sym (leaf_faults-And scope path a b) ∙ none in
    knows-And scope a b
    ∙ and_from _ _ (condition_known scope a _ (append-is_nil_left _ _ parts)) (condition_known scope b _ (append-is_nil_right _ _ parts))
condition_known scope
    (Or' _ (more_of-Condition a end_of-Condition) _ (more_of-Condition b end_of-Condition)) path none =
    let parts = sym (leaf_faults-Or scope path a b) ∙ none in
    knows-Or scope a b
    ∙ and_from _ _ (condition_known scope a _ (append-is_nil_left _ _ parts)) (condition_known scope b _ (append-is_nil_right _ _ parts))
condition_known scope (Not' _ (more_of-Condition a end_of-Condition)) path none =
    knows-Not scope a ∙ condition_known scope a _ (sym (leaf-Not scope a path) ∙ none)
condition_known scope (Time unit phase duration) path none =
    let parts = sym (leaf-Time scope unit phase duration path) ∙ none in
    knows-Time scope unit phase duration
    ∙ and_from _ _ (not-false _ (name_fault_where-none _ _ _ _ (append-is_nil_left _ _ parts)))
    (operand_known scope _ phase (append-is_nil_right _ _ parts))
