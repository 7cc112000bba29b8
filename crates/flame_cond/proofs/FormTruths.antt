-- What a test answers is what its form says, and so what the condition says that it was read from.
use Rattle.std.proofs.Common.{◌≡◌, Bool, not, ◌&&◌, refl, ap, ◌∙◌, sym, rules}
use Rattle.std.specs.Prelude.{ℤ, List, ℕ, ◌||◌}
use denote.Hole.Carrier.{hidden}
use Rattle.flame_ops.specs.declared.integers.Op.{Op}
use Rattle.flame_spec.specs.declared.conditions.Condition.{Condition, the_lemmas as of_conditions}
use Rattle.flame_spec.specs.declared.conditions.Condition.{Compare as CompareC, And as AndC, Or as OrC, Not as NotC, Time as TimeC}
use Rattle.flame_spec.specs.declared.conditions.Condition.{And' as AndC', Or' as OrC', Not' as NotC', more_of-Condition, end_of-Condition}
use Rattle.flame_spec.specs.declared.conditions.Condition.TheBlock.{shape-the_row-Condition-0, hidden-the_row-Condition-0}
use Rattle.flame_spec.specs.declared.conditions.Operand.{Operand}
use Rattle.flame_spec.specs.declared.conditions.Operand.TheVariants.{Number, Agent, Message}
use Rattle.flame_spec.specs.TimeUnits.{unit_length}
use Rattle.flame_spec.specs.Conditions.{Scope, Moment, operand_value, compares, in_unit, truth}
use Rattle.flame_spec.proofs.ConditionForms.{truth-Compare, truth-Time}
use Rattle.flame_cond.specs.declared.forms.Test.{Test, Compare, And, Or, Not, Time, the_lemmas}
use Rattle.flame_cond.specs.declared.forms.Test.{And', Or', Not', more_of-Test, end_of-Test}
use Rattle.flame_cond.specs.declared.forms.Test.TheBlock.{shape-the_row-Test-0, hidden-the_row-Test-0}
use Rattle.flame_cond.specs.Tests.{term_value, answer}
use Rattle.flame_cond.specs.TestForms.{TestForm, comparison, both, either, negation, timing, form_of, term_of, test_of}

-- whether a form holds
abbrev pub form_truth : TestForm → Moment → Bool
form_truth (comparison op a b) now = compares op (term_value a now) (term_value b now)
form_truth (both left right) now = form_truth left now && form_truth right now
form_truth (either left right) now = form_truth left now || form_truth right now
form_truth (negation part) now = not (form_truth part now)
form_truth (timing length phase duration) now = in_unit length (term_value phase now) duration now.iteration

-- ---- a test answers what its form says

answer-And : (a b : Test) (now : Moment) → answer (And a b) now ≡ answer a now && answer b now
answer-And a b now = search (rules, the_lemmas)

answer-Or : (a b : Test) (now : Moment) → answer (Or a b) now ≡ (answer a now || answer b now)
answer-Or a b now = search (rules, the_lemmas)

answer-Not : (a : Test) (now : Moment) → answer (Not a) now ≡ not (answer a now)
answer-Not a now = search (rules, the_lemmas)

form_of-And : (a b : Test) → form_of (And a b) ≡ both (form_of a) (form_of b)
form_of-And a b = search (rules, the_lemmas)

form_of-Or : (a b : Test) → form_of (Or a b) ≡ either (form_of a) (form_of b)
form_of-Or a b = search (rules, the_lemmas)

form_of-Not : (a : Test) → form_of (Not a) ≡ negation (form_of a)
form_of-Not a = search (rules, the_lemmas)

pub answer-form : (test : Test) (now : Moment) → answer test now ≡ form_truth (form_of test) now
unfolding shape-the_row-Test-0 hidden-the_row-Test-0 hidden
answer-form (Compare op a b) now = search (rules, the_lemmas)
answer-form (And' _ (more_of-Test a end_of-Test) _ (more_of-Test b end_of-Test)) now =
    answer-And a b now
    ∙ (λ i. answer-form a now i && answer-form b now i)
    ∙ ap (λ f. form_truth f now) (sym (form_of-And a b))
answer-form (Or' _ (more_of-Test a end_of-Test) _ (more_of-Test b end_of-Test)) now =
    answer-Or a b now
    ∙ (λ i. answer-form a now i || answer-form b now i)
    ∙ ap (λ f. form_truth f now) (sym (form_of-Or a b))
answer-form (Not' _ (more_of-Test a end_of-Test)) now =
    answer-Not a now ∙ ap not (answer-form a now) ∙ ap (λ f. form_truth f now) (sym (form_of-Not a))
answer-form (Time period phase duration) now = search (rules, the_lemmas)

-- ---- the form of a condition says what the condition does

-- what is compared has the value of what is written
pub term-value : (scope : Scope) (operand : Operand) (now : Moment) → term_value (term_of scope operand) now ≡ operand_value scope operand now
term-value scope (Number number) now = refl
term-value scope (Agent name) now = refl
term-value scope (Message name) now = refl

truth-And : (scope : Scope) (a b : Condition) (now : Moment) → truth scope (AndC a b) now ≡ truth scope a now && truth scope b now
truth-And scope a b now = search (rules, of_conditions)

truth-Or : (scope : Scope) (a b : Condition) (now : Moment) → truth scope (OrC a b) now ≡ (truth scope a now || truth scope b now)
truth-Or scope a b now = search (rules, of_conditions)

truth-Not : (scope : Scope) (a : Condition) (now : Moment) → truth scope (NotC a) now ≡ not (truth scope a now)
truth-Not scope a now = search (rules, of_conditions)

test_of-And : (scope : Scope) (a b : Condition) → test_of scope (AndC a b) ≡ both (test_of scope a) (test_of scope b)
test_of-And scope a b = search (rules, of_conditions)

test_of-Or : (scope : Scope) (a b : Condition) → test_of scope (OrC a b) ≡ either (test_of scope a) (test_of scope b)
test_of-Or scope a b = search (rules, of_conditions)

test_of-Not : (scope : Scope) (a : Condition) → test_of scope (NotC a) ≡ negation (test_of scope a)
test_of-Not scope a = search (rules, of_conditions)

test_of-Compare : (scope : Scope) (op : Op) (a b : Operand)
    → test_of scope (CompareC op a b) ≡ comparison op (term_of scope a) (term_of scope b)
test_of-Compare scope op a b = search (rules, of_conditions)

test_of-Time : (scope : Scope) (unit : List ℕ) (phase : Operand) (duration : ℤ)
    → test_of scope (TimeC unit phase duration) ≡ timing (unit_length scope.units unit) (term_of scope phase) duration
test_of-Time scope unit phase duration = search (rules, of_conditions)

pub truth-form : (scope : Scope) (condition : Condition) (now : Moment)
    → form_truth (test_of scope condition) now ≡ truth scope condition now
unfolding shape-the_row-Condition-0 hidden-the_row-Condition-0 hidden
truth-form scope (CompareC op a b) now =
    ap (λ f. form_truth f now) (test_of-Compare scope op a b)
    ∙ (λ i. compares op (term-value scope a now i) (term-value scope b now i))
    ∙ sym (truth-Compare scope op a b now)
truth-form scope (AndC' _ (more_of-Condition a end_of-Condition) _ (more_of-Condition b end_of-Condition)) now =
    ap (λ f. form_truth f now) (test_of-And scope a b)
    ∙ (λ i. truth-form scope a now i && truth-form scope b now i)
    ∙ sym (truth-And scope a b now)
truth-form scope (OrC' _ (more_of-Condition a end_of-Condition) _ (more_of-Condition b end_of-Condition)) now =
    ap (λ f. form_truth f now) (test_of-Or scope a b)
    ∙ (λ i. truth-form scope a now i || truth-form scope b now i)
    ∙ sym (truth-Or scope a b now)
truth-form scope (NotC' _ (more_of-Condition a end_of-Condition)) now =
    ap (λ f. form_truth f now) (test_of-Not scope a) ∙ ap not (truth-form scope a now) ∙ sym (truth-Not scope a now)
truth-form scope (TimeC unit phase duration) now =
    ap (λ f. form_truth f now) (test_of-Time scope unit phase duration)
    ∙ ap (λ z. in_unit (unit_length scope.units unit) z duration now.iteration) (term-value scope phase now)
    ∙ sym (truth-Time scope unit phase duration now)

-- a test that is written as a condition answers as the condition holds
pub written-truth : (test : Test) (scope : Scope) (condition : Condition) → form_of test ≡ test_of scope condition
    → (now : Moment) → answer test now ≡ truth scope condition now
written-truth test scope condition is now =
    answer-form test now ∙ ap (λ f. form_truth f now) is ∙ truth-form scope condition now
