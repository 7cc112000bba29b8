-- The forms of tests: conditions with columns for names and lengths for units.
use Rattle.std.specs.Prelude.{ℤ, Option, Some}
use Rattle.flame_ops.specs.declared.integers.Op.{Op}
use Rattle.flame_spec.specs.declared.conditions.Condition.{Condition, fold-Condition}
use Rattle.flame_spec.specs.declared.conditions.Condition.TheOpen.{Condition-F}
use Rattle.flame_spec.specs.declared.conditions.Operand.{Operand}
use Rattle.flame_spec.specs.declared.conditions.Operand.TheVariants.{Number, Agent, Message}
use Rattle.flame_spec.specs.Columns.{column}
use Rattle.flame_spec.specs.TimeUnits.{unit_length}
use Rattle.flame_spec.specs.Conditions.{Scope}
use Rattle.flame_cond.specs.declared.forms.Term.{Term}
use Rattle.flame_cond.specs.declared.forms.Term.TheVariants.{Number as Literal, Memory, Row}
use Rattle.flame_cond.specs.declared.forms.Test.{Test, fold-Test}
use Rattle.flame_cond.specs.declared.forms.Test.TheOpen.{Test-F}

-- a test, part by part: a comparison, two that both hold, two of which one holds, one that does not hold, and a time
-- condition with the length of its unit, its phase and its duration [own]
pub data TestForm : Type 0 where
  comparison : Op → Term → Term → TestForm
  both : TestForm → TestForm → TestForm
  either : TestForm → TestForm → TestForm
  negation : TestForm → TestForm
  timing : Option ℤ → Term → ℤ → TestForm

-- the form of a test by those of its parts [own]
abbrev pub form_step : Test-F TestForm → TestForm
form_step (Test-F.Compare op a b) = comparison op a b
form_step (Test-F.And left right) = both left right
form_step (Test-F.Or left right) = either left right
form_step (Test-F.Not part) = negation part
form_step (Test-F.Time period phase duration) = timing (Some period.length) phase duration

-- the form of a test [own]
abbrev pub form_of : Test → TestForm
form_of = fold-Test TestForm form_step

-- what is compared: a number, or the column of the variable of that name [FLAME User Manual]
abbrev pub term_of : Scope → Operand → Term
term_of scope (Number number) = Literal number
term_of scope (Agent name) = Memory (column name scope.memory)
term_of scope (Message name) = Row (column name scope.message)

-- the test that a form of a condition stands for, by those of its parts [own]
abbrev pub test_step : Scope → Condition-F TestForm → TestForm
test_step scope (Condition-F.Compare op a b) = comparison op (term_of scope a) (term_of scope b)
test_step scope (Condition-F.And left right) = both left right
test_step scope (Condition-F.Or left right) = either left right
test_step scope (Condition-F.Not part) = negation part
test_step scope (Condition-F.Time unit phase duration) =
    timing (unit_length scope.units unit) (term_of scope phase) duration

-- the test that a condition stands for: the condition as it is written, with columns for names and lengths for units
-- [own]
abbrev pub test_of : Scope → Condition → TestForm
test_of scope = fold-Condition TestForm (test_step scope)
