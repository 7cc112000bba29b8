-- Tests of rows by columns: the forms in which conditions are kept once they are read.
use Rattle.std.specs.Prelude.{ℤ, List, Bool, not, ◌&&◌, ◌||◌}
use Rattle.flame_spec.specs.declared.models.TimeUnit.{TimeUnit}
use Rattle.flame_spec.specs.declared.models.Variable.{Variable}
use Rattle.flame_spec.specs.Conditions.{Scope, Moment, number_at, compares, in_time}
use Rattle.flame_cond.specs.declared.forms.Term.{Term}
use Rattle.flame_cond.specs.declared.forms.Term.TheVariants.{Number, Memory, Row}
use Rattle.flame_cond.specs.declared.forms.Test.{Test, fold-Test}
use Rattle.flame_cond.specs.declared.forms.Test.TheOpen.{Test-F}

-- what a test is asked about: a memory, a message's row and an iteration [own]
abbrev pub moment : List ℤ → List ℤ → ℤ → Moment
moment memory row iteration = record { memory = memory; row = row; iteration = iteration }

-- what names stand for: variables of the memory, variables of the message, and time units [own]
abbrev pub names : List Variable → List Variable → List TimeUnit → Scope
names memory message units = record { memory = memory; message = message; units = units }

-- the number that is compared [own]
abbrev pub term_value : Term → Moment → ℤ
term_value (Number number) now = number
term_value (Memory column) now = number_at now.memory column
term_value (Row column) now = number_at now.row column

-- whether a form holds, where its parts tell whether they do [own]
abbrev pub answer_step : Test-F (Moment → Bool) → Moment → Bool
answer_step (Test-F.Compare op a b) now = compares op (term_value a now) (term_value b now)
answer_step (Test-F.And left right) now = left now && right now
answer_step (Test-F.Or left right) now = left now || right now
answer_step (Test-F.Not part) now = not (part now)
answer_step (Test-F.Time period phase duration) now =
    in_time period.length (term_value phase now) duration now.iteration

-- whether the test holds [own]
abbrev pub answer : Test → Moment → Bool
answer = fold-Test (Moment → Bool) answer_step
