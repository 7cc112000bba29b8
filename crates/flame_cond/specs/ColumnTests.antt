-- Comparisons of a column of the row that stand in a test.
use Rattle.std.specs.Prelude.{ℤ, List, Option, Some, None}
use Rattle.std.specs.Option.{option_or}
use Rattle.flame_ops.specs.declared.integers.Op.{Op}
use Rattle.flame_ops.specs.declared.integers.Op.TheVariants.{Lt, Gt, Le, Ge}
use Rattle.flame_spec.specs.Conditions.{number_at}
use Rattle.flame_cond.specs.declared.row_tests.ColumnTest.{ColumnTest}
use Rattle.flame_cond.specs.declared.forms.Term.{Term}
use Rattle.flame_cond.specs.declared.forms.Term.TheVariants.{Number, Memory, Row}
use Rattle.flame_cond.specs.TestForms.{TestForm, comparison, both, either, negation, timing}

-- the operator that says the same of two numbers the other way round [own]
abbrev pub turned : Op → Op
turned Lt = Gt
turned Gt = Lt
turned Le = Ge
turned Ge = Le
turned op = op

-- the comparison that this is with a memory, where one of the two alone is a column of the row [own]
abbrev pub column_test : Op → Term → Term → List ℤ → Option ColumnTest
column_test op (Row column) (Number number) memory = Some (record { column = column; op = op; number = number })
column_test op (Row column) (Memory place) memory =
    Some (record { column = column; op = op; number = number_at memory place })
column_test op (Number number) (Row column) memory =
    Some (record { column = column; op = turned op; number = number })
column_test op (Memory place) (Row column) memory =
    Some (record { column = column; op = turned op; number = number_at memory place })
column_test op _ _ memory = None

-- the first such comparison from the left that a test reaches through AND alone [own]
abbrev pub first_column_test : TestForm → List ℤ → Option ColumnTest
first_column_test (comparison op a b) memory = column_test op a b memory
first_column_test (both left right) memory =
    option_or (first_column_test left memory) (first_column_test right memory)
first_column_test (either left right) memory = None
first_column_test (negation part) memory = None
first_column_test (timing period phase duration) memory = None

-- the comparison that a test is, where it is one and nothing else [own]
abbrev pub only_column_test : TestForm → List ℤ → Option ColumnTest
only_column_test (comparison op a b) memory = column_test op a b memory
only_column_test (both left right) memory = None
only_column_test (either left right) memory = None
only_column_test (negation part) memory = None
only_column_test (timing period phase duration) memory = None
