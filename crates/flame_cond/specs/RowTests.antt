-- Tests of a row alone: what a filter asks of a row, for an agent with a memory that is given.
use Rattle.std.specs.Prelude.{◌≡◌, ℤ, List, Bool, true, ◌&&◌}
use Rattle.flame_spec.specs.Conditions.{number_at, compares}
use Rattle.flame_cond.specs.declared.row_tests.ColumnTest.{ColumnTest}
use Rattle.flame_cond.specs.declared.row_tests.RowTest.{RowTest}
use Rattle.flame_cond.specs.declared.row_tests.RowTest.TheVariants.{Every, Column, ColumnFirst, Whole}
use Rattle.flame_cond.specs.declared.forms.Test.{Test}
use Rattle.flame_cond.specs.Said.{passes}

-- whether the number that a row has in the column compares so with the number [own]
abbrev pub column_passes : ColumnTest → List ℤ → Bool
column_passes test row = compares test.op (number_at row test.column) test.number

-- whether a row passes a test of a row alone [own]
abbrev pub row_passes : RowTest → List ℤ → Bool
row_passes Every row = true
row_passes (Column test) row = column_passes test row
row_passes (ColumnFirst test filter memory) row = column_passes test row && passes filter.now memory.now row
row_passes (Whole filter memory) row = passes filter.now memory.now row

-- the same rows pass as pass the filter with this memory [own]
abbrev pub AsksTheSame : RowTest → Test → List ℤ → Type 0
AsksTheSame test filter memory = (row : List ℤ) → row_passes test row ≡ passes filter memory row
