-- A comparison that is all of the filter, or the first of several that a row has to pass.
use Rattle.std.proofs.Common.{◌≡◌, Some, rules}
use Rattle.flame_cond.specs.TestForms.{form_of}
use Rattle.flame_cond.specs.ColumnTests.{first_column_test, only_column_test}
use Rattle.flame_cond.proofs.RowTruths.{first_column, only_column}
use Rattle.flame_cond.proofs.filters.Filter.row_test.Goals as goal

pub returns-in-Some : goal.returns-in-Some
returns-in-Some c =
    let only : only_column_test (form_of c.args.self.now) c.args.memory.now ≡ Some c.in-Some.test = search rules in
    only_column c.args.self.now c.args.memory.now c.in-Some.test only

pub returns-in-Some-first_column_test : goal.returns-in-Some-first_column_test
returns-in-Some-first_column_test c =
    let test = c.in-Some-first_column_test.test in
    let first : first_column_test (form_of c.args.self.now) c.args.memory.now ≡ Some test = search rules in
    first_column c.args.self.now c.args.memory.now test first
