-- The spellings are made one by one, and no two of them are equal.
use Rattle.std.proofs.Common.{rules, refl}
use Rattle.flame_ops.specs.Spellings.{IsTable}
use Rattle.flame_ops.specs.Words.{operator_spellings}
use Rattle.flame_ops.proofs.Distinct.{IsTable-is_table}
use Rattle.flame_ops.proofs.words.operators.Goals as goal

operators_table : IsTable operator_spellings
operators_table = IsTable-is_table operator_spellings refl

pub of-requires-32 : goal.of-requires-32
of-requires-32 c = (
  search rules,
  (
    search rules,
    simp (
      c.of.ensures,
      c.of-2.ensures,
      c.of-3.ensures,
      c.of-4.ensures,
      c.of-5.ensures,
      c.of-6.ensures,
      c.of-7.ensures,
      c.of-8.ensures,
      c.of-9.ensures,
      c.of-10.ensures,
      c.of-11.ensures,
      c.of-12.ensures,
      c.of-13.ensures,
      c.of-14.ensures,
      c.of-15.ensures,
      c.of-16.ensures,
      c.of-17.ensures,
      c.of-18.ensures,
      c.of-19.ensures,
      c.of-20.ensures,
      c.of-21.ensures,
      c.of-22.ensures,
      c.of-23.ensures,
      c.of-24.ensures,
      c.of-25.ensures,
      c.of-26.ensures,
      c.of-27.ensures,
      c.of-28.ensures,
      c.of-29.ensures,
      c.of-30.ensures,
      c.of-31.ensures,
    ) operators_table,
  ),
)

pub returns-clause-table : goal.returns-clause-table
returns-clause-table c = operators_table
