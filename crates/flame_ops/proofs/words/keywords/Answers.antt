-- The spellings are made one by one, and no two of them are equal.
use Rattle.std.proofs.Common.{rules, refl}
use Rattle.flame_ops.specs.Spellings.{IsTable}
use Rattle.flame_ops.specs.Words.{keyword_spellings}
use Rattle.flame_ops.proofs.Distinct.{IsTable-is_table}
use Rattle.flame_ops.proofs.words.keywords.Goals as goal

keywords_table : IsTable keyword_spellings
keywords_table = IsTable-is_table keyword_spellings refl

pub of-requires-11 : goal.of-requires-11
of-requires-11 c = (
  search rules,
  (
    search rules,
    simp (
      c.of.ensures,
      c.of-2.ensures,
      c.of-3.ensures,
      c.of-4.ensures,
      c.of-5.ensures,
      c.of-6.ensures,
      c.of-7.ensures,
      c.of-8.ensures,
      c.of-9.ensures,
      c.of-10.ensures,
    ) keywords_table,
  ),
)

pub returns-clause-table : goal.returns-clause-table
returns-clause-table c = keywords_table
