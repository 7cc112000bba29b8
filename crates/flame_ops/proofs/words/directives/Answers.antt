-- The spellings are made one by one, and no two of them are equal.
use Rattle.std.proofs.Common.{rules, refl}
use Rattle.flame_ops.specs.Spellings.{IsTable}
use Rattle.flame_ops.specs.Words.{directive_spellings}
use Rattle.flame_ops.proofs.Distinct.{IsTable-is_table}
use Rattle.flame_ops.proofs.words.directives.Goals as goal

directives_table : IsTable directive_spellings
directives_table = IsTable-is_table directive_spellings refl

pub of-requires-3 : goal.of-requires-3
of-requires-3 c = (
  search rules,
  (
    search rules,
    simp (
      c.of.ensures,
      c.of-2.ensures,
    ) directives_table,
  ),
)

pub returns-clause-table : goal.returns-clause-table
returns-clause-table c = directives_table
