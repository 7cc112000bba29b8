-- The second part of two.
use Rattle.std.proofs.Common.{rules}
use Rattle.flame_spec.specs.declared.conditions.Condition.{the_lemmas}
use Rattle.flame_cond.proofs.Lengths.{second_of_both, second_of_either}
use Rattle.flame_cond.proofs.reading.+test.Goals as goal

pub test-requires-in-And : goal.test-requires-in-And
test-requires-in-And t c = (
  search (rules, the_lemmas),
  (
    second_of_both c.args.units.now _ _ _ _ c.in-And.is c.deref-in-And.ensures c.requires.lengths,
    (c.requires.periods, (c.requires.memory_fits, c.requires.message_fits)),
  ),
)

pub test-requires-in-Or-2 : goal.test-requires-in-Or-2
test-requires-in-Or-2 t c = (
  search (rules, the_lemmas),
  (
    second_of_either c.args.units.now _ _ _ _ c.in-Or.is c.deref-in-Or-2.ensures c.requires.lengths,
    (c.requires.periods, (c.requires.memory_fits, c.requires.message_fits)),
  ),
)
