-- Each way out and each call, by the laws of the tree.
use Rattle.std.proofs.Common.{rules}
use Rattle.flame_spec.specs.declared.conditions.Condition.{the_lemmas}
use Rattle.flame_spec.proofs.same_data.ConditionSame.+same.Goals as goal

pub eq-requires : goal.eq-requires
eq-requires t c κs = search (rules, the_lemmas)

pub same-requires : goal.same-requires
same-requires t c = search (rules, the_lemmas)

pub same-requires-then-same : goal.same-requires-then-same
same-requires-then-same t c = search (rules, the_lemmas)

pub same-requires-in-And-And : goal.same-requires-in-And-And
same-requires-in-And-And t c κs = search (rules, the_lemmas)

pub same-requires-then-same-2 : goal.same-requires-then-same-2
same-requires-then-same-2 t c κs = search (rules, the_lemmas)

pub same-requires-in-Or-Or : goal.same-requires-in-Or-Or
same-requires-in-Or-Or t c κs = search (rules, the_lemmas)

pub same-requires-then-same-3 : goal.same-requires-then-same-3
same-requires-then-same-3 t c κs = search (rules, the_lemmas)

pub same-requires-in-Not-Not : goal.same-requires-in-Not-Not
same-requires-in-Not-Not t c κs = search (rules, the_lemmas)

pub same-requires-in-Time-Time : goal.same-requires-in-Time-Time
same-requires-in-Time-Time t c = search (rules, the_lemmas)

pub same-requires-then-same-4 : goal.same-requires-then-same-4
same-requires-then-same-4 t c = search (rules, the_lemmas)

pub returns-then-same : goal.returns-then-same
returns-then-same t c = search (rules, the_lemmas)

pub returns-else-same : goal.returns-else-same
returns-else-same t c = search (rules, the_lemmas)

pub returns-then-same-2 : goal.returns-then-same-2
returns-then-same-2 t c = search (rules, the_lemmas)

pub returns-else-same-2 : goal.returns-else-same-2
returns-else-same-2 t c = search (rules, the_lemmas)

pub returns-then-same-3 : goal.returns-then-same-3
returns-then-same-3 t c = search (rules, the_lemmas)

pub returns-else-same-3 : goal.returns-else-same-3
returns-else-same-3 t c = search (rules, the_lemmas)

pub returns-in-Not-Not : goal.returns-in-Not-Not
returns-in-Not-Not t c = search (rules, the_lemmas)

pub returns-then-same-5 : goal.returns-then-same-5
returns-then-same-5 t c = search (rules, the_lemmas)

pub returns-else-same-5 : goal.returns-else-same-5
returns-else-same-5 t c = search (rules, the_lemmas)

pub returns-in_default : goal.returns-in_default
returns-in_default t c = search (rules, the_lemmas)

pub returns-in_default-2 : goal.returns-in_default-2
returns-in_default-2 t c = search (rules, the_lemmas)

pub returns-in_default-3 : goal.returns-in_default-3
returns-in_default-3 t c = search (rules, the_lemmas)

pub returns-in_default-4 : goal.returns-in_default-4
returns-in_default-4 t c = search (rules, the_lemmas)

pub returns-in_default-5 : goal.returns-in_default-5
returns-in_default-5 t c = search (rules, the_lemmas)
