use Rattle.std.proofs.Common.{◌≡◌, take}
use Rattle.flame_pool.specs.Choosing.{choices_of}
use Rattle.flame_pool.proofs.choices.choose_rows.Given as goal

abbrev pub invariant-loop-memory : goal.invariant-loop-memory
invariant-loop-memory l =
    l.choices.items ≡ choices_of l.conditions l.functions l.iteration (take l.memory-index l.pool)
