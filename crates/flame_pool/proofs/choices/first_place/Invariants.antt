use Rattle.std.proofs.Common.{◌≡◌, ◌+◌, drop}
use Rattle.flame_pool.specs.Choosing.{first_place}
use Rattle.flame_pool.proofs.choices.first_place.Given as goal

abbrev pub invariant-loop-function : goal.invariant-loop-function
invariant-loop-function l = record {
  counts : l.place ≡ l.function-index;
  rest : first_place l.conditions l.functions l.iteration l.memory
      ≡ l.place + first_place l.conditions (drop l.function-index l.functions) l.iteration l.memory;
}
