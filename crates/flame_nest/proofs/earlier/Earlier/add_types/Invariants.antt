use Rattle.std.proofs.Common.{◌≡◌, map, take}
use Rattle.std.specs.List.{fold}
use Rattle.flame_nest.specs.NestFaults.{of_type}
use Rattle.flame_nest.specs.GivenTables.{with_declaration}
use Rattle.flame_nest.proofs.earlier.Earlier.add_types.Given as goal

abbrev pub invariant-loop-declared : goal.invariant-loop-declared
invariant-loop-declared l =
    l.self ≡ fold with_declaration l.fn.self (map of_type (take l.declared-index l.types))
