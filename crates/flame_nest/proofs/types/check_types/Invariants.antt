use Rattle.std.proofs.Common.{◌≡◌, take, drop}
use Rattle.flame_spec.specs.Lists.{each_from}
use Rattle.flame_nest.specs.FlatModels.{with_new}
use Rattle.flame_nest.specs.NestFaults.{meant_by, type_names, type_faults, types_faults}
use Rattle.flame_nest.specs.GivenTables.{given_in}
use Rattle.flame_nest.proofs.types.check_types.Given as goal

abbrev pub invariant-loop-declared : goal.invariant-loop-declared
invariant-loop-declared l = record {
  here : l.here ≡ type_names (take l.declared-index l.types);
  kinds : l.kinds ≡ with_new (λ type. type.name) l.fn.kinds (take l.declared-index l.types);
  rest :
      types_faults l.file (given_in l.earlier) l.fn.kinds l.types
      ≡ each_from
      (λ i type.
      type_faults
      l.file
      (given_in l.earlier)
      (type_names (take i l.types))
      (meant_by (with_new (λ type. type.name) l.fn.kinds (take i l.types)))
      type)
      l.declared-index
      (drop l.declared-index l.types);
}
