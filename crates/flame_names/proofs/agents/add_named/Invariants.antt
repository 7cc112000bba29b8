use Rattle.std.proofs.Common.{◌≡◌, take, drop, map}
use Rattle.flame_spec.specs.Lists.{each_from}
use Rattle.flame_ops.specs.Ascii.{capitals}
use Rattle.flame_spec.specs.KnownNames.{variable_names}
use Rattle.flame_spec.specs.Paths.{at_number}
use Rattle.flame_spec.specs.NameFaults.{memory_variable_faults, memory_faults}
use Rattle.flame_names.specs.PlacePaths.{text_of}
use Rattle.flame_names.proofs.agents.add_named.Given as goal

abbrev pub invariant-loop-i : goal.invariant-loop-i
invariant-loop-i l = record {
  earlier : l.earlier ≡ take l.i l.variables;
  own : l.own ≡ map capitals (variable_names (take l.i l.variables));
  rest :
      memory_faults l.constants (text_of l.place) l.variables
      ≡ each_from
      (λ i variable.
      memory_variable_faults
      l.constants
      (take i l.variables)
      (at_number (text_of l.place) i)
      variable)
      l.i
      (drop l.i l.variables);
}
