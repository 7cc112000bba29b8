use Rattle.std.proofs.Common.{◌≡◌, take, drop}
use Rattle.flame_spec.specs.Lists.{each_from}
use Rattle.flame_spec.specs.Paths.{at_number}
use Rattle.flame_spec.specs.MessageFaults.{variable_faults, variables_faults}
use Rattle.flame_names.specs.PlacePaths.{text_of}
use Rattle.flame_names.proofs.messages.variables.Given as goal

abbrev pub invariant-loop-i : goal.invariant-loop-i
invariant-loop-i l = record {
  earlier : l.earlier ≡ take l.i l.variables;
  rest :
      variables_faults (text_of l.place) l.variables
      ≡ each_from
      (λ i variable. variable_faults (take i l.variables) (at_number (text_of l.place) i) variable)
      l.i
      (drop l.i l.variables);
}
