use Rattle.std.proofs.Common.{◌≡◌, take, drop}
use Rattle.flame_spec.specs.Lists.{each_from}
use Rattle.flame_spec.specs.Paths.{at_number}
use Rattle.flame_spec.specs.FunctionFaults.{read_names, input_faults, inputs_faults}
use Rattle.flame_names.specs.PlacePaths.{text_of}
use Rattle.flame_names.specs.TableScopes.{declared_of}
use Rattle.flame_names.proofs.functions.inputs.Given as goal

abbrev pub invariant-loop-i : goal.invariant-loop-i
invariant-loop-i l = record {
  earlier : l.earlier ≡ read_names (take l.i l.inputs);
  rest :
      inputs_faults (declared_of l.tables) l.memory (text_of l.place) l.inputs
      ≡ each_from
      (λ i input.
      input_faults (declared_of l.tables) l.memory (read_names (take i l.inputs)) (at_number (text_of l.place) i) input)
      l.i
      (drop l.i l.inputs);
}
