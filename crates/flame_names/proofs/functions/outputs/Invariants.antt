use Rattle.std.proofs.Common.{◌≡◌, take, drop}
use Rattle.flame_spec.specs.Lists.{each_from}
use Rattle.flame_spec.specs.Paths.{at_number}
use Rattle.flame_spec.specs.FunctionFaults.{use_faults, outputs_faults}
use Rattle.flame_names.specs.PlacePaths.{text_of}
use Rattle.flame_names.specs.TableScopes.{declared_of}
use Rattle.flame_names.proofs.functions.outputs.Given as goal

abbrev pub invariant-loop-i : goal.invariant-loop-i
invariant-loop-i l = record {
  earlier : l.earlier ≡ take l.i l.outputs;
  rest :
      outputs_faults (declared_of l.tables) (text_of l.place) l.outputs
      ≡ each_from
      (λ i name. use_faults (declared_of l.tables) (take i l.outputs) (at_number (text_of l.place) i) name)
      l.i
      (drop l.i l.outputs);
}
