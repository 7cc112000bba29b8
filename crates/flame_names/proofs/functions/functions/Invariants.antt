use Rattle.std.proofs.Common.{◌≡◌, take, drop, map}
use Rattle.flame_spec.specs.Lists.{each_from}
use Rattle.flame_spec.specs.KnownNames.{is_among}
use Rattle.flame_spec.specs.Paths.{at_number}
use Rattle.flame_spec.specs.FunctionFaults.{function_faults, functions_faults}
use Rattle.flame_names.specs.PlacePaths.{text_of}
use Rattle.flame_names.specs.NameLooks.{transition_of}
use Rattle.flame_names.specs.TableScopes.{declared_of}
use Rattle.flame_names.proofs.functions.functions.Given as goal

abbrev pub invariant-loop-i : goal.invariant-loop-i
invariant-loop-i l = record {
  earlier : l.earlier ≡ map transition_of (take l.i l.functions);
  rest :
      functions_faults
      (declared_of l.tables)
      l.memory
      (λ name. is_among name l.shared)
      (text_of l.place)
      l.functions
      ≡ each_from
      (λ i function.
      function_faults
      (declared_of l.tables)
      l.memory
      (λ name. is_among name l.shared)
      (take i l.functions)
      (at_number (text_of l.place) i)
      function)
      l.i
      (drop l.i l.functions);
}
