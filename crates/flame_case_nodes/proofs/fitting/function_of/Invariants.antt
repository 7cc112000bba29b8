use Rattle.std.proofs.Common.{◌≡◌, drop}
use Rattle.std.specs.Prelude.{slice_get}
use Rattle.flame_spec.specs.Functions.{functions, functions_from}
use Rattle.flame_case_nodes.proofs.fitting.function_of.Given as goal

abbrev pub invariant-loop-number : goal.invariant-loop-number
invariant-loop-number l =
    slice_get (functions l.model) l.function ≡ slice_get (functions_from l.number (drop l.number l.model.agents)) l.left
