use Rattle.std.proofs.Common.{◌≡◌, map, take}
use Rattle.flame_body.specs.FunctionBodies.{input_width}
use Rattle.flame_check.proofs.rows.Rows.of_inputs.Given as goal

abbrev pub invariant-loop-input : goal.invariant-loop-input
invariant-loop-input l = l.widths.items ≡ map (input_width l.self) (take l.input-index l.inputs)
