use Rattle.std.proofs.Common.{◌≡◌, ◌+◌, ◌*◌, ◌≤◌, drop}
use Rattle.flame_spec.specs.Columns.{width}
use Rattle.flame_spec.proofs.counted.width.Given as goal

abbrev pub invariant-loop-i : goal.invariant-loop-i
invariant-loop-i l = record {
  rest : l.total + width (drop l._i l.variables) ≡ width l.variables;
  small : l.total ≤ l._i * 4294967296;
}
