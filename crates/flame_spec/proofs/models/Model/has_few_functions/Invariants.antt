use Rattle.std.proofs.Common.{◌≡◌, ◌+◌, ◌*◌, ◌≤◌, length, drop}
use Rattle.flame_spec.specs.Functions.{functions, functions_from}
use Rattle.flame_spec.proofs.models.Model.has_few_functions.Given as goal

abbrev pub invariant-loop-agent : goal.invariant-loop-agent
invariant-loop-agent l = record {
  rest : l.count + length (functions_from l._agent (drop l._agent l.self.agents)) ≡ length (functions l.self);
  small : l.count ≤ l._agent * 9223372036854775808;
}
