use Rattle.std.proofs.Common.{◌≡◌, drop}
use Rattle.flame_spec.specs.KnownNames.{variables_in}
use Rattle.flame_case_nodes.proofs.fitting.variables_of.Given as goal

abbrev pub invariant-loop-message : goal.invariant-loop-message
invariant-loop-message l = variables_in (drop l.message-index l.messages) l.name ≡ variables_in l.messages l.name
