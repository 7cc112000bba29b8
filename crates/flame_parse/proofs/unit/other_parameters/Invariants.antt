use Rattle.std.proofs.Common.{◌-◌, [], ◌∷◌, length}
use Rattle.flame_expr.specs.ViablePrefixes.{more_parameters}
use Rattle.flame_parse.specs.AssignmentOperators.{joins_parameters}
use Rattle.flame_parse.specs.StatementGrammar.{MoreParameters}
use Rattle.flame_parse.proofs.Runs.{RunOn}
use Rattle.flame_parse.proofs.unit.other_parameters.Given as goal

abbrev pub invariant-others : goal.invariant-others
invariant-others l = RunOn joins_parameters (more_parameters ∷ []) MoreParameters l.tokens l.fn.at l.place l.found.items

abbrev pub decreases-others : goal.decreases-others
decreases-others l = length l.tokens - l.place
