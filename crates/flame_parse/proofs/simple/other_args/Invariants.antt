use Rattle.std.proofs.Common.{◌-◌, [], ◌∷◌, length, map}
use Rattle.flame_spec.specs.Seen.{expression}
use Rattle.flame_expr.specs.ViablePrefixes.{more_args}
use Rattle.flame_parse.specs.AssignmentOperators.{joins_args}
use Rattle.flame_parse.proofs.Runs.{RunOn, ArgsRead}
use Rattle.flame_parse.proofs.simple.other_args.Given as goal

abbrev pub invariant-others : goal.invariant-others
invariant-others l = RunOn joins_args (more_args ∷ []) ArgsRead l.tokens l.fn.at l.place (map expression l.found.items)

abbrev pub decreases-others : goal.decreases-others
decreases-others l = length l.tokens - l.place
