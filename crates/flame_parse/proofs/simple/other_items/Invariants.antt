use Rattle.std.proofs.Common.{◌-◌, [], ◌∷◌, length, map}
use Rattle.flame_spec.specs.Seen.{declared}
use Rattle.flame_expr.specs.ViablePrefixes.{more_items}
use Rattle.flame_parse.specs.AssignmentOperators.{joins_items}
use Rattle.flame_parse.specs.StatementGrammar.{MoreItems}
use Rattle.flame_parse.proofs.Runs.{RunOn}
use Rattle.flame_parse.proofs.simple.other_items.Given as goal

abbrev pub invariant-items : goal.invariant-items
invariant-items l = RunOn joins_items (more_items ∷ []) MoreItems l.tokens l.fn.at l.place (map declared l.found.items)

abbrev pub decreases-items : goal.decreases-items
decreases-items l = length l.tokens - l.place
