use Rattle.std.proofs.Common.{◌-◌, [], ◌∷◌, length, map}
use Rattle.flame_expr.specs.ViablePrefixes.{form, many, a_def}
use Rattle.flame_parse.specs.StatementGrammar.{Definitions}
use Rattle.flame_parse.specs.Parsing.{defined, joins_unit}
use Rattle.flame_parse.proofs.Runs.{RunOn}
use Rattle.flame_parse.proofs.unit.definitions.Given as goal

abbrev pub invariant-units : goal.invariant-units
invariant-units l = RunOn joins_unit (many (form a_def) ∷ []) Definitions l.tokens l.fn.at l.place (map defined l.found.items)

abbrev pub decreases-units : goal.decreases-units
decreases-units l = length l.tokens - l.place
