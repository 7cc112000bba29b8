-- The source can be numbered.
use Rattle.std.proofs.Common.{◌∙◌, sym}
use Rattle.flame_program.proofs.parts.parts_of.Goals as goal

pub parts_by-requires-clause-counted : goal.parts_by-requires-clause-counted
parts_by-requires-clause-counted c = sym c.is_counted.ensures ∙ c.if-not-is_counted.false
