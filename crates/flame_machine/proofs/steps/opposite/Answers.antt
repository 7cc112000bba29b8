use mir.Syntax.{w32}
use mir.Val.{SFits}
use Rattle.std.proofs.Common.{rules}
use Rattle.std.proofs.lemmas.Int.{to_z-of_z}
use Rattle.flame_machine.proofs.Pops.{negated_top}
use Rattle.flame_machine.proofs.steps.opposite.Goals as goal

pub returns-clause-does : goal.returns-clause-does
returns-clause-does c given w =
    let fits : SFits w32 c.pop-value.result = search rules in
    let same = rw (to_z-of_z w32 c.pop-value.result fits) at c.negate.ensures in
    negated_top given w _ _ _ _ c.args.line _ _ c.pop-value.ensures.stack same c.held.ensures.does
