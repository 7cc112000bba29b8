use mir.Syntax.{w32}
use mir.Val.{SFits}
use Rattle.std.proofs.Common.{rules}
use Rattle.std.proofs.lemmas.Int.{to_z-of_z}
use Rattle.flame_machine.proofs.Pops.{operated}
use Rattle.flame_machine.proofs.steps.operate.Goals as goal

pub returns-clause-does : goal.returns-clause-does
returns-clause-does c =
    let right : SFits w32 c.pop-right.result = search rules in
    let left : SFits w32 c.pop-left.result = search rules in
    let same = rw (to_z-of_z w32 c.pop-right.result right, to_z-of_z w32 c.pop-left.result left) at c.apply.ensures in
    operated _ _ _ _ _ _ c.args.op c.args.line _ _ c.pop-right.ensures.stack c.pop-left.ensures.stack same c.held.ensures.does
