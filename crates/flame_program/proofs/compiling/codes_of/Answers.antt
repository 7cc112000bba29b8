use Rattle.std.proofs.Common.{◌∙◌, sym}
use Rattle.flame_program.proofs.Codings.{all-coded}
use Rattle.flame_program.proofs.compiling.codes_of.Goals as goal

pub returns : goal.returns
returns c =
    let none = sym c.loop-body.invariant.counted ∙ c.in-None.ensures.steps.0 in
    all-coded c.args.bodies _ _ c.loop-body.invariant.coded none
