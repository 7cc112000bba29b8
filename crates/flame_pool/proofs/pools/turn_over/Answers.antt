use Rattle.std.proofs.Common.{◌∙◌, sym}
use Rattle.std.proofs.lemmas.Result.{IfOk-weaker}
use Rattle.flame_pool.proofs.Joining.{joined-all}
use Rattle.flame_pool.proofs.pools.turn_over.Goals as goal

pub returns : goal.returns
returns c =
    let none = sym c.loop-pool.invariant.counted ∙ c.in-None.ensures.steps.0 in
    let all = joined-all c.args.born _ c.args.pools _ c.loop-pool.invariant.joined none in
    IfOk-weaker c.of_rows.result _ _ (λ bag is. is ∙ all) c.of_rows.ensures
