use Rattle.std.proofs.Common.{◌∙◌, ap}
use Rattle.std.proofs.lemmas.Result.{IfOk-weaker}
use Rattle.flame_rows.specs.Bags.{merge}
use Rattle.flame_field.specs.KeptGatherings.{bag_of}
use Rattle.flame_field.specs.KeptPools.{pool_bags}
use Rattle.flame_round.proofs.Collected.{collected-and}
use Rattle.flame_round.proofs.closing.all_of.Goals as goal

pub returns : goal.returns
returns c =
    let born = bag_of c.args.born in
    IfOk-weaker c.into_bag.result _ _
    (λ bag is.
    is ∙ c.in_ok-add_all.ensures.ok ∙ ap (λ rows. merge rows born) c.in_ok-all.ensures
    ∙ collected-and (pool_bags c.args.pools) born)
    c.into_bag.ensures
