use Rattle.std.proofs.Common.{List, Vec, map, subst, sym}
use Rattle.std.specs.Global.{Global}
use Rattle.flame_field.specs.declared.pools.Pool.{Pool}
use Rattle.flame_field.specs.KeptPools.{pool_bags}
use Rattle.flame_round.specs.KeptRounds.{HasRoute}
use Rattle.flame_layerrun.proofs.choosing.choose_all.Goals as goal

pub pool_of-requires : goal.pool_of-requires
pool_of-requires g c =
    let P : List (Vec Pool Global) → Type 0 = λ pools. HasRoute (map pool_bags pools) c.args.route.now in
    let has : P c.as_slice.result.now = subst P (sym c.as_slice.ensures.value) c.requires.pools in
    has.from
