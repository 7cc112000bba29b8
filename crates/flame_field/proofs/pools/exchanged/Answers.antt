use Rattle.flame_field.specs.KeptPools.{pool_bag}
use Rattle.std.proofs.Common.{ap}
use Rattle.flame_field.proofs.Changed.{map-written}
use Rattle.flame_field.proofs.pools.exchanged.Goals as goal

pub returns-clause-put : goal.returns-clause-put
returns-clause-put c =
    map-written pool_bag (λ old. pool_bag c.args.pool) c.args.pools.now.items c.args.state c.index_mut.result.now _ c.requires
    c.index_mut.ensures.value (ap pool_bag c.replace.ensures.after)
