use Rattle.std.proofs.Common.{◌≡◌, Some, length, refl}
use Rattle.std.specs.Prelude.{slice_get}
use Rattle.std.proofs.lemmas.Option.{slice_get_read}
use Rattle.flame_world.specs.Fields.{changed}
use Rattle.flame_field.specs.KeptPools.{pool_bag, pool_bags}
use Rattle.flame_field.proofs.Changed.{map-written, within_list}
use Rattle.flame_field.proofs.PoolsAt.{pool-dealt, pool-kept, pool-others, pool-placed}
use Rattle.flame_field.proofs.pools.exchange.Goals as goal

pub returns-clause-put : goal.returns-clause-put
returns-clause-put c =
    map-written pool_bags (changed c.args.state (λ old. pool_bag c.args.pool)) c.args.pools.now.items c.args.agent
    c.index_mut.result.now _ (within_list pool_bags c.args.pools.now.items c.args.agent c.args.state c.requires)
    c.index_mut.ensures.value c.exchanged.ensures.put

pub returns-clause-kept : goal.returns-clause-kept
returns-clause-kept c =
    let pools = c.args.pools.now.items in
    let own : slice_get pools c.args.agent ≡ Some c.index_mut.result.now =
    slice_get_read pools (length pools) c.args.agent c.index_mut.result.now refl (within_list pool_bags pools c.args.agent c.args.state c.requires) c.index_mut.ensures.value in
    pool-kept pools c.args.agent c.args.state c.index_mut.result.now c.exchanged.new.pools c.exchanged.result c.args.pool own
    c.exchanged.ensures.was c.exchanged.ensures.now

pub returns-clause-placed : goal.returns-clause-placed
returns-clause-placed c =
    let pools = c.args.pools.now.items in
    let own : slice_get pools c.args.agent ≡ Some c.index_mut.result.now =
    slice_get_read pools (length pools) c.args.agent c.index_mut.result.now refl (within_list pool_bags pools c.args.agent c.args.state c.requires) c.index_mut.ensures.value in
    pool-placed pools c.args.agent c.args.state c.index_mut.result.now c.exchanged.new.pools c.exchanged.result c.args.pool own
    c.exchanged.ensures.was c.exchanged.ensures.now

pub returns-clause-others : goal.returns-clause-others
returns-clause-others c =
    let pools = c.args.pools.now.items in
    let own : slice_get pools c.args.agent ≡ Some c.index_mut.result.now =
    slice_get_read pools (length pools) c.args.agent c.index_mut.result.now refl (within_list pool_bags pools c.args.agent c.args.state c.requires) c.index_mut.ensures.value in
    pool-others pools c.args.agent c.args.state c.index_mut.result.now c.exchanged.new.pools c.exchanged.result c.args.pool own
    c.exchanged.ensures.was c.exchanged.ensures.now

pub returns-clause-dealt : goal.returns-clause-dealt
returns-clause-dealt c choose dealt =
    let pools = c.args.pools.now.items in
    let own : slice_get pools c.args.agent ≡ Some c.index_mut.result.now =
    slice_get_read pools (length pools) c.args.agent c.index_mut.result.now refl (within_list pool_bags pools c.args.agent c.args.state c.requires) c.index_mut.ensures.value in
    dealt c.args.agent c.args.state c.exchanged.result
    (pool-kept pools c.args.agent c.args.state c.index_mut.result.now c.exchanged.new.pools c.exchanged.result c.args.pool own
    c.exchanged.ensures.was c.exchanged.ensures.now)

pub returns-clause-stay_dealt : goal.returns-clause-stay_dealt
returns-clause-stay_dealt c choose dealt here =
    let pools = c.args.pools.now.items in
    let own : slice_get pools c.args.agent ≡ Some c.index_mut.result.now =
    slice_get_read pools (length pools) c.args.agent c.index_mut.result.now refl (within_list pool_bags pools c.args.agent c.args.state c.requires) c.index_mut.ensures.value in
    pool-dealt pools c.args.agent c.args.state c.index_mut.result.now c.exchanged.new.pools c.exchanged.result c.args.pool own
    c.exchanged.ensures.was c.exchanged.ensures.now choose dealt here
