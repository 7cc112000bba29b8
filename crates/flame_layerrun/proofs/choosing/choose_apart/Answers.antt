use Rattle.std.proofs.Common.{◌≡◌, ◌∙◌, ap, arith, length, refl, []}
use Rattle.std.specs.Prelude.{slice_index_or}
use Rattle.std.proofs.lemmas.Result.{IfOk-weaker}
use Rattle.flame_world.specs.Fields.{changed_pool, pool_in}
use Rattle.flame_world.proofs.Changing.{changed_pool-same}
use Rattle.flame_field.specs.KeptPools.{pool_bag, pools_of}
use Rattle.flame_field.proofs.Changed.{changed_pool-again, changed_pool-length, changed_pool-to}
use Rattle.flame_round.specs.Choices.{choice_at}
use Rattle.flame_round.proofs.Chosen.{have-chosen}
use Rattle.flame_layerrun.proofs.choosing.choose_apart.Goals as goal

pub exchange-requires : goal.exchange-requires
exchange-requires g c =
    let route = c.args.route.now in
    omega (
      arith,
      c.requires.pools.from,
      ap (λ pools. length (slice_index_or pools route.agent [])) c.exchange-pool.ensures.put,
      changed_pool-length route.agent route.from (λ old. pool_bag c.empty.result) (pools_of c.args.pools.now) route.agent,
    )

pub returns-clause-same : goal.returns-clause-same
returns-clause-same g c =
    let route = c.args.route.now in
    let pools = pools_of c.args.pools.now in
    let same : pool_bag c.deal-dealt.new.pool ≡ pool_in pools route.agent route.from =
    c.deal-dealt.ensures.bag ∙ c.exchange-pool.ensures.back in
    c.exchange.ensures.put
    ∙ (λ i. changed_pool route.agent route.from (λ old. same i) (c.exchange-pool.ensures.put i))
    ∙ changed_pool-again route.agent route.from (pool_bag c.empty.result) (pool_in pools route.agent route.from) pools
    ∙ changed_pool-to route.agent route.from (λ pool. pool) pools
    ∙ changed_pool-same (λ pool. pool) route.agent route.from pools refl

pub returns-clause-dealt : goal.returns-clause-dealt
returns-clause-dealt g c before =
    let round = c.args.round.now in
    let route = c.args.route.now in
    let choose = choice_at round.program.now.model round.iteration in
    c.exchange.ensures.stay_dealt choose
    (c.exchange-pool.ensures.stay_dealt choose before (c.empty.ensures.dealt (choose route.agent route.from)))
    (c.deal-dealt.ensures.dealt (c.exchange-pool.ensures.dealt choose before))

pub returns-clause-chosen : goal.returns-clause-chosen
returns-clause-chosen g c =
    IfOk-weaker c.deal-dealt.result _ _
    (λ done none. have-chosen c.exchange.new.pools c.args.route.now.agent c.args.route.now.from c.deal-dealt.new.pool c.exchange.ensures.placed none)
    c.deal-dealt.ensures.all
