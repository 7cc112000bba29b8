use Rattle.std.proofs.Common.{◌≡◌, ◌∙◌, ap, arith, length, refl, sym, [], Option, List}
use Rattle.std.specs.Prelude.{ℤ, ◌==◌, not, slice_index_or}
use Rattle.std.specs.Option.{option_map_or}
use Rattle.std.specs.List.{filter}
use Rattle.flame_spec.specs.Choice.{takers}
use Rattle.flame_spec.specs.Functions.{Place}
use Rattle.flame_spec.specs.States.{state_place}
use Rattle.flame_world.specs.Fields.{changed_pool, pool_in}
use Rattle.flame_world.specs.Iterations.{staying}
use Rattle.flame_field.specs.declared.gatherings.Gathering.{Gathering}
use Rattle.flame_field.specs.declared.pools.Pool.{Pool}
use Rattle.flame_field.specs.KeptPools.{chosen_at, pool_bag, pools_of}
use Rattle.flame_field.proofs.Changed.{changed_pool-again, changed_pool-length, changed_pool-to}
use Rattle.flame_round.specs.Choices.{choice_at}
use Rattle.flame_round.proofs.Chosen.{chosen-stay, others-left, takers-left}
use Rattle.flame_round.proofs.Stepped.{one-place}
use Rattle.flame_round.proofs.parting.leave.Goals as goal

pub take-takers-requires : goal.take-takers-requires
take-takers-requires c =
    c.requires.chosen c.exchange-pool.result c.exchange-pool.ensures.kept

pub exchange-requires : goal.exchange-requires
exchange-requires c =
    let route = c.args.route.now in
    omega (
      arith,
      c.requires.pools.from,
      ap (λ pools. length (slice_index_or pools route.agent [])) c.exchange-pool.ensures.put,
      changed_pool-length route.agent route.from (λ old. pool_bag c.empty.result) (pools_of c.args.pools.now) route.agent,
    )

pub returns-clause-count : goal.returns-clause-count
returns-clause-count c =
    c.take-takers.ensures.count
    ∙ ap (λ (found : Option Pool). option_map_or (λ pool. length (chosen_at pool c.args.route.now.choice)) found 0)
    (sym c.exchange-pool.ensures.kept)

pub returns-clause-takers : goal.returns-clause-takers
returns-clause-takers c round function place field goes there dealt pools =
    let model = round.source.model in
    let route = c.args.route.now in
    let own = goes.place in
    let choose = choice_at model round.iteration in
    let same = one-place model function own place goes.there there in
    let rests : pool_bag c.exchange-pool.result ≡ pool_in field.pools place.agent (state_place place.type place.function.current) =
    c.exchange-pool.ensures.back
    ∙ (λ i. pool_in (sym pools i) (goes.routed.agent i) (goes.routed.from i))
    ∙ ap (λ (p : Place). pool_in field.pools p.agent (state_place p.type p.function.current)) same in
    c.take-takers.ensures.takers (choose route.agent route.from) (c.exchange-pool.ensures.dealt choose dealt)
    ∙ ap (filter (λ (memory : List ℤ). choose route.agent route.from memory == route.choice)) rests
    ∙ takers-left model function route goes place round.iteration (pool_in field.pools place.agent (state_place place.type place.function.current)) there

pub returns-clause-others : goal.returns-clause-others
returns-clause-others c round function place goes there dealt =
    let model = round.source.model in
    let route = c.args.route.now in
    let own = goes.place in
    let choose = choice_at model round.iteration in
    let pools = pools_of c.args.pools.now in
    let stay : List (List ℤ) → List (List ℤ) = staying round function place in
    let others : pool_bag c.take-takers.new.self ≡ stay (pool_in pools route.agent route.from) =
    c.take-takers.ensures.others (choose route.agent route.from) (c.exchange-pool.ensures.dealt choose dealt)
    ∙ ap (filter (λ (memory : List ℤ). not (choose route.agent route.from memory == route.choice))) c.exchange-pool.ensures.back
    ∙ others-left model function route goes place round.iteration (pool_in pools route.agent route.from) there in
    c.exchange.ensures.put
    ∙ (λ i. changed_pool route.agent route.from (λ old. others i) (c.exchange-pool.ensures.put i))
    ∙ changed_pool-again route.agent route.from (pool_bag c.empty.result) (stay (pool_in pools route.agent route.from)) pools
    ∙ changed_pool-to route.agent route.from stay pools
    ∙ (λ i. changed_pool (goes.routed.agent i) (goes.routed.from i) stay pools)
    ∙ ap (λ (p : Place). changed_pool p.agent (state_place p.type p.function.current) stay pools) (one-place model function own place goes.there there)

pub returns-clause-dealt : goal.returns-clause-dealt
returns-clause-dealt c choose before =
    let route = c.args.route.now in
    c.exchange.ensures.stay_dealt choose
    (c.exchange-pool.ensures.stay_dealt choose before (c.empty.ensures.dealt (choose route.agent route.from)))
    (c.take-takers.ensures.dealt (choose route.agent route.from) (c.exchange-pool.ensures.dealt choose before))

pub returns-clause-stay_chosen : goal.returns-clause-stay_chosen
returns-clause-stay_chosen c =
    let route = c.args.route.now in
    chosen-stay c.args.pools.now c.exchange-pool.new.pools c.exchange.new.pools route.agent route.from c.take-takers.new.self
    c.exchange-pool.ensures.others c.exchange.ensures.others c.exchange.ensures.placed
    (λ chosen. ap (λ (g : Gathering). g.rows.items) c.take-takers.ensures.fresh ∙ chosen c.exchange-pool.result c.exchange-pool.ensures.kept)
