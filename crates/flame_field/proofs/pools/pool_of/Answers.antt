use Rattle.std.proofs.Common.{[], List, Vec, length, map, sym, ap, ◌∙◌, arith, refl}
use Rattle.std.specs.Prelude.{option_and_then, slice_get, slice_index_or}
use Rattle.std.specs.Global.{Global}
use Rattle.std.proofs.lemmas.List.{length-map}
use Rattle.std.proofs.lemmas.Option.{slice_get_read}
use Rattle.flame_rows.proofs.Lists.{slice_index_or-map}
use Rattle.flame_field.specs.KeptPools.{pool_bag, pool_bags}
use Rattle.flame_field.proofs.Changed.{within_list}
use Rattle.flame_field.specs.declared.pools.Pool.{Pool}
use Rattle.flame_field.proofs.pools.pool_of.Goals as goal

pub bounds-pools-agent : goal.bounds-pools-agent
bounds-pools-agent c = within_list pool_bags c.args.pools.now c.args.agent c.args.state c.requires

pub pool_in_type-requires : goal.pool_in_type-requires
pool_in_type-requires c =
    let pools = c.args.pools.now in
    let own = c.index-pools-agent.result in
    let at = slice_index_or-map pool_bags [] pools c.args.agent own (within_list pool_bags pools c.args.agent c.args.state c.requires) c.index-pools-agent.is in
    omega (arith, c.requires, ap length at, length-map own.items pool_bag, ap length c.deref.ensures.value)

pub returns-clause-bag : goal.returns-clause-bag
returns-clause-bag c =
    let pools = c.args.pools.now in
    let own = c.index-pools-agent.result in
    let at = slice_index_or-map pool_bags [] pools c.args.agent own (within_list pool_bags pools c.args.agent c.args.state c.requires) c.index-pools-agent.is in
    c.pool_in_type.ensures.bag
    ∙ ap (λ l. slice_index_or (map pool_bag l) c.args.state []) c.deref.ensures.value
    ∙ ap (λ l. slice_index_or l c.args.state []) (sym at)

pub returns-clause-kept : goal.returns-clause-kept
returns-clause-kept c =
    let pools = c.args.pools.now in
    let own = c.index-pools-agent.result in
    ap (option_and_then (λ (o : Vec Pool Global). slice_get o.items c.args.state))
    (slice_get_read pools (length pools) c.args.agent own refl (within_list pool_bags pools c.args.agent c.args.state c.requires) c.index-pools-agent.is)
    ∙ ap (λ (l : List Pool). slice_get l c.args.state) (sym c.deref.ensures.value)
    ∙ c.pool_in_type.ensures.kept
