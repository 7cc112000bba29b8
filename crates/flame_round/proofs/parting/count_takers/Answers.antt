use Rattle.std.proofs.Common.{◌∙◌, ap, sym, length, Option}
use Rattle.std.specs.Option.{option_map_or}
use Rattle.flame_field.specs.declared.pools.Pool.{Pool}
use Rattle.flame_field.specs.KeptPools.{chosen_at}
use Rattle.flame_round.proofs.parting.count_takers.Goals as goal

pub returns : goal.returns
returns c =
    c.count.ensures
    ∙ ap (λ (found : Option Pool). option_map_or (λ pool. length (chosen_at pool c.args.route.now.choice)) found 0) (sym c.pool_of.ensures.kept)
