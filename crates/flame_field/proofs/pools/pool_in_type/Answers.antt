use Rattle.std.proofs.Common.{[], sym, length, refl}
use Rattle.std.proofs.lemmas.Option.{slice_get_read}
use Rattle.flame_rows.proofs.Lists.{slice_index_or-map}
use Rattle.flame_field.specs.KeptPools.{pool_bag}
use Rattle.flame_field.proofs.pools.pool_in_type.Goals as goal

pub returns-clause-bag : goal.returns-clause-bag
returns-clause-bag c = sym (slice_index_or-map pool_bag [] c.args.pools.now c.args.state c.index-pools-state.result c.requires c.index-pools-state.is)

pub returns-clause-kept : goal.returns-clause-kept
returns-clause-kept c = slice_get_read c.args.pools.now (length c.args.pools.now) c.args.state c.index-pools-state.result refl c.requires c.index-pools-state.is
