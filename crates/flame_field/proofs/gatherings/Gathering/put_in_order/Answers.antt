use Rattle.flame_field.proofs.Gathered.{ascending-permuted}
use Rattle.flame_field.proofs.gatherings.Gathering.put_in_order.Goals as goal

pub returns : goal.returns
returns c = ascending-permuted _ _ c.sort-sorted.ensures.permutation
