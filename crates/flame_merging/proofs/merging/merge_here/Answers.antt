use Rattle.std.proofs.Common.{◌∙◌, ap}
use Rattle.flame_rows.specs.Bags.{ascending}
use Rattle.flame_merging.proofs.merging.merge_here.Goals as goal

pub returns : goal.returns
returns c = c.in_ok-bag.ensures ∙ ap ascending c.in_ok-lists.ensures
