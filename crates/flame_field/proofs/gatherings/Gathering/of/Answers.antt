use Rattle.std.proofs.Common.{ap, ◌∙◌}
use Rattle.flame_rows.specs.Bags.{ascending}
use Rattle.flame_rows.proofs.BagLaws.{ascending-IsAscending}
use Rattle.flame_field.proofs.gatherings.Gathering.of.Goals as goal

pub returns-clause-bag : goal.returns-clause-bag
returns-clause-bag c = ap ascending c.into_rows.ensures.rows ∙ ascending-IsAscending c.args.bag c.into_rows.ensures.order

pub returns-clause-rows : goal.returns-clause-rows
returns-clause-rows c = ap ascending c.into_rows.ensures.rows
