use Rattle.std.proofs.Common.{◌∙◌, ap}
use Rattle.std.specs.List.{flat_map}
use Rattle.flame_rows.specs.Bags.{weigh}
use Rattle.flame_rows.proofs.Merging.{same_bag}
use Rattle.flame_merging.specs.RowLists.{rows_in}
use Rattle.flame_merging.proofs.merging.merge_parts.Goals as goal

pub returns : goal.returns
returns g c =
    c.in_ok-bag.ensures
    ∙ same_bag (rows_in c.in_ok-turned.turned.items) (flat_map (λ bag. bag) c.args.bags.items)
    (λ weight.
    c.in_ok-turned.ensures weight
    ∙ c.in_ok-sorted.ensures weight
    ∙ c.in_ok-parts.ensures weight
    ∙ ap (weigh weight) c.in_ok-lists.ensures)
