use Rattle.std.proofs.Common.{◌∙◌}
use Rattle.std.specs.Prelude.{◌==◌, not}
use Rattle.flame_rows.specs.Bags.{merge}
use Rattle.flame_rows.specs.Parted.{whose}
use Rattle.flame_pool.proofs.pools.take.Goals as goal

pub returns-clause-all : goal.returns-clause-all
returns-clause-all c =
    let pool = c.args.pool in
    let number = c.args.number in
    let same = c.items.ensures in
    (λ i. merge (c.in_ok-parts.ensures.takers i) (c.in_ok-parts.ensures.others i))
    ∙ (λ i. merge (whose (λ choice. choice == number) pool (same i)) (whose (λ choice. not (choice == number)) pool (same i)))
    ∙ c.parted_bags.ensures (λ choice. choice == number) pool c.args.choices.now c.rows-ascending.ensures.order c.requires
