use Rattle.std.proofs.Common.{◌≡◌, List, ap, arith, length}
use Rattle.std.specs.Prelude.{ℤ}
use Rattle.std.specs.List.{flat_map}
use Rattle.flame_rows.specs.Bags.{weigh}
use Rattle.flame_merging.specs.RowLists.{rows_in}
use Rattle.flame_merging.proofs.RowWeights.{bags-push, bags-none, weigh-push}
use Rattle.flame_merging.proofs.merging.turned.Goals as goal

pub loop-bag-preserved : goal.loop-bag-preserved
loop-bag-preserved c = λ weight. omega (
  arith,
  c.loop-bag.invariant weight,
  ap (λ (bags : List (List (List ℤ))). weigh weight (flat_map (λ bag. bag) bags)) c.in-Some.ensures.items,
  bags-push weight c.pop.new.self.items c.in-Some.bag,
  ap (λ lists. weigh weight (rows_in lists)) c.in_ok-push.ensures.items,
  weigh-push weight c.loop-bag.lists.items c.into_rows.result,
  ap (weigh weight) c.into_rows.ensures.rows,
)

pub returns : goal.returns
returns c = λ weight.
    let bags = c.loop-bag.bags in
    let none : length bags.items ≡ 0 = omega (arith, c.in_default.ensures.cases.0, bags.ok.0) in
    omega (arith, c.loop-bag.invariant weight, bags-none weight bags.items none)
