-- A type more.
use Rattle.std.proofs.Common.{◌+◌, ◌++◌, List, take, subst, sym, ap, ◌∙◌}
use Rattle.std.specs.Prelude.{ℤ}
use Rattle.std.specs.List.{AllZip}
use Rattle.json.specs.Token.{Token}
use Rattle.flame_tokens.specs.NumberTrees.{begun}
use Rattle.flame_rows.specs.RowVectors.{rows_of}
use Rattle.flame_tokens.specs.BagTrees.{bag_trees, AreWide}
use Rattle.flame_tokens.proofs.BagLists.{bags_more, wide_more}
use Rattle.flame_tokens.proofs.bags.bags_in.Goals as goal

pub loop-kind-preserved : goal.loop-kind-preserved
loop-kind-preserved c =
    let types = c.args.types.now in
    let i = c.loop-kind.kind-index in
    let type = c.kind-item.result in
    let dealt = rows_of c.loop-kind.dealt in
    let rows = c.in_ok-rows.rows.items in
    let rest = c.bag.new.reader in
    let within = c.loop-kind-test.true in
    let is = c.kind-item.is in
    let so_far = c.loop-kind.invariant in
    let added = sym c.in_ok-add_bag.ensures in
    record {
      tokens =
          so_far.tokens
          ∙ ap (λ (ts : List Token). begun (bag_trees (take i types) dealt) ++ ts) c.in_ok-rows.ensures.tokens
          ∙ sym (bags_more types i type dealt rows rest within is so_far.wide)
          ∙ ap (λ (all : List (List (List ℤ))). begun (bag_trees (take (i + 1) types) all) ++ rest) added;
      wide =
          subst (λ (all : List (List (List ℤ))). AllZip AreWide (take (i + 1) types) all) added
          (wide_more types i type dealt rows within is so_far.wide c.in_ok-rows.ensures.wide);
    }
