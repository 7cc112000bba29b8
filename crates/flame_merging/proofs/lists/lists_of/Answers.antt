use Rattle.std.proofs.Common.{◌++◌, ◌∙◌, ap, arith, length, sym, append_assoc}
use Rattle.std.specs.List.{flat_map}
use Rattle.std.specs.Vec.Iter.{into_iter_items}
use Rattle.flame_rows.proofs.Lists.{append-flat_none}
use Rattle.flame_merging.specs.RowLists.{rows_in}
use Rattle.flame_merging.proofs.RowWeights.{rows-push}
use Rattle.flame_merging.proofs.lists.lists_of.Goals as goal

pub loop-bag-preserved : goal.loop-bag-preserved
loop-bag-preserved c =
    let kept = c.loop-bag.invariant in
    let steps = c.in-Some.ensures.steps in
    let rest = flat_map (λ bag. bag) (into_iter_items c.next.new.self) in
    record {
      counted = omega (arith, steps.1, ap length steps.0, kept.counted);
      rows =
          ap (λ lists. rows_in lists ++ rest) c.in_ok-push.ensures.items
          ∙ ap (λ rows. rows ++ rest) (rows-push c.loop-bag.lists.items c.into_rows.result)
          ∙ ap (λ rows. (rows_in c.loop-bag.lists.items ++ rows) ++ rest) c.into_rows.ensures.rows
          ∙ append_assoc (rows_in c.loop-bag.lists.items) c.in-Some.bag rest
          ∙ ap (λ bags. rows_in c.loop-bag.lists.items ++ flat_map (λ bag. bag) bags) (sym steps.0)
          ∙ kept.rows;
    }

pub returns : goal.returns
returns c =
    sym (append-flat_none (rows_in c.loop-bag.lists.items) _ (sym c.loop-bag.invariant.counted ∙ c.in-None.ensures.steps.0))
    ∙ c.loop-bag.invariant.rows
