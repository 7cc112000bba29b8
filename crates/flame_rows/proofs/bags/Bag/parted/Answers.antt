use Rattle.std.proofs.Common.{ap, sym, length, arith}
use Rattle.std.specs.Prelude.{not}
use Rattle.flame_rows.specs.Order.{row_order}
use Rattle.flame_rows.proofs.Subsequences.{next_comes, came, stayed_away}
use Rattle.flame_rows.proofs.Parting.{filter-passed, filter-failed}
use Rattle.flame_rows.proofs.bags.Bag.parted.Goals as goal

pub put-requires : goal.put-requires
put-requires g c = next_comes row_order _ _ _ _ c.loop-row.invariant.passing_up c.in-Some.ensures.steps.0

pub put-requires-else-test : goal.put-requires-else-test
put-requires-else-test g c = next_comes row_order _ _ _ _ c.loop-row.invariant.others_up c.in-Some.ensures.steps.0

pub loop-row-preserved-in-Continue-1 : goal.loop-row-preserved-in-Continue-1
loop-row-preserved-in-Continue-1 g c =
    let steps = c.in-Some.ensures.steps in
    let kept = c.loop-row.invariant in
    record {
      counted = omega (arith, steps.1, ap length steps.0, kept.counted);
      passing_up = came row_order _ _ _ _ _ kept.passing_up steps.0 c.in_ok-put.ensures;
      others_up = stayed_away row_order _ _ _ _ kept.others_up steps.0;
      passing = λ passes tests.
          filter-passed passes _ _ _ _ _ _ (kept.passing passes tests) steps.0 (sym (tests _ _ c.if-test.ensures))
          c.in_ok-put.ensures;
      others = λ passes tests.
          filter-failed (λ row. not (passes row)) _ _ _ _ _ (kept.others passes tests) steps.0
          (ap not (sym (tests _ _ c.if-test.ensures)));
    }

pub loop-row-preserved : goal.loop-row-preserved
loop-row-preserved g c =
    let steps = c.in-Some.ensures.steps in
    let kept = c.loop-row.invariant in
    record {
      counted = omega (arith, steps.1, ap length steps.0, kept.counted);
      passing_up = stayed_away row_order _ _ _ _ kept.passing_up steps.0;
      others_up = came row_order _ _ _ _ _ kept.others_up steps.0 c.in_ok-put-2.ensures;
      passing = λ passes tests.
          filter-failed passes _ _ _ _ _ (kept.passing passes tests) steps.0 (sym (tests _ _ c.if-test.ensures));
      others = λ passes tests.
          filter-passed (λ row. not (passes row)) _ _ _ _ _ _ (kept.others passes tests) steps.0
          (ap not (sym (tests _ _ c.if-test.ensures))) c.in_ok-put-2.ensures;
    }
