use Rattle.std.proofs.Common.{◌≤◌, ◌<◌, [], ap, ◌∙◌, length, arith}
use Rattle.std.specs.Prelude.{◌==◌}
use Rattle.std.proofs.lemmas.List.{length-set}
use Rattle.std.proofs.lemmas.List.FromFn.{fill_by_all}
use Rattle.flame_rows.specs.Order.{row_order}
use Rattle.flame_rows.specs.Parted.{whose}
use Rattle.flame_rows.proofs.Subsequences.{next_comes, came, stayed_away}
use Rattle.flame_rows.proofs.Parting.{whose-passed, whose-failed, whose-over, over, parts_up, parts_put, parts_up_still, parts_left, all_below}
use Rattle.flame_rows.proofs.bags.Bag.parted_by.Goals as goal
use Rattle.flame_rows.proofs.Truths.{nat_le-true}

pub put_into-requires-clause-order : goal.put_into-requires-clause-order
put_into-requires-clause-order c =
    next_comes row_order _ _ _ _ (c.loop-row.invariant.parts_up c.in-Some.choice.now c.if-choice-count.true)
    c.in-Some.ensures.steps.0.0

pub put-requires : goal.put-requires
put-requires c = next_comes row_order _ _ _ _ c.loop-row.invariant.others_up c.in-Some.ensures.steps.0.0

pub loop-row-preserved-in-Continue-branch-2 : goal.loop-row-preserved-in-Continue-branch-2
loop-row-preserved-in-Continue-branch-2 c =
    let steps = c.in-Some.ensures.steps in
    let kept = c.loop-row.invariant in
    let number = c.in-Some.choice.now in
    let parts = c.loop-row.parts.items in
    let within : number < length parts = omega (arith, kept.many, c.if-choice-count.true) in
    let put = c.in_ok-put_into.ensures in
    record {
      counted = omega (arith, steps.0.1, ap length steps.0.0, kept.counted);
      many = ap length put ∙ length-set parts number _ ∙ kept.many;
      parts_up = parts_up parts _ _ _ steps.0.0 c.args.count number within _ put kept.parts_up;
      others_up = stayed_away row_order _ _ _ _ kept.others_up steps.0.0;
      parts = parts_put parts _ _ _ steps.0.0 c.args.count number within _ put _ _ _ steps.1 kept.parts;
      others = whose-failed _ _ _ _ _ _ _ _ _ kept.others steps.0.0 steps.1 (all_below number c.args.count c.if-choice-count.true);
    }

pub loop-row-preserved : goal.loop-row-preserved
loop-row-preserved c =
    let steps = c.in-Some.ensures.steps in
    let kept = c.loop-row.invariant in
    let parts = c.loop-row.parts.items in
    let none : c.args.count ≤ c.in-Some.choice.now = omega (arith, c.if-choice-count.false) in
    record {
      counted = omega (arith, steps.0.1, ap length steps.0.0, kept.counted);
      many = kept.many;
      parts_up = parts_up_still parts _ _ _ steps.0.0 c.args.count kept.parts_up;
      others_up = came row_order _ _ _ _ _ kept.others_up steps.0.0 c.in_ok-put.ensures;
      parts = parts_left parts _ _ _ steps.0.0 c.args.count _ _ _ _ steps.1 none kept.parts;
      others = whose-passed _ _ _ _ _ _ _ _ _ _ kept.others steps.0.0 steps.1 (nat_le-true _ _ none) c.in_ok-put.ensures;
    }

pub returns-clause-parts : goal.returns-clause-parts
returns-clause-parts c =
    let ends = over _ _ _ c.loop-row.invariant.counted c.in-None.ensures.steps in
    c.of.ensures
    ∙ fill_by_all (λ number. whose (λ choice. choice == number) c.args.self c.args.choices.now)
    c.loop-row.parts.items c.args.count [] c.loop-row.invariant.many
    (λ number known. whose-over (λ choice. choice == number) _ _ _ _ (c.loop-row.invariant.parts number known) ends)

pub returns-clause-others : goal.returns-clause-others
returns-clause-others c =
    whose-over _ _ _ _ _ c.loop-row.invariant.others (over _ _ _ c.loop-row.invariant.counted c.in-None.ensures.steps)
