use Rattle.std.proofs.Common.{◌≡◌, ◌<◌, ◌-◌, ◌+◌, ◌∙◌, ap, arith, rules, suc, drop, length, subst, sym}
use Rattle.std.specs.Prelude.{slice_set}
use Rattle.std.specs.Vec.Iter.{into_iter_items}
use Rattle.std.proofs.lemmas.List.{length-set}
use Rattle.flame_lanes.specs.declared.jobs.Left.{Left}
use Rattle.flame_lanes.proofs.GainLists.{AreGained, all-first, drop-next, drop-zero, gained-none, gained-next, gained-all}
use Rattle.flame_lanes.proofs.gains.gain_all.Goals as goal

pub loop-left-init : goal.loop-left-init
loop-left-init c =
    let lefts = c.args.lefts.items in
    let first = into_iter_items c.into_iter-left-iterator.result in
    let gives = c.into_iter-left-iterator.ensures.into_iter_gives in
    let none : length lefts - length first ≡ 0 = omega (arith, ap length gives.0) in
    record {
      counted = search rules;
      fewer = omega (arith, ap length gives.0);
      rest = gives.0 ∙ sym (ap (λ n. drop n lefts) none ∙ drop-zero lefts);
      long = c.in_ok-gains.ensures.long;
      gained = gained-none lefts c.in_ok-gains.gains.items (length lefts - length first) none
          c.in_ok-gains.ensures.none;
    }

pub loop-left-preserved : goal.loop-left-preserved
loop-left-preserved c =
    let kept = c.loop-left.invariant in
    let lefts = c.args.lefts.items in
    let all = into_iter_items c.loop-left.left-iterator in
    let rest = into_iter_items c.next.new.self in
    let left = c.in-Some.left in
    let gains = c.loop-left.gains.items in
    let steps = c.in-Some.ensures.steps in
    let done = length lefts - length all in
    let first = sym kept.rest ∙ steps.0 in
    let next : length lefts - length rest ≡ done + 1 = omega (arith, ap length steps.0, kept.fewer) in
    let after : length lefts - length rest ≡ suc done = omega (arith, next) in
    let below : left.place < c.args.functions =
    all-first (λ (l : Left). l.place < c.args.functions) lefts done left rest c.requires first in
    let within : left.place < length gains = omega (arith, below, kept.long) in
    record {
      counted = omega (arith, steps.1, ap length steps.0, kept.counted);
      fewer = omega (arith, ap length steps.0, kept.fewer);
      rest = sym (ap (λ n. drop n lefts) after ∙ drop-next lefts done left rest first);
      long = length-set gains left.place c.add.new.self ∙ kept.long;
      gained =
          subst (AreGained lefts (slice_set gains left.place c.add.new.self)) (sym next)
          (gained-next c.parts_make_the_whole.ensures.survivors c.parts_make_the_whole.ensures.births lefts gains done left
          rest c.index_mut.result.now c.add.new.self kept.gained first within c.index_mut.ensures.value
          c.in_ok-add.ensures);
    }

pub returns-clause-each : goal.returns-clause-each
returns-clause-each c = λ round read.
    let lefts = c.args.lefts.items in
    let all = into_iter_items c.loop-left.left-iterator in
    let kept = c.loop-left.invariant in
    let none : length all ≡ 0 = sym kept.counted ∙ c.in-None.ensures.steps.0 in
    gained-all lefts c.loop-left.gains.items (length lefts - length all) (omega (arith, none)) kept.gained round read
