use Rattle.std.proofs.Common.{◌≡◌, ◌<◌, ◌%◌, ◌∙◌, List, length, set, ap, sym, subst, arith}
use Rattle.std.specs.List.{All, Contains}
use Rattle.std.specs.Vec.Iter.{into_iter_items}
use Rattle.std.proofs.lemmas.List.{length-set}
use Rattle.std.proofs.lemmas.List.Elements.{All-contains_itself, All-head, All-rest}
use Rattle.flame_rows.specs.Bags.{weigh}
use Rattle.flame_lanes.specs.LaneTasks.{AreFrom, agents_at}
use Rattle.flame_lanes.specs.declared.tasks.Task.{Task}
use Rattle.flame_lanes.proofs.Dealt.{HasPlace, from-more, has_place, heavy-more, tasks_in}
use Rattle.flame_lanes.proofs.dealing.deal_tasks.Goals as goal

pub loop-place-init : goal.loop-place-init
loop-place-init c =
    let all = c.args.tasks.items in
    let none = c.in_ok-loads.ensures.none in
    let it = c.into_iter-place-iterator.result.iter in
    let begun : it.rest.items ≡ all =
    ap (λ z. z.iter.rest.items) c.into_iter-place-iterator.ensures.into_iter_gives
    ∙ ap (λ z. z.rest.items) c.enumerate-place-items.ensures.source ∙ c.into_iter.ensures.rest in
    record {
      count = c.in_ok-loads.ensures.count;
      counted = omega (arith, it.rest.ok.0);
      from = subst (AreFrom all) (sym none) (λ k d less. absurd (omega (arith, less)));
      rest = subst (AreFrom all) (sym begun) (All-contains_itself all);
      agents = λ place weight. omega (
        arith,
        ap (λ (l : List Task). weigh weight (agents_at place l)) begun,
        ap (λ (l : List Task). weigh weight (agents_at place l)) none,
      );
    }

pub loop-place-preserved : goal.loop-place-preserved
loop-place-preserved c =
    let all = c.args.tasks.items in
    let kept = c.loop-place.invariant in
    let loads = c.loop-place.loads.items in
    let task = c.in-Some.task in
    let left = into_iter_items c.loop-place.place-iterator.iter in
    let rest = into_iter_items c.next.new.self.iter in
    let steps = c.in-Some.ensures.steps in
    let P : Task → Type 0 = λ own. Contains all own in
    let less : c.in-Some.place % c.args.count < length loads = omega (arith, c.requires, kept.count) in
    let place = c.in-Some.place % c.args.count in
    let there : HasPlace (tasks_in loads) (tasks_in (set loads place c.push.new.self)) task =
    has_place loads place c.index_mut.result.now c.push.new.self task less
    c.index_mut.ensures.value c.in_ok-push.ensures.items in
    record {
      count = length-set loads _ _ ∙ kept.count;
      counted = omega (arith, c.next.new.self.iter.rest.ok.0);
      from = from-more all _ _ task there kept.from (All-head P task rest (subst (All P) steps.0.0 kept.rest));
      rest = All-rest P task rest left steps.0.0 kept.rest;
      agents = λ place weight.
          heavy-more place weight _ _ left rest task (weigh weight (agents_at place all)) there steps.0.0 (kept.agents place weight);
    }
