use Rattle.std.proofs.Common.{◌≡◌, ◌+◌, ◌-◌, ◌∷◌, [], ◌∙◌, ap, arith, length, length-append, rules, sym}
use Rattle.std.specs.Vec.Iter.{into_iter_items}
use Rattle.flame_rows.specs.Cuts.{cut}
use Rattle.flame_lanes.specs.LaneTasks.{task_of}
use Rattle.flame_lanes.proofs.TaskLists.{tasks-begin, tasks-end, tasks-next}
use Rattle.flame_lanes.proofs.tasks.add_tasks.Goals as goal

pub loop-agents-init : goal.loop-agents-init
loop-agents-init c =
    let tasks = c.args.tasks.now in
    let begun : length tasks.items - c.len-first.result ≡ 0 = omega (arith, c.len-first.ensures, tasks.ok.0) in
    record {
      counted = search rules;
      longer = omega (arith, c.len-first.ensures, tasks.ok.0);
      whole =
          tasks-begin c.args.place c.args.function tasks.items (length tasks.items - c.len-first.result)
          (into_iter_items c.into_iter-agents-iterator.result) (cut c.args.pieces c.args.takers.items) begun
          (c.into_iter-agents-iterator.ensures.into_iter_gives.0 ∙ c.in_ok-agents-items.ensures);
    }

pub loop-agents-preserved : goal.loop-agents-preserved
loop-agents-preserved c =
    let kept = c.loop-agents.invariant in
    let steps = c.in-Some.ensures.steps in
    let tasks = c.loop-agents.tasks in
    let pushed = c.push.new.self.items in
    let first = c.len-first.result in
    let task = task_of c.args.place c.args.function c.in_ok-number.number c.in-Some.agents in
    let long : length pushed ≡ length tasks.items + 1 =
    omega (arith, ap length c.in_ok-push.ensures.items, length-append tasks.items (task ∷ [])) in
    record {
      counted = omega (arith, steps.1, ap length steps.0, kept.counted);
      longer = omega (arith, long, kept.longer);
      whole =
          tasks-next c.args.place c.args.function tasks.items pushed _ (length tasks.items - first) c.in_ok-number.number
          (length pushed - first) c.in-Some.agents (into_iter_items c.loop-agents.agents-iterator)
          (into_iter_items c.next.new.self) steps.0 (omega (arith, c.in_ok-number.ensures, c.len.ensures, tasks.ok.0))
          (omega (arith, long, kept.longer)) c.in_ok-push.ensures.items kept.whole;
    }

pub returns : goal.returns
returns c =
    let kept = c.loop-agents.invariant in
    let tasks = c.loop-agents.tasks.items in
    let runs = into_iter_items c.loop-agents.agents-iterator in
    tasks-end c.args.place c.args.function tasks _ (length tasks - c.len-first.result) runs
    (sym kept.counted ∙ c.in-None.ensures.steps.0) kept.whole
