use Rattle.std.proofs.Common.{◌≡◌, ℕ, ◌+◌, ◌++◌, ◌∷◌, [], ◌∙◌, List, append-nil, append_assoc, ap, arith, length, map, sym}
use Rattle.std.proofs.lemmas.List.{map-append, nil_from_length}
use Rattle.std.proofs.lemmas.List.Elements.{All-head, All-rest, All-same}
use Rattle.flame_round.specs.KeptRounds.{round_of}
use Rattle.flame_lanes.specs.declared.tasks.Task.{Task}
use Rattle.flame_lanes.specs.LayerBoards.{weigh_board}
use Rattle.flame_lanes.specs.TaskMeanings.{left_of}
use Rattle.flame_layerrun.specs.LayerTasks.{FitsTask}
use Rattle.flame_layerrun.specs.LayerWork.{weigh_all_sent}
use Rattle.flame_layerrun.proofs.DoneJobs.{weigh_all_sent-append}
use Rattle.flame_layerrun.proofs.alone.run_alone.Goals as goal

pub loop-task-init : goal.loop-task-init
loop-task-init g c =
    let floor = c.args.floor.now in
    let tasks : c.into_iter-task-iterator.result.rest.items ≡ c.args.tasks.items =
    c.into_iter-task-iterator.ensures.into_iter_gives.0 in
    record {
      whole = tasks;
      fit = All-same (FitsTask floor.round floor.readings.now) _ _ tasks c.requires.fit;
      lefts = λ read all. c.new-lefts.ensures.items;
      sent = λ read all message weight. omega arith;
      count = omega arith;
    }

pub run_one-requires-clause-fits : goal.run_one-requires-clause-fits
run_one-requires-clause-fits g c = λ lifetimes outlives.
    let floor = c.args.floor.now in
    let fits = FitsTask floor.round floor.readings.now in
    All-head fits c.in-Some.task c.next.new.self.rest.items
    (All-same fits _ _ (sym c.in-Some.ensures.steps.0) c.loop-task.invariant.fit)

pub run_one-requires-clause-boards : goal.run_one-requires-clause-boards
run_one-requires-clause-boards g c = λ lifetimes outlives.
    c.loop-task.invariant.count ∙ c.requires.boards

pub loop-task-preserved : goal.loop-task-preserved
loop-task-preserved g c =
    let floor = c.args.floor.now in
    let round = round_of floor.round in
    let was = c.loop-task in
    let task = c.in-Some.task in
    let rest = c.next.new.self.rest.items in
    let steps = c.in-Some.ensures.steps.0 in
    let done = c.in_ok-run_one.ensures in
    record {
      whole = append_assoc was.yielded (task ∷ []) rest
          ∙ ap (λ (ts : List Task). was.yielded ++ ts) (sym steps)
          ∙ was.invariant.whole;
      fit = All-rest (FitsTask floor.round floor.readings.now) task rest _ steps was.invariant.fit;
      lefts = λ read all.
          c.in_ok-push.ensures.items
          ∙ (λ i. (was.invariant.lefts read all i) ++ (done.left read all i ∷ []))
          ∙ sym (map-append (left_of round read) was.yielded (task ∷ []));
      sent = λ read all message weight. omega (
        arith,
        done.sent read all message weight,
        was.invariant.sent read all message weight,
        weigh_all_sent-append round read was.yielded (task ∷ []) message weight,
      );
      count = done.count ∙ was.invariant.count;
    }

pub returns-clause-lefts : goal.returns-clause-lefts
returns-clause-lefts g c = λ read all.
    let round = round_of c.args.floor.now.round in
    let was = c.loop-task in
    let none : was.task-iterator.rest.items ≡ [] =
    nil_from_length was.task-iterator.rest.items (omega (arith, was.task-iterator.rest.ok.0, c.in-None.ensures.steps.0)) in
    let tasks : was.yielded ≡ c.args.tasks.items =
    sym (append-nil was.yielded) ∙ ap (λ (ts : List Task). was.yielded ++ ts) (sym none) ∙ was.invariant.whole in
    was.invariant.lefts read all ∙ ap (map (left_of round read)) tasks

pub returns-clause-sent : goal.returns-clause-sent
returns-clause-sent g c = λ read all message weight.
    let round = round_of c.args.floor.now.round in
    let was = c.loop-task in
    let none : was.task-iterator.rest.items ≡ [] =
    nil_from_length was.task-iterator.rest.items (omega (arith, was.task-iterator.rest.ok.0, c.in-None.ensures.steps.0)) in
    let tasks : was.yielded ≡ c.args.tasks.items =
    sym (append-nil was.yielded) ∙ ap (λ (ts : List Task). was.yielded ++ ts) (sym none) ∙ was.invariant.whole in
    was.invariant.sent read all message weight
    ∙ ap (λ (ts : List Task). weigh_board c.args.boards.now.items message weight + weigh_all_sent round read ts message weight) tasks
