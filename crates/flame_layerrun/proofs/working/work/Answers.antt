use Rattle.std.proofs.Common.{◌≡◌, ℕ, ◌++◌, ◌∷◌, [], ◌∙◌, List, append-nil, append_assoc, ap, arith, length, map, refl, subst, sym}
use Rattle.std.specs.Prelude.{IsTrue}
use Rattle.std.specs.List.{All}
use Rattle.std.proofs.lemmas.List.{map-append, nil_from_length}
use Rattle.std.proofs.lemmas.List.Elements.{All-head, All-rest, All-same}
use Rattle.flame_spec.specs.Below.{is_in}
use Rattle.flame_board.specs.declared.lanes.Lane.{Lane}
use Rattle.flame_events.specs.LegalEvents.{outputs_of}
use Rattle.flame_round.specs.KeptRounds.{round_of}
use Rattle.flame_lanes.specs.declared.tasks.Task.{Task}
use Rattle.flame_lanes.specs.TaskMeanings.{left_of}
use Rattle.flame_layerrun.specs.LayerTasks.{FitsTask}
use Rattle.flame_layerrun.specs.LayerWork.{AreLonger, AreOwn, weigh_all_sent}
use Rattle.flame_layerrun.proofs.DoneJobs.{weigh_all_sent-append}
use Rattle.flame_layerrun.proofs.LongerLanes.{longer-both, longer-none}
use Rattle.flame_layerrun.proofs.working.work.Goals as goal

pub loop-task-init : goal.loop-task-init
loop-task-init g c =
    let floor = c.args.floor.now in
    let round = round_of floor.round in
    let can = c.requires.can in
    let lanes = c.into_items-lanes.result.items in
    let tasks : c.into_iter-task-iterator.result.rest.items ≡ c.args.job.tasks =
    c.into_iter-task-iterator.ensures.into_iter_gives.0 ∙ c.into_items-task-items.ensures in
    let long : length floor.messages.now ≡ length lanes = can.long ∙ ap length (sym c.into_items-lanes.ensures) in
    record {
      whole = tasks;
      fit = All-same (FitsTask floor.round floor.readings.now) _ _ tasks can.fit;
      listed = All-same
          (λ (task : Task). All (λ message. IsTrue (is_in message floor.messages.now)) (outputs_of floor.round.program.now.model task.function))
          _ _ tasks can.listed;
      lefts = λ read all. c.new-lefts.ensures.items;
      longer = λ read all. longer-none (weigh_all_sent round read []) floor.messages.now lanes (λ place message at weight. refl) long;
      own = subst (λ (ls : List Lane). AreOwn floor.boards.now ls) (sym c.into_items-lanes.ensures) can.own;
      long = long;
    }

pub work_on-requires-clause-fits : goal.work_on-requires-clause-fits
work_on-requires-clause-fits g c = λ lifetimes outlives.
    let floor = c.args.floor.now in
    let fits = FitsTask floor.round floor.readings.now in
    All-head fits c.in-Some.task c.next.new.self.rest.items
    (All-same fits _ _ (sym c.in-Some.ensures.steps.0) c.loop-task.invariant.fit)

pub work_on-requires-clause-listed : goal.work_on-requires-clause-listed
work_on-requires-clause-listed g c = λ lifetimes outlives.
    let floor = c.args.floor.now in
    let listed = λ (task : Task). All (λ message. IsTrue (is_in message floor.messages.now)) (outputs_of floor.round.program.now.model task.function) in
    All-head listed c.in-Some.task c.next.new.self.rest.items
    (All-same listed _ _ (sym c.in-Some.ensures.steps.0) c.loop-task.invariant.listed)

pub loop-task-preserved : goal.loop-task-preserved
loop-task-preserved g c =
    let floor = c.args.floor.now in
    let round = round_of floor.round in
    let was = c.loop-task in
    let task = c.in-Some.task in
    let rest = c.next.new.self.rest.items in
    let steps = c.in-Some.ensures.steps.0 in
    let done = c.in_ok-work_on.ensures in
    record {
      whole = append_assoc was.yielded (task ∷ []) rest
          ∙ ap (λ (ts : List Task). was.yielded ++ ts) (sym steps)
          ∙ was.invariant.whole;
      fit = All-rest (FitsTask floor.round floor.readings.now) task rest _ steps was.invariant.fit;
      listed = All-rest
          (λ (t : Task). All (λ message. IsTrue (is_in message floor.messages.now)) (outputs_of floor.round.program.now.model t.function))
          task rest _ steps was.invariant.listed;
      lefts = λ read all.
          c.in_ok-push.ensures.items
          ∙ (λ i. (was.invariant.lefts read all i) ++ (done.left read all i ∷ []))
          ∙ sym (map-append (left_of round read) was.yielded (task ∷ []));
      longer = λ read all. longer-both (weigh_all_sent round read was.yielded) (weigh_all_sent round read (task ∷ []))
          (weigh_all_sent round read (was.yielded ++ task ∷ []))
          (weigh_all_sent-append round read was.yielded (task ∷ []))
          floor.messages.now c.into_items-lanes.result.items was.lanes.items c.work_on.new.lanes.items
          (was.invariant.longer read all) (done.longer read all);
      own = done.own;
      long = done.long;
    }

pub returns : goal.returns
returns g c =
    let floor = c.args.floor.now in
    let round = round_of floor.round in
    let was = c.loop-task in
    let none : was.task-iterator.rest.items ≡ [] =
    nil_from_length was.task-iterator.rest.items (omega (arith, was.task-iterator.rest.ok.0, c.in-None.ensures.steps.0)) in
    let tasks : was.yielded ≡ c.args.job.tasks =
    sym (append-nil was.yielded) ∙ ap (λ (ts : List Task). was.yielded ++ ts) (sym none) ∙ was.invariant.whole in
    record {
      done = λ read all. record {
        lefts = c.of.ensures ∙ was.invariant.lefts read all ∙ ap (map (left_of round read)) tasks;
        lanes =
            subst (λ (ls : List Lane). AreLonger (weigh_all_sent round read c.args.job.tasks) floor.messages.now c.args.job.lanes ls) (sym c.of-2.ensures)
            (subst (λ (ls : List Lane). AreLonger (weigh_all_sent round read c.args.job.tasks) floor.messages.now ls was.lanes.items) c.into_items-lanes.ensures
            (subst (λ (ts : List Task). AreLonger (weigh_all_sent round read ts) floor.messages.now c.into_items-lanes.result.items was.lanes.items) tasks
            (was.invariant.longer read all)));
      };
    }
