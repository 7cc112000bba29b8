use Rattle.std.proofs.Common.{◌≡◌, ◌∙◌, ◌<◌, ℕ, List, ap, length, subst, sym, take_all}
use Rattle.std.specs.List.{All, AllZip}
use Rattle.std.proofs.lemmas.Option.{slice_get_read}
use Rattle.std.proofs.lemmas.Slice.Zip.{AllZip-long}
use Rattle.flame_rows.proofs.Lists.{AllZip-at}
use Rattle.flame_spec.specs.Before.{function_count}
use Rattle.flame_spec.specs.Functions.{functions}
use Rattle.flame_route.specs.declared.routes.Route.{Route}
use Rattle.flame_route.specs.ModelRoutes.{IsRouteOf}
use Rattle.flame_round.proofs.Gets.{has-at}
use Rattle.flame_lanes.specs.declared.tasks.Task.{Task}
use Rattle.flame_layerrun.specs.LayerTasks.{AreListed}
use Rattle.flame_layerrun.proofs.ListedOutputs.{listed-all, more-listed, outputs-below}
use Rattle.flame_layerrun.proofs.outputs.list_outputs.Goals as goal

pub bounds-routes-task : goal.bounds-routes-task
bounds-routes-task c =
    let model = c.args.program.now.model in
    let task = c.task-item.result in
    let count : function_count model ≡ length c.items-routes.result.now =
    (sym (AllZip-long (IsRouteOf model) (functions model) c.routes.result.now.routes c.routes.ensures.each))
    ∙ sym (ap (length {A = Route}) c.items-routes.ensures) in
    subst (λ n. task.function < n) count
    (subst (λ (one : Task). one.function < function_count model) (sym c.task-item.is)
    (c.requires c.loop-task.task-index task c.loop-task-test.true))

pub loop-task-preserved : goal.loop-task-preserved
loop-task-preserved c =
    let model = c.args.program.now.model in
    let task = c.task-item.result in
    let route = c.index-routes-task.result in
    let routes = c.items-routes.result.now in
    let there : task.function < function_count model =
    subst (λ (one : Task). one.function < function_count model) (sym c.task-item.is)
    (c.requires c.loop-task.task-index task c.loop-task-test.true) in
    let place = has-at (functions model) task.function there in
    let routed : IsRouteOf model place.item route =
    AllZip-at (IsRouteOf model) (functions model) routes task.function place.item route
    (subst (λ (list : List Route). AllZip (IsRouteOf model) (functions model) list) (sym c.items-routes.ensures) c.routes.ensures.each)
    place.there
    (slice_get_read routes (function_count model) task.function route
    ((sym (AllZip-long (IsRouteOf model) (functions model) c.routes.result.now.routes c.routes.ensures.each)) ∙ sym (ap (length {A = Route}) c.items-routes.ensures))
    there c.index-routes-task.is) in
    let outputs = outputs-below model task.function place.item c.items.result.now place.there (c.items.ensures ∙ ap (λ (one : Route). one.outputs) (sym c.index-routes-task.is) ∙ routed.outputs) in
    let is = c.in_ok-add_all.ensures in
    record {
      all = more-listed model c.args.tasks.now c.loop-task.task-index task c.items.result.now c.loop-task.messages c.add_all.new.messages
          c.loop-task-test.true c.task-item.is outputs.0 is c.loop-task.invariant.all;
      known = λ old.
          subst (λ (list : List ℕ). All (λ message. message < length model.messages) list) (sym is)
          (listed-all (λ message. message < length model.messages) c.items.result.now c.loop-task.messages outputs.1 (c.loop-task.invariant.known old));
    }

pub returns-clause-all : goal.returns-clause-all
returns-clause-all c =
    subst (λ (tasks : List Task). AreListed c.args.program.now.model c.loop-task.messages tasks)
    (take_all c.loop-task.task-index c.args.tasks.now c.loop-task-test.false)
    c.loop-task.invariant.all
