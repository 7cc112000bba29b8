use Rattle.std.proofs.Common.{◌≡◌, ◌∙◌, ◌<◌, ap, length, subst, sym}
use Rattle.std.proofs.lemmas.Slice.Zip.{AllZip-long}
use Rattle.flame_spec.specs.Before.{function_count}
use Rattle.flame_spec.specs.Functions.{functions}
use Rattle.flame_route.specs.declared.routes.Route.{Route}
use Rattle.flame_route.specs.ModelRoutes.{IsRouteOf}
use Rattle.flame_lanes.specs.declared.tasks.Task.{Task}
use Rattle.flame_layerrun.proofs.layers.pieces_of.Goals as goal

pub bounds-routes-task : goal.bounds-routes-task
bounds-routes-task c =
    let model = c.args.program.now.model in
    let task = c.task-item.result in
    let count : function_count model ≡ length c.items-routes.result.now =
    (sym (AllZip-long (IsRouteOf model) (functions model) c.routes.result.now.routes c.routes.ensures.each))
    ∙ sym (ap (length {A = Route}) c.items-routes.ensures) in
    subst (λ n. task.function < n) count
    (subst (λ (one : Task). one.function < function_count model) (sym c.task-item.is)
    (c.requires.there c.loop-task.task-index task c.loop-task-test.true))
