use Rattle.std.proofs.Common.{arith}
use Rattle.std.specs.Option.{option_copied}
use Rattle.std.proofs.lemmas.Grind.{common_steps}
use Rattle.flame_view.specs.Compiled.{is_read_by}
use Rattle.flame_view.proofs.Narrowed.{filter-next}
use Rattle.flame_view.proofs.picks.picked.Goals as goal
use Rattle.flame_view.proofs.picks.picked.Goals.{then-passes+in_ok-push, else-passes}

pub loop-place-preserved : goal.loop-place-preserved
loop-place-preserved c =
    let next =
    filter-next (is_read_by (option_copied c.args.filter) c.args.memory.now) c.args.rows.now c.loop-place.place c.row-row.result.now c.row-row.ensures in
    let same = c.asked-test.ensures c.row-row.result.now in
    elim c.if-passes.branch [
      | then-passes+in_ok-push w ↦ grind (arith, common_steps, next, same)
      | else-passes w ↦ grind (arith, common_steps, next, same)
    ]
