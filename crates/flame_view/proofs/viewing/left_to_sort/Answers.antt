use Rattle.std.proofs.Common.{Some, None, sym, ap, ◌∙◌}
use Rattle.flame_view.specs.Compiled.{view_by}
use Rattle.flame_view.proofs.Narrowed.{in_order_of-picked_by}
use Rattle.flame_view.proofs.viewing.left_to_sort.Goals as goal

pub returns-in-None : goal.returns-in-None
returns-in-None c = λ memory.
    let filter = c.args.filter.now in
    let rows = c.args.rows.now in
    in_order_of-picked_by (Some filter) None memory rows c.requires
    ∙ ap (λ sort. view_by (Some filter) sort memory rows) (sym c.in-None.is)
