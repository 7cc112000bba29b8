use Rattle.std.proofs.Common.{sym, ap, ◌∙◌}
use Rattle.flame_view.specs.ViewWays.{in_order_of}
use Rattle.flame_view.proofs.Narrowed.{IfOk-same, picked_by-None}
use Rattle.flame_view.proofs.viewing.of_found.Goals as goal

pub returns-then-is_equality : goal.returns-then-is_equality
returns-then-is_equality c =
    IfOk-same c.narrowed.result _ _
    (ap (in_order_of c.left_to_sort-left.result)
    (picked_by-None c.args.memory.now c.args.found ∙ c.requires.all (sym c.if-is_equality.ensures))
    ∙ c.left_to_sort-left.ensures c.args.memory.now)
    c.narrowed.ensures
