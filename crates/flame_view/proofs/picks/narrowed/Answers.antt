use Rattle.std.proofs.Common.{sym, ◌∙◌}
use Rattle.flame_view.specs.Compiled.{picked_by}
use Rattle.flame_view.specs.ViewWays.{in_order_of}
use Rattle.flame_view.proofs.Narrowed.{option_copied-None, picked_by-None}
use Rattle.flame_view.proofs.picks.narrowed.Goals as goal

pub returns-then-is_none : goal.returns-then-is_none
returns-then-is_none c =
    let none = option_copied-None c.args.filter c.if-is_none.ensures in
    sym (picked_by-None c.args.memory.now c.args.rows)
    ∙ (λ i. in_order_of (sym c.in_default.is i) (picked_by (sym none i) c.args.memory.now c.args.rows))
