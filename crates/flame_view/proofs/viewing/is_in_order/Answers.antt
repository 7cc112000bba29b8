use Rattle.std.proofs.Common.{Some, sym}
use Rattle.std.proofs.lemmas.Bool.{eqb-true}
use Rattle.flame_view.proofs.Narrowed.{in_order_of-first, in_order_of-alike}
use Rattle.flame_view.proofs.viewing.is_in_order.Goals as goal

pub returns-then-first_has_number : goal.returns-then-first_has_number
returns-then-first_has_number c = λ t memory.
    in_order_of-first (Some c.args.filter.now) c.args.by memory c.args.rows.now c.requires
    (sym c.if-goes_by_first.ensures) (sym c.if-first_has_number.ensures)

pub returns-in-Some : goal.returns-in-Some
returns-in-Some c = λ same memory.
    in_order_of-alike c.args.filter.now c.in-Some.equality (sym c.in-Some.ensures) memory c.passing_is_equal.ensures c.args.by
    (eqb-true c.in-Some.equality.column c.args.by.variable same) c.args.rows.now c.requires
