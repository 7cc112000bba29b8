use Rattle.std.proofs.Common.{◌≡◌, ℕ, ◌-◌, length}
use Rattle.std.specs.Prelude.{◌==◌, ◌&&◌, not, nat_lt}
use Rattle.flame_spec.specs.Below.{is_in}
use Rattle.flame_spec.specs.ModelOrder.{order, order_after}
use Rattle.flame_spec.proofs.Orders.{IsOrder}
use Rattle.flame_graph.specs.Graph.{AreWaiting, open_count, follows}
use Rattle.flame_graph.proofs.order.put_in_order.Given as goal

abbrev pub invariant-loop-turn : goal.invariant-loop-turn
invariant-loop-turn l = record {
  counts : AreWaiting (length l.lists) (length l.lists) (follows l.lists) l.order.items l.waiting.items;
  ready : (g : ℕ) → is_in g l.ready ≡ (nat_lt g (length l.lists) && (not (is_in g l.order.items) && (open_count (length l.lists) (follows l.lists) l.order.items g == 0)));
  sound : IsOrder (length l.lists) (follows l.lists) l.order.items;
  rest : order (length l.lists) (follows l.lists) ≡ order_after (length l.lists - l._turn) (length l.lists) (follows l.lists) l.order.items;
}
