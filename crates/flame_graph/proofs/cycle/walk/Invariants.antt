use Rattle.std.proofs.Common.{◌≡◌, ◌+◌, ◌-◌, ◌<◌, [], length}
use Rattle.flame_spec.specs.ModelOrder.{walk_back}
use Rattle.flame_graph.specs.Backs.{AreSeen, back_from}
use Rattle.flame_graph.proofs.cycle.walk.Given as goal

abbrev pub invariant-loop-turn : goal.invariant-loop-turn
invariant-loop-turn l = record {
  seen : AreSeen (length l.backs) l.path.items l.seen.items;
  inside : l.node < length l.backs;
  rest : walk_back (length l.backs + 1) (back_from l.backs) [] l.start ≡ walk_back (length l.backs + 1 - l._turn) (back_from l.backs) l.path.items l.node;
}
