use Rattle.std.proofs.Common.{◌≡◌, ◌+◌, drop}
use Rattle.std.specs.Prelude.{◌==◌}
use Rattle.std.specs.List.{position_or_len}
use Rattle.flame_graph.proofs.cycle.place_of.Given as goal

abbrev pub invariant-loop-f : goal.invariant-loop-f
invariant-loop-f l = record {
  at : l.place ≡ l.f-index;
  rest : position_or_len (λ f. f == l.node) l.path ≡ l.place + position_or_len (λ f. f == l.node) (drop l.place l.path);
}
