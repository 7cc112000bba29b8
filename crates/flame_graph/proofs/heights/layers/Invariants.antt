use Rattle.std.proofs.Common.{◌≡◌, ℕ, ◌<◌, ◌≤◌, length, take, slice_index}
use Rattle.flame_spec.specs.Layers.{layer}
use Rattle.flame_graph.specs.Graph.{follows}
use Rattle.flame_graph.specs.Heights.{reached}
use Rattle.flame_graph.proofs.heights.layers.Given as goal

abbrev pub invariant-loop-node : goal.invariant-loop-node
invariant-loop-node l = record {
  len : length l.heights.items ≡ length l.lists;
  at : (g : ℕ) → g < length l.lists → slice_index l.heights.items g ≡ reached (follows l.lists) (layer (length l.lists) (follows l.lists)) (take l.node-index l.nodes) g;
  small : (g : ℕ) → g < length l.lists → slice_index l.heights.items g ≤ l.node-index;
}
