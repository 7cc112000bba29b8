use Rattle.std.proofs.Common.{◌≡◌, ℕ, ◌+◌, ◌<◌, List, length}
use Rattle.std.specs.Prelude.{ℤ}
use Rattle.std.specs.List.{All}
use Rattle.flame_world.specs.declared.pieces.Part.{Part}
use Rattle.flame_lanes.specs.LayerBoards.{weigh_board}
use Rattle.flame_layerrun.specs.LayerWork.{weigh_of_type}
use Rattle.flame_layerrun.proofs.alone.put_parts.Given as goal

abbrev pub invariant-loop-part : goal.invariant-loop-part
invariant-loop-part l = record {
  there : All (λ (part : Part). part.message < length l.fn.boards.items) l.part-iterator.rest.items;
  moved : (message : ℕ) (weight : List ℤ → ℕ)
      → weigh_board l.boards.items message weight + weigh_of_type l.part-iterator.rest.items message weight
      ≡ weigh_board l.fn.boards.items message weight + weigh_of_type l.fn.parts.items message weight;
  count : length l.boards.items ≡ length l.fn.boards.items;
}
