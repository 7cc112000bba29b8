use Rattle.std.proofs.Common.{◌≡◌, ℕ, ◌+◌, List, length, take}
use Rattle.std.specs.Prelude.{ℤ}
use Rattle.flame_lanes.specs.LayerBoards.{AreNewBoards, weigh_before, weigh_board}
use Rattle.flame_lanes.proofs.boards.open_boards.Given as goal

abbrev pub invariant-loop-message : goal.invariant-loop-message
invariant-loop-message l = record {
  new : AreNewBoards l.layer.lanes l.boards.items l.columns.items;
  long : length l.boards.items ≡ l.message-index;
  moved : (message : ℕ) (weight : List ℤ → ℕ)
      → weigh_board l.field.items message weight + weigh_before (take l.message-index l.messages) l.boards.items message weight
      ≡ weigh_board l.fn.field.items message weight;
  count : length l.field.items ≡ length l.fn.field.items;
}
