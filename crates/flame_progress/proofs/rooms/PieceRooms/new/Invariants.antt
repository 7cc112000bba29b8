use Rattle.std.proofs.Common.{◌≡◌, ◌≤◌, [], length, map, replicate}
use Rattle.std.specs.List.{All}
use Rattle.flame_rows.specs.Cuts.{piece_size}
use Rattle.flame_events.specs.EventSteps.{fresh_work}
use Rattle.flame_pieces.specs.KeptWorks.{work_of, outputs_in}
use Rattle.flame_progress.specs.KeptRooms.{AreRoomsEnough}
use Rattle.flame_progress.proofs.Pieces.{Counted}
use Rattle.flame_progress.proofs.rooms.PieceRooms.new.Given as goal

abbrev pub invariant-loop-piece : goal.invariant-loop-piece
invariant-loop-piece l = record {
  within : l._piece ≤ l.pieces;
  size : l.opening.size ≡ piece_size l.agents l.pieces;
  has : AreRoomsEnough l.opening;
  rooms : length l.opening.rooms.items ≡ l._piece;
  fresh : map work_of l.opening.works.items ≡ replicate l._piece (fresh_work l.outputs []);
  outputs_are : All (λ work. outputs_in work ≡ l.outputs) l.opening.works.items;
  counted : Counted l.agents l.pieces (piece_size l.agents l.pieces) l._piece l.rest;
}
