-- What is made ready before a function begins.
use Rattle.std.specs.Prelude.{◌≡◌, ◌≤◌, ℕ, ℤ, List, [], length, map}
use Rattle.std.specs.List.{All}
use Rattle.std.specs.Vec.{vec_capacity}
use Rattle.flame_rows.specs.Cuts.{cut, piece_size}
use Rattle.flame_events.specs.EventSteps.{fresh_work}
use Rattle.flame_pieces.specs.KeptWorks.{work_of, outputs_in}
use Rattle.flame_progress.specs.declared.rooms.PieceRooms.{PieceRooms}

-- each list is empty, and has room for the agents of a piece [own]
abbrev pub AreRoomsEnough : PieceRooms → Type 0
AreRoomsEnough made = All (λ room. (room.items ≡ []) × (made.size ≤ vec_capacity room)) made.rooms.items

-- there is a list for each piece of so many agents, cut into at most so many pieces, and a piece without agents, of which
-- nothing ran, of a function with these outputs [own]
pub record AreRoomsFor (outputs : List ℕ) (agents pieces : ℕ) (made : PieceRooms) : Type 0 where
  pub size : made.size ≡ piece_size agents pieces
  pub rooms : length made.rooms.items ≡ length made.works.items
  pub fresh : map work_of made.works.items ≡ map (λ room. fresh_work outputs []) made.rooms.items
  pub outputs_are : All (λ work. outputs_in work ≡ outputs) made.works.items
  pub pieces_are :
      (rows : List (List ℤ)) → length rows ≡ agents → length (cut pieces rows) ≡ length made.works.items
