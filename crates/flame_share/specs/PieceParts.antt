-- The parts of a piece, by their messages.
use Rattle.std.specs.Prelude.{ℕ, ℤ, List}
use Rattle.flame_rows.specs.Bags.{ascending}
use Rattle.flame_world.specs.declared.pieces.Part.{Part}
use Rattle.flame_world.specs.declared.pieces.Piece.{Piece}

-- the part of a piece with these messages of a type [own]
abbrev pub part_with : Piece → ℕ → List (List ℤ) → Part
part_with piece message rows = record {
  function = piece.function;
  number = piece.number;
  message = message;
  rows = ascending rows;
}
