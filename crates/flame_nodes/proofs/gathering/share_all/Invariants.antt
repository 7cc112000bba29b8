use Rattle.std.proofs.Common.{◌≡◌, ◌++◌, map}
use Rattle.std.specs.List.{All}
use Rattle.flame_world.specs.Shares.{piece_of, setting_of}
use Rattle.flame_nodes.specs.GatheredShares.{DifferInNumber, IsFirstThatFits}
use Rattle.flame_nodes.specs.NodeWork.{CanRun, IsOf, IsUnder, StaysFirst}
use Rattle.flame_nodes.proofs.gathering.share_all.Given as goal

abbrev pub invariant-loop-piece : goal.invariant-loop-piece
invariant-loop-piece l = record {
  pieces : map piece_of l.shares.items ++ l.piece-iterator.rest.items ≡ l.fn.pieces.items;
  settings : All (λ share. IsUnder l.terms (setting_of share)) l.shares.items;
  fit : All (CanRun l.terms) l.piece-iterator.rest.items;
  first : DifferInNumber l.fn.pieces.items
      → All (λ share. IsFirstThatFits (IsOf l.terms (piece_of share)) l.fn.arrived.items share) l.shares.items;
  differ : DifferInNumber l.fn.pieces.items → DifferInNumber l.piece-iterator.rest.items;
  stay : DifferInNumber l.fn.pieces.items
      → All (λ piece. StaysFirst (IsOf l.terms piece) l.fn.arrived.items l.left.items) l.piece-iterator.rest.items;
}
