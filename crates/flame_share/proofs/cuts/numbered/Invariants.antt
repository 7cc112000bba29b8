use Rattle.std.proofs.Common.{◌≡◌, [], ◌∷◌, ◌++◌, length}
use Rattle.std.specs.Prelude.{vec_len}
use Rattle.std.specs.Vec.Iter.{into_iter_items, into_iter_len}
use Rattle.flame_spec.specs.Lists.{each_from}
use Rattle.flame_share.specs.NumberedPieces.{numbered_piece, numbered_pieces}
use Rattle.flame_share.proofs.cuts.numbered.Given as goal

abbrev pub invariant-loop-agents : goal.invariant-loop-agents
invariant-loop-agents l = record {
  counted : into_iter_len l.agents-iterator ≡ length (into_iter_items l.agents-iterator);
  pieces : numbered_pieces l.function l.fn.bags.items
      ≡ l.pieces.items
      ++ each_from (λ number agents. numbered_piece l.function number agents ∷ []) (vec_len l.pieces)
      (into_iter_items l.agents-iterator);
}
