use Rattle.std.proofs.Common.{◌≡◌, drop}
use Rattle.flame_spec.specs.Below.{is_in}
use Rattle.flame_board.proofs.pieces.is_among.Given as goal

abbrev pub invariant-loop-one : goal.invariant-loop-one
invariant-loop-one l = is_in l.message l.messages ≡ is_in l.message (drop l.one-index l.messages)
