use Rattle.std.proofs.Common.{◌≡◌, [], false, map, replicate}
use Rattle.flame_pieces.specs.Waiting.{awaited}
use Rattle.flame_pieces.proofs.waits.things_of.Given as goal

abbrev pub invariant-loop-thing : goal.invariant-loop-thing
invariant-loop-thing l = map awaited l.list.items ≡ replicate l._thing (record { waiters = []; done = false })
