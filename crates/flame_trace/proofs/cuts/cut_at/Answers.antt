-- The bytes are cut at the first byte of this value, or have none.
use Rattle.std.proofs.Common.{arith}
use Rattle.flame_trace.proofs.Cutting.{split-whole, cut-at}
use Rattle.flame_trace.proofs.cuts.cut_at.Goals as goal

pub returns-then-place-bytes : goal.returns-then-place-bytes
returns-then-place-bytes c =
    cut-at c.args.byte c.place_of-place.result c.args.bytes.now c.behind.result.now c.place_of-place.ensures
    c.behind.ensures c.if-place-bytes.true

pub returns-else-place-bytes : goal.returns-else-place-bytes
returns-else-place-bytes c = split-whole _ c.args.bytes.now (omega (arith, c.place_of-place.ensures))
