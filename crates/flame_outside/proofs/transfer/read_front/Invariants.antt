-- What was read so far is what the reader lost.
use Rattle.std.proofs.Common.{◌≤◌, length}
use Rattle.std.specs.Io.KnownBytes.{Consumes}
use Rattle.flame_outside.proofs.transfer.read_front.Given as goal

abbrev pub invariant-reads : goal.invariant-reads
invariant-reads g l =
    (length l.bytes.items ≤ l.most)
    × Consumes (g.R.Read.remaining l.initial.reader) (g.R.Read.remaining l.reader) l.bytes.items
