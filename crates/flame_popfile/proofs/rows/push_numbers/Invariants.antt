-- What was written, and the texts that are left, make up the whole.
use Rattle.std.proofs.Common.{◌≡◌, ◌++◌, map, drop, false}
use Rattle.std.specs.Fmt.{signed_decimal}
use Rattle.flame_popfile.specs.CommaTexts.{behind}
use Rattle.flame_popfile.proofs.rows.push_numbers.Given as goal

abbrev pub invariant-loop-number : goal.invariant-loop-number
invariant-loop-number l =
    l.bytes.items ++ behind l.more (map signed_decimal (drop l.number-index l.numbers))
    ≡ l.fn.bytes.items ++ behind false (map signed_decimal l.numbers)
