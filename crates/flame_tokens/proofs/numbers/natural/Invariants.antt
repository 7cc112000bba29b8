-- The number so far, whose digits are the bytes so far.
use Rattle.std.proofs.Common.{◌≡◌, ◌<◌, ◌^◌, length, take}
use Rattle.std.specs.Fmt.{decimal}
use Rattle.flame_tokens.proofs.numbers.natural.Given as goal

abbrev pub invariant-loop-place : goal.invariant-loop-place
invariant-loop-place l = record {
  text : take l.place l.bytes ≡ decimal l.number;
  below : l.number < 10 ^ l.place;
  some : 1 < length l.bytes → 0 < l.number;
}
