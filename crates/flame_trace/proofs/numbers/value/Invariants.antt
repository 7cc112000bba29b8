-- What the digits so far write, which 32 bits hold.
use Rattle.std.proofs.Common.{◌≡◌, ◌<◌, take}
use Rattle.flame_trace.specs.TraceLines.{numeral_value}
use Rattle.flame_trace.proofs.numbers.value.Given as goal

abbrev pub invariant-loop-digit : goal.invariant-loop-digit
invariant-loop-digit l = record {
  so_far : l.value ≡ numeral_value (take l.digit-index l.digits);
  small : l.value < 4294967296;
}
