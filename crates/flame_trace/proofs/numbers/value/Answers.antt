-- A digit more; and numbers grow with each digit.
use Rattle.std.proofs.Common.{◌+◌, arith}
use Rattle.flame_trace.proofs.Digits.{value-take, value-take_more}
use Rattle.flame_trace.proofs.numbers.value.Goals as goal

pub returns-then-value-from : goal.returns-then-value-from
returns-then-value-from c =
    let less = value-take c.args.digits.now (c.loop-digit.digit-index + 1) in
    let more =
    value-take_more c.args.digits.now c.loop-digit.digit-index c.loop-digit.value c.loop-digit-test.true
    c.loop-digit.invariant.so_far in
    λ small. omega (arith, less, more, small, c.digit_of.ensures, c.from.ensures, c.from-in-loop-digit.ensures)

pub loop-digit-preserved : goal.loop-digit-preserved
loop-digit-preserved c =
    let more =
    value-take_more c.args.digits.now c.loop-digit.digit-index c.loop-digit.value c.loop-digit-test.true
    c.loop-digit.invariant.so_far in
    record {
      so_far = omega (arith, more, c.digit_of.ensures, c.from.ensures);
      small = omega (arith, c.from-in-loop-digit.ensures);
    }
