use Rattle.std.proofs.Common.{◌+◌, arith}
use Rattle.flame_lex.proofs.Values.{value_in-take, value_in-take_more}
use Rattle.flame_lex.proofs.number.value.Goals as goal

pub returns-then-value : goal.returns-then-value
returns-then-value c =
    let less = value_in-take c.args.base c.args.digits.now (c.loop-b.b-index + 1) c.requires.some in
    let more =
    value_in-take_more c.args.base c.args.digits.now c.loop-b.b-index c.loop-b.value c.loop-b-test.true
    c.loop-b.invariant.so_far in
    omega (arith, less, more, c.digit.ensures)

pub loop-b-preserved : goal.loop-b-preserved
loop-b-preserved c =
    let more =
    value_in-take_more c.args.base c.args.digits.now c.loop-b.b-index c.loop-b.value c.loop-b-test.true
    c.loop-b.invariant.so_far in
    record { so_far = omega (arith, more, c.digit.ensures); small = omega arith }
