-- A digit more.
use Rattle.std.proofs.Common.{rules, arith}
use Rattle.flame_tokens.proofs.MoreDigits.{first_digit, digit_more, larger}
use Rattle.flame_tokens.proofs.numbers.natural.Goals as goal

pub loop-place-init : goal.loop-place-init
loop-place-init c =
    let digit = c.in_ok-number.number in
    let found = c.in_ok-number.ensures in
    record {
      text = first_digit c.args.bytes.now digit (search rules) found.value found.below;
      below = found.below;
      some = search rules;
    }

pub loop-place-preserved : goal.loop-place-preserved
loop-place-preserved c =
    let bytes = c.args.bytes.now in
    let place = c.loop-place.place in
    let number = c.loop-place.number in
    let digit = c.in_ok-number-2.field-0 in
    let found = c.in_ok-number-2.ensures in
    let so_far = c.loop-place.invariant in
    let some = so_far.some (search rules) in
    record {
      text =
          digit_more bytes place number digit c.loop-place-test.true (search rules) found.value found.below some
          so_far.below so_far.text;
      below = larger place number digit found.below so_far.below;
      some = λ long. omega (arith, some);
    }
