use Rattle.std.proofs.Common.{◌≤◌, arith, length, rules}
use Rattle.std.specs.Fmt.{decimal}
use Rattle.std.proofs.lemmas.Fmt.{length-decimal-le}
use Rattle.flame_popfile.proofs.puts.put_digits.Goals as goal

pub write_digits-start-requires : goal.write_digits-start-requires
write_digits-start-requires c =
    let fits = c.ranges.number.fits in
    let short : length (decimal c.args.number) ≤ 10 =
    length-decimal-le 10 c.args.number (omega arith) (omega (arith, fits)) (omega (arith, fits)) in
    (omega (arith, short, c.in_ok-make_room.ensures.room), search rules)
