use Rattle.std.proofs.Common.{◌≡◌, drop, map}
use Rattle.std.specs.Cmp.Lexicographic.{pointwise}
use Rattle.std.specs.Prelude.{nat_eq}
use Rattle.std.specs.Char.{to_ascii_uppercase}
use Rattle.flame_sense.proofs.words.is_capitals.Given as goal

abbrev pub invariant-loop-i : goal.invariant-loop-i
invariant-loop-i l =
    pointwise nat_eq (map to_ascii_uppercase l.name) l.word
    ≡ pointwise nat_eq (map to_ascii_uppercase (drop l.i l.name)) (drop l.i l.word)
