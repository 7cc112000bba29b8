use Rattle.std.proofs.Common.{◌≡◌, ℕ}
use Rattle.flame_meaning.specs.Scenes.{numbers_from}
use Rattle.flame_sense.specs.StandsFor.{within_reach}
use Rattle.flame_sense.proofs.arguments.numbers_from.Given as goal

abbrev pub invariant-loop-place : goal.invariant-loop-place
invariant-loop-place l =
    (column : ℕ) → l.start ≡ within_reach column → l.numbers.items ≡ numbers_from l.place column l.row
