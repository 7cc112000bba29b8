use Rattle.std.proofs.Common.{◌≡◌, ℕ}
use Rattle.std.specs.Prelude.{nat_lt}
use Rattle.flame_spec.specs.Below.{is_in}
use Rattle.flame_flow.proofs.numbers.numbers_below.Given as goal

abbrev pub invariant-loop-place : goal.invariant-loop-place
invariant-loop-place l = (k : ℕ) → is_in k l.numbers.items ≡ nat_lt k l.place
