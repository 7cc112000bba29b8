use Rattle.std.proofs.Common.{◌≡◌, ℕ, List, [], Some, length}
use Rattle.std.specs.Prelude.{ℤ, slice_get}
use Rattle.flame_spec.specs.declared.outcomes.Outcome.{Outcome}
use Rattle.flame_lanes.specs.declared.gains.Gain.{Gain}
use Rattle.flame_lanes.specs.LayerGains.{IsGain}
use Rattle.flame_lanes.proofs.gains.nothing.Given as goal

abbrev pub invariant-loop-function : goal.invariant-loop-function
invariant-loop-function l = record {
  long : length l.gains.items ≡ l._function;
  none : (place : ℕ) (gain : Gain) → slice_get l.gains.items place ≡ Some gain
      → (iteration : ℤ) (function : ℕ) (run : List ℤ → Outcome) → IsGain iteration function run [] gain;
}
