use Rattle.std.proofs.Common.{ℕ, List, [], ◌∷◌, ap, arith, length, length-append}
use Rattle.std.specs.Prelude.{ℤ}
use Rattle.flame_spec.specs.declared.outcomes.Outcome.{Outcome}
use Rattle.flame_lanes.specs.declared.gains.Gain.{Gain}
use Rattle.flame_lanes.specs.LayerGains.{IsGain}
use Rattle.flame_lanes.proofs.GainLists.{each-push}
use Rattle.flame_lanes.proofs.gains.nothing.Goals as goal

pub loop-function-preserved : goal.loop-function-preserved
loop-function-preserved c =
    let before = c.loop-function.gains.items in
    let one = c.nothing.result in
    record {
      long = omega (arith, ap length c.in_ok-push.ensures.items, length-append before (one ∷ []), c.loop-function.invariant.long);
      none = rw c.in_ok-push.ensures.items (each-push
          (λ (gain : Gain). (iteration : ℤ) (function : ℕ) (run : List ℤ → Outcome) → IsGain iteration function run [] gain)
          before one c.loop-function.invariant.none c.nothing.ensures);
    }
