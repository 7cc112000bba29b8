-- What a complete core comes to.
use Rattle.std.proofs.Common.{◌≡◌, ℕ, ◌+◌, Bool, true, cond, List, sym, ap, ◌∙◌}
use Rattle.flame_spec.specs.Accepted.{IsAccepted}
use Rattle.flame_world.specs.declared.turns.Turn.{Turn}
use Rattle.flame_world.specs.declared.verdicts.Verdict.TheVariants.{Incomplete}
use Rattle.flame_world.specs.Iterations.{iteration}
use Rattle.flame_events.specs.CoreEnds.{is_complete, ending}
use Rattle.flame_events.specs.EveryOrder.{EveryOrderIsTheIteration}
use Rattle.flame_core.specs.SeenCores.{Seen, IsReached, round_in}
use Rattle.flame_core.proofs.Comings.{ending-iteration}
use Rattle.flame_trace.specs.TraceVerdicts.{turn_verdict, end_verdict}

-- the verdict on the end of a complete core, of which the iteration is this turn
pub ended-is : EveryOrderIsTheIteration → (seen : Seen) → IsAccepted seen.source → IsReached seen
    → is_complete seen.source.model seen.core ≡ true
    → (turn : Turn)
    → turn ≡ iteration seen.source seen.world seen.iteration seen.fuel
    → (events : ℕ) (line rest : List ℕ)
    → turn_verdict seen.source.model seen.iteration events turn line rest ≡ end_verdict (round_in seen) events seen.core line rest
ended-is every seen accepted reached complete turn is events line rest =
    ap (λ (last : Turn). turn_verdict seen.source.model seen.iteration events last line rest)
    (is ∙ sym (ending-iteration every seen accepted reached complete))
    ∙ sym
    (ap
    (λ (test : Bool).
    cond test (turn_verdict seen.source.model seen.iteration events (ending (round_in seen) seen.core) line rest)
    (Incomplete (events + 2)))
    complete)
