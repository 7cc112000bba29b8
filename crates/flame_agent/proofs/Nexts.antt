-- What some agents left and what one more has added, before the rest of it is put to theirs.
use Rattle.std.proofs.Common.{◌≡◌, ℕ, List, ◌++◌, Option, refl, sym, ap, ◌∙◌}
use Rattle.std.specs.Prelude.{ℤ}
use Rattle.flame_spec.specs.declared.faults.Fault.{Fault}
use Rattle.flame_spec.specs.declared.outcomes.Effect.{Effect}
use Rattle.flame_spec.specs.declared.outcomes.Outcome.{Outcome}
use Rattle.flame_spec.specs.declared.outcomes.Outcome.TheVariants as outcome
use Rattle.flame_machine.specs.declared.endings.Ending.{Ending}
use Rattle.flame_machine.specs.declared.endings.Ending.TheVariants as ending
use Rattle.flame_machine.specs.RunsInto.{RanInto, ending_of, messages_added, births_added}
use Rattle.flame_world.specs.AgentRuns.{sent_by, born_by}
use Rattle.flame_leaving.specs.declared.leavings.Leaving.{Leaving}
use Rattle.flame_leaving.specs.Leavings.{AreLeft, AreLeftBut}

messages-by : (o : Outcome) → messages_added o ≡ sent_by o
messages-by (outcome.Ended effect) = refl
messages-by (outcome.Faulted fault) = refl

births-by : (o : Outcome) → births_added o ≡ born_by o
births-by (outcome.Ended effect) = refl
births-by (outcome.Faulted fault) = refl

pub added-next : (iteration : ℤ) (function : ℕ) (run : List ℤ → Outcome) (agents : List (List ℤ)) (memory : List ℤ)
    (end : Ending) (old new : Leaving)
    → AreLeft iteration function run agents old
    → RanInto (λ o. o ≡ run memory) end old.sent.items new.sent.items old.born.items new.born.items
    → new.ran ≡ old.ran
    → new.survivors.items ≡ old.survivors.items
    → new.fault ≡ old.fault
    → AreLeftBut iteration function run agents memory new
added-next iteration function run agents memory end old new left more ran survivors fault = record {
  ran = ran ∙ left.ran;
  survivors = survivors ∙ left.survivors;
  sent = more.messages ∙ (λ i. left.sent i ++ (messages-by more.outcome ∙ ap sent_by more.holds) i);
  born = more.births ∙ (λ i. left.born i ++ (births-by more.outcome ∙ ap born_by more.holds) i);
  fault = fault ∙ left.fault;
}

-- ---- how the one more ended

pub ended-by : (o other : Outcome) (memory : Option (List ℤ)) (fuel : ℕ)
    → ending.Ended memory fuel ≡ ending_of o
    → o ≡ other
    → (effect : Effect) × (other ≡ outcome.Ended effect) × (effect.memory ≡ memory)
ended-by (outcome.Ended effect) other memory fuel is same = (effect, sym same, cc)
ended-by (outcome.Faulted fault) other memory fuel is same = absurd cc

pub faulted-by : (o other : Outcome) (fault : Fault)
    → ending.Faulted fault ≡ ending_of o
    → o ≡ other
    → other ≡ outcome.Faulted fault
faulted-by (outcome.Ended effect) other fault is same = absurd cc
faulted-by (outcome.Faulted own) other fault is same = let e : own ≡ fault = cc in sym same ∙ ap outcome.Faulted e
