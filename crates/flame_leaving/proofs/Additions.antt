-- What some agents and one more leave.
use Rattle.std.proofs.Common.{◌≡◌, ℕ, ◌+◌, List, [], ◌∷◌, ◌++◌, sym, ap, ◌∙◌, arith, append-nil, length-append}
use Rattle.std.specs.Prelude.{ℤ}
use Rattle.std.specs.List.{flat_map, cons_option}
use Rattle.std.proofs.lemmas.List.Elements.{filter_map-append}
use Rattle.std.proofs.lemmas.Grind.{flat_map-append}
use Rattle.flame_spec.specs.declared.outcomes.Outcome.{Outcome}
use Rattle.flame_world.specs.AgentRuns.{kept, sent_by, born_by, fault_by}
use Rattle.flame_leaving.specs.declared.leavings.Leaving.{Leaving}
use Rattle.flame_leaving.specs.Leavings.{AreLeft, AreLeftBut}
use Rattle.flame_leaving.specs.WholeLaws.{least_of}
use Rattle.flame_leaving.proofs.LeastFaults.{least_fault-next}

flat_map-push : {X Y : Type 0} (f : X → List Y) (xs : List X) (x : X) → flat_map f (xs ++ x ∷ []) ≡ flat_map f xs ++ f x
flat_map-push f xs x = flat_map-append f xs (x ∷ []) ∙ ap (λ l. flat_map f xs ++ l) (append-nil (f x))

pub left-next : (iteration : ℤ) (function : ℕ) (run : List ℤ → Outcome) (agents : List (List ℤ)) (memory : List ℤ)
    (outcome : Outcome) (old new : Leaving)
    → run memory ≡ outcome
    → AreLeftBut iteration function run agents memory old
    → new.ran ≡ old.ran + 1
    → new.survivors.items ≡ old.survivors.items ++ cons_option (kept outcome) []
    → new.sent.items ≡ old.sent.items
    → new.born.items ≡ old.born.items
    → new.fault ≡ least_of old.fault (fault_by iteration function memory outcome)
    → AreLeft iteration function run (agents ++ memory ∷ []) new
left-next iteration function run agents memory outcome old new is left ran survivors sent born fault = record {
  ran = omega (arith, ran, left.ran, length-append agents (memory ∷ []));
  survivors =
      survivors
      ∙ (λ i. left.survivors i ++ cons_option (kept (sym is i)) [])
      ∙ sym (filter_map-append (λ m. kept (run m)) agents (memory ∷ []));
  sent = sent ∙ left.sent ∙ sym (flat_map-push (λ m. sent_by (run m)) agents memory);
  born = born ∙ left.born ∙ sym (flat_map-push (λ m. born_by (run m)) agents memory);
  fault =
      fault
      ∙ (λ i. least_of (left.fault i) (fault_by iteration function memory (sym is i)))
      ∙ sym (least_fault-next iteration function run agents memory);
}
