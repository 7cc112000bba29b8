-- What agents leave belongs to types and messages of the model.
use Rattle.std.proofs.Common.{◌≡◌, ℕ, ◌<◌, List, [], ◌∷◌, length, refl}
use Rattle.std.specs.Prelude.{ℤ}
use Rattle.std.specs.List.{All}
use Rattle.flame_rows.proofs.Lists.{slice_get-IsSomeAnd}
use Rattle.flame_spec.specs.declared.outcomes.Effect.{Effect}
use Rattle.flame_spec.specs.declared.outcomes.Outcome.{Outcome}
use Rattle.flame_spec.specs.declared.outcomes.Outcome.TheVariants.{Ended, Faulted}
use Rattle.flame_spec.specs.declared.outcomes.Sent.{Sent}
use Rattle.flame_spec.specs.declared.outcomes.Source.{Source}
use Rattle.flame_meaning.specs.OutcomeLaws.{HasWidths}
use Rattle.flame_meaning.specs.Outcomes.{outcome, readings_of}
use Rattle.flame_meaning.specs.RangeLaws.{Each}
use Rattle.flame_meaning.proofs.Leavings.{rows_have_widths}
use Rattle.flame_world.specs.AgentRuns.{sent_by, sent_from}
use Rattle.flame_world.proofs.Eachs.{all_each, each_all, each_flat_map}

each_of : {X : Type 0} (P : X → Type 0) → ((x : X) → P x) → (xs : List X) → Each P xs
each_of P all [] = tt
each_of P all (x ∷ xs) = (all x, each_of P all xs)

module _ (source : Source) (function : ℕ) (boards : List (List (List ℤ))) (constants : List ℤ) (iteration : ℤ) (fuel : ℕ) where
  abbrev run : List ℤ → Outcome
  run memory = outcome source function memory boards constants iteration fuel

  left : (memory : List ℤ) (effect : Effect) → run memory ≡ Ended effect → HasWidths source.model memory effect
  left memory effect is = rows_have_widths source function memory (readings_of source function memory boards) constants iteration fuel effect is

  sent_at : (memory : List ℤ) → Each (λ (s : Sent). s.message < length source.model.messages) (sent_by (run memory))
  sent_at memory = go (run memory) (left memory)
    where
      go : (o : Outcome) → ((effect : Effect) → o ≡ Ended effect → HasWidths source.model memory effect) → Each (λ (s : Sent). s.message < length source.model.messages) (sent_by o)
      go (Ended effect) has =
          all_each (λ (s : Sent). s.message < length source.model.messages) effect.sent
          (λ k d less. slice_get-IsSomeAnd _ source.model.messages _ ((has effect refl).sent k d less))
      go (Faulted fault) has = tt

  pub sent-within : (agents : List (List ℤ)) → All (λ (s : Sent). s.message < length source.model.messages) (sent_from run agents)
  sent-within agents =
      each_all (λ (s : Sent). s.message < length source.model.messages) (sent_from run agents)
      (each_flat_map (λ memory. Unit {0}) (λ (s : Sent). s.message < length source.model.messages) (λ memory. sent_by (run memory)) (λ memory _. sent_at memory) agents
      (each_of (λ memory. Unit {0}) (λ memory. tt) agents))
