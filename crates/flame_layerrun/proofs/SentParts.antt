-- What the parts of a task weigh, by their messages.
use Rattle.std.proofs.Common.{◌≡◌, ℕ, ◌+◌, ◌||◌, Bool, true, false, cond, List, [], ◌∷◌, map, refl, ap, ◌∙◌, arith}
use Rattle.std.specs.Prelude.{ℤ, ◌==◌}
use Rattle.std.proofs.lemmas.Bool.{eqb-true}
use Rattle.flame_rows.specs.Bags.{weigh}
use Rattle.flame_rows.proofs.BagLaws.{weigh-ascending}
use Rattle.flame_spec.specs.Below.{HasNoTwice, is_in}
use Rattle.flame_spec.specs.declared.outcomes.Sent.{Sent}
use Rattle.flame_spec.proofs.NoTwice.{later-once, once-there}
use Rattle.flame_world.specs.declared.pieces.Part.{Part}
use Rattle.flame_world.specs.declared.pieces.Piece.{Piece}
use Rattle.flame_world.specs.AgentRuns.{messages_of}
use Rattle.flame_world.specs.Meaning.{part_for}
use Rattle.flame_layerrun.specs.LayerWork.{weigh_of_type}

module _ (piece : Piece) (sent : List Sent) (message : ℕ) (weight : List ℤ → ℕ) where
  abbrev here : ℕ
  here = weigh weight (messages_of sent message)

  -- what the part for an output weighs
  abbrev own : ℕ → ℕ
  own output = weigh weight (part_for piece sent output).rows

  one-more : (output : ℕ) (b : Bool) (others : ℕ) (there : Bool)
      → (b ≡ true → own output ≡ here)
      → others ≡ cond there here 0
      → (b ≡ true → there ≡ false)
      → cond b (own output) 0 + others ≡ cond (b || there) here 0
  one-more output true others there is rest once = omega (arith, is refl, rest ∙ ap (λ t. cond t here 0) (once refl))
  one-more output false others there is rest once = omega (arith, rest)

  pub weigh-parts : (outputs : List ℕ) → HasNoTwice outputs
      → weigh_of_type (map (part_for piece sent) outputs) message weight ≡ cond (is_in message outputs) here 0
  weigh-parts [] once = refl
  weigh-parts (output ∷ outputs) once =
      one-more output (output == message) (weigh_of_type (map (part_for piece sent) outputs) message weight)
      (is_in message outputs)
      (λ same.
      weigh-ascending weight (messages_of sent output)
      ∙ ap (λ n. weigh weight (messages_of sent n)) (eqb-true output message same))
      (weigh-parts outputs (later-once output outputs once))
      (once-there message output outputs once)

pub messages-parts : (piece : Piece) (sent : List Sent) (outputs : List ℕ)
    → map (λ (part : Part). part.message) (map (part_for piece sent) outputs) ≡ outputs
messages-parts piece sent [] = refl
messages-parts piece sent (output ∷ outputs) = ap (λ numbers. output ∷ numbers) (messages-parts piece sent outputs)
