-- What the messages of parts weigh, by their types.
use Rattle.std.proofs.Common.{◌≡◌, ℕ, ◌+◌, ◌||◌, Bool, true, false, cond, List, [], ◌∷◌, ◌++◌, map, refl, sym, ap, ◌∙◌, arith}
use Rattle.std.specs.Prelude.{ℤ, ◌==◌}
use Rattle.std.specs.List.{filter, flat_map}
use Rattle.std.proofs.lemmas.Bool.{eqb-true}
use Rattle.std.proofs.lemmas.List.{map-append}
use Rattle.std.proofs.lemmas.List.Elements.{filter-append}
use Rattle.flame_rows.specs.Bags.{ascending, weigh}
use Rattle.flame_rows.proofs.BagLaws.{weigh-append, weigh-ascending}
use Rattle.flame_spec.specs.Below.{HasNoTwice, is_in}
use Rattle.flame_spec.specs.declared.outcomes.Sent.{Sent}
use Rattle.flame_spec.proofs.NoTwice.{later-once, once-there}
use Rattle.flame_world.specs.declared.pieces.Piece.{Piece}
use Rattle.flame_world.specs.AgentRuns.{messages_of}
use Rattle.flame_world.specs.Meaning.{part_for}
use Rattle.flame_nodes.specs.NodeLeavings.{sent_among, sent_in}
use Rattle.flame_nodes.proofs.Totals.{Rows, Weight}

-- what passes, seen by its rows, of one list behind another
pub rows-append : {X : Type 0} (passes : X → Bool) (row : X → List ℤ) (ones twos : List X)
    → map row (filter passes (ones ++ twos)) ≡ map row (filter passes ones) ++ map row (filter passes twos)
rows-append passes row ones twos =
    ap (map row) (filter-append passes ones twos) ∙ map-append row (filter passes ones) (filter passes twos)

-- ---- the parts of a piece

module _ (piece : Piece) (sent : List Sent) (message : ℕ) (weight : Weight) where
  abbrev here : ℕ
  here = weigh weight (messages_of sent message)

  -- the messages of one type are all of it, or none
  one-type : (output : ℕ) (rows : Rows)
      → weigh weight (messages_of (map (λ (row : List ℤ). record { message = output; row = row }) rows) message)
      ≡ cond (output == message) (weigh weight rows) 0
  one-type output rows = by (output == message) refl rows
    where
      kept : (b : Bool) → (output == message) ≡ b → (row : List ℤ) (rest : List Sent)
          → weigh weight (map (λ (s : Sent). s.row) (cond (output == message) (record { message = output; row = row } ∷ rest) rest))
          ≡ cond b (weight row) 0 + weigh weight (map (λ (s : Sent). s.row) rest)
      kept true is row rest = ap (λ b. weigh weight (map (λ (s : Sent). s.row) (cond b (record { message = output; row = row } ∷ rest) rest))) is
      kept false is row rest = ap (λ b. weigh weight (map (λ (s : Sent). s.row) (cond b (record { message = output; row = row } ∷ rest) rest))) is ∙ omega arith

      by : (b : Bool) → (output == message) ≡ b → (rows : Rows)
          → weigh weight (messages_of (map (λ (row : List ℤ). record { message = output; row = row }) rows) message)
          ≡ cond (output == message) (weigh weight rows) 0
      by true is [] = sym (ap (λ b. cond b 0 0) is)
      by true is (row ∷ rows) =
          kept true is row (filter (λ (s : Sent). s.message == message) (map (λ (row : List ℤ). record { message = output; row = row }) rows))
          ∙ ap (λ n. weight row + n) (by true is rows ∙ ap (λ b. cond b (weigh weight rows) 0) is)
          ∙ sym (ap (λ b. cond b (weight row + weigh weight rows) 0) is)
      by false is [] = sym (ap (λ b. cond b 0 0) is)
      by false is (row ∷ rows) =
          kept false is row (filter (λ (s : Sent). s.message == message) (map (λ (row : List ℤ). record { message = output; row = row }) rows))
          ∙ omega (arith, by false is rows, ap (λ b. cond b (weigh weight rows) 0) is)
          ∙ sym (ap (λ b. cond b (weight row + weigh weight rows) 0) is)

  one-more : (output : ℕ) (b : Bool) (own others : ℕ) (there : Bool)
      → (b ≡ true → own ≡ here)
      → others ≡ cond there here 0
      → (b ≡ true → there ≡ false)
      → cond b own 0 + others ≡ cond (b || there) here 0
  one-more output true own others there is rest once = omega (arith, is refl, rest ∙ ap (λ t. cond t here 0) (once refl))
  one-more output false own others there is rest once = omega (arith, rest)

  pub parts-weigh : (outputs : List ℕ) → HasNoTwice outputs
      → weigh weight (messages_of (flat_map sent_in (map (part_for piece sent) outputs)) message) ≡ cond (is_in message outputs) here 0
  parts-weigh [] once = refl
  parts-weigh (output ∷ outputs) once =
      let rest = flat_map sent_in (map (part_for piece sent) outputs) in
      let rows = ascending (messages_of sent output) in
      ap (weigh weight) (rows-append (λ (s : Sent). s.message == message) (λ (s : Sent). s.row) (sent_in (part_for piece sent output)) rest)
      ∙ weigh-append weight (messages_of (sent_in (part_for piece sent output)) message) (messages_of rest message)
      ∙ ap (λ n. n + weigh weight (messages_of rest message)) (one-type output rows)
      ∙ one-more output (output == message) (weigh weight rows) (weigh weight (messages_of rest message)) (is_in message outputs)
      (λ same. weigh-ascending weight (messages_of sent output) ∙ ap (λ n. weigh weight (messages_of sent n)) (eqb-true output message same))
      (parts-weigh outputs (later-once output outputs once))
      (once-there message output outputs once)

-- those of the outputs weigh no more
pub among-weigh : (outputs : List ℕ) (sent : List Sent) (message : ℕ) (weight : Weight)
    → weigh weight (sent_among outputs sent message) ≡ cond (is_in message outputs) (weigh weight (messages_of sent message)) 0
among-weigh outputs sent message weight = by (is_in message outputs)
  where
    by : (b : Bool) → weigh weight (cond b (messages_of sent message) []) ≡ cond b (weigh weight (messages_of sent message)) 0
    by true = refl
    by false = refl
