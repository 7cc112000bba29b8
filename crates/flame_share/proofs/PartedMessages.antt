-- Messages parted by outputs, as parts of a piece.
use Rattle.std.proofs.Common.{◌≡◌, ℕ, List, [], ◌∷◌, map, refl}
use Rattle.std.specs.Prelude.{ℤ, Vec}
use Rattle.std.specs.Global.{Global}
use Rattle.std.specs.List.{zip}
use Rattle.flame_rows.proofs.Lists.{cons-parts}
use Rattle.flame_spec.specs.declared.outcomes.Sent.{Sent}
use Rattle.flame_world.specs.declared.pieces.Piece.{Piece}
use Rattle.flame_world.specs.AgentRuns.{messages_of}
use Rattle.flame_world.specs.Meaning.{part_for}
use Rattle.flame_share.specs.PieceParts.{part_with}

pub parts-parted : (piece : Piece) (sent : List Sent) (lists : List (Vec (List ℤ) Global)) (outputs : List ℕ)
    → map (λ (rows : Vec (List ℤ) Global). rows.items) lists ≡ map (messages_of sent) outputs
    → map (λ (rows, message). part_with piece message rows.items) (zip lists outputs) ≡ map (part_for piece sent) outputs
parts-parted piece sent [] [] parted = refl
parts-parted piece sent [] (message ∷ outputs) parted = absurd (cc)
parts-parted piece sent (rows ∷ lists) [] parted = absurd (cc)
parts-parted piece sent (rows ∷ lists) (message ∷ outputs) parted =
    let two = cons-parts rows.items (messages_of sent message) (map (λ (r : Vec (List ℤ) Global). r.items) lists)
    (map (messages_of sent) outputs) parted in
    λ i. part_with piece message (two.0 i) ∷ parts-parted piece sent lists outputs two.1 i
