-- What is not there is not changed.
use Rattle.std.proofs.Common.{◌≡◌, ℕ, zero, suc, ◌≤◌, List, [], ◌∷◌, length, map, refl, arith}
use Rattle.flame_world.specs.Fields.{changed}

pub changed-past : {X Y : Type 0} (g : X → Y) (place : ℕ) (f : Y → Y) (xs : List X) → length xs ≤ place → changed place f (map g xs) ≡ map g xs
changed-past g place f [] over = refl
changed-past g zero f (x ∷ xs) over = absurd (omega (arith, over))
changed-past g (suc place) f (x ∷ xs) over = λ i. g x ∷ changed-past g place f xs (omega (arith, over)) i
