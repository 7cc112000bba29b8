-- One part more is handed in.
use Rattle.std.proofs.Common.{◌≡◌, ◌+◌, List, [], ◌∷◌, ◌++◌, length, Option, Some, None, refl, ap, arith}
use Rattle.flame_world.specs.declared.pieces.Part.{Part}
use Rattle.flame_board.specs.LaneParts.{gaps, put_in}

pub gaps-gap : (stayed : List (Option Part)) → gaps (stayed ++ None ∷ []) ≡ gaps stayed + 1
gaps-gap [] = refl
gaps-gap (None ∷ stayed) = omega (arith, gaps-gap stayed)
gaps-gap (Some part ∷ stayed) = gaps-gap stayed

pub gaps-part : (stayed : List (Option Part)) (part : Part) → gaps (stayed ++ Some part ∷ []) ≡ gaps stayed
gaps-part [] part = refl
gaps-part (None ∷ stayed) part = omega (arith, gaps-part stayed part)
gaps-part (Some other ∷ stayed) part = gaps-part stayed part

-- a part that went
pub put_in-went : (stayed : List (Option Part)) (went : List Part) (part : Part) → gaps stayed ≡ length went
    → put_in (stayed ++ None ∷ []) (went ++ part ∷ []) ≡ put_in stayed went ++ part ∷ []
put_in-went [] [] part same = refl
put_in-went [] (first ∷ went) part same = absurd (omega (arith, same))
put_in-went (None ∷ stayed) [] part same = absurd (omega (arith, same))
put_in-went (None ∷ stayed) (first ∷ went) part same = ap (λ l. first ∷ l) (put_in-went stayed went part (omega (arith, same)))
put_in-went (Some first ∷ stayed) went part same = ap (λ l. first ∷ l) (put_in-went stayed went part same)

-- a part that stayed
pub put_in-part : (stayed : List (Option Part)) (went : List Part) (part : Part) → gaps stayed ≡ length went
    → put_in (stayed ++ Some part ∷ []) went ≡ put_in stayed went ++ part ∷ []
put_in-part [] [] part same = refl
put_in-part [] (first ∷ went) part same = absurd (omega (arith, same))
put_in-part (None ∷ stayed) [] part same = absurd (omega (arith, same))
put_in-part (None ∷ stayed) (first ∷ went) part same = ap (λ l. first ∷ l) (put_in-part stayed went part (omega (arith, same)))
put_in-part (Some first ∷ stayed) went part same = ap (λ l. first ∷ l) (put_in-part stayed went part same)
