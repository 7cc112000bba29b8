-- Things that are kept, and what they are.
use Rattle.std.proofs.Common.{◌≡◌, ℕ, zero, suc, ◌<◌, List, [], ◌∷◌, length, map, ap, ◌∙◌, arith}
use Rattle.std.proofs.lemmas.List.{map-set}
use Rattle.std.specs.Prelude.{slice_index_or, slice_set}
use Rattle.flame_pieces.specs.Waiting.{Awaited, thing_at, awaited}
use Rattle.flame_pieces.specs.declared.waits.Awaited as run

-- a number that is there, whatever else would be
pub at_zero : (numbers : List ℕ) (k number : ℕ) → k < length numbers → number ≡ slice_index_or numbers k number → number ≡ slice_index_or numbers k 0
at_zero [] k number within is = absurd (omega (arith, within))
at_zero (first ∷ numbers) zero number within is = is
at_zero (first ∷ numbers) (suc k) number within is = at_zero numbers k number (omega (arith, within)) is

-- the thing of a number
pub thing_is : (things : List run.Awaited) (k : ℕ) (thing : run.Awaited) → k < length things → thing ≡ slice_index_or things k thing
    → awaited thing ≡ thing_at (map awaited things) k
thing_is [] k thing within is = absurd (omega (arith, within))
thing_is (first ∷ things) zero thing within is = ap awaited is
thing_is (first ∷ things) (suc k) thing within is = thing_is things k thing (omega (arith, within)) is

-- one that is what it was
pub things_kept : (things : List run.Awaited) (k : ℕ) (before after : run.Awaited) → k < length things → before ≡ slice_index_or things k before
    → awaited after ≡ awaited before → map awaited (slice_set things k after) ≡ map awaited things
things_kept [] k before after within is same = absurd (omega (arith, within))
things_kept (first ∷ things) zero before after within is same = ap (λ t. t ∷ map awaited things) (same ∙ ap awaited is)
things_kept (first ∷ things) (suc k) before after within is same =
    ap (λ l. awaited first ∷ l) (things_kept things k before after (omega (arith, within)) is same)

-- one that changed
pub things_changed : (change : Awaited → Awaited) (things : List run.Awaited) (k : ℕ) (before after : run.Awaited) → k < length things
    → before ≡ slice_index_or things k before → awaited after ≡ change (awaited before)
    → map awaited (slice_set things k after) ≡ slice_set (map awaited things) k (change (thing_at (map awaited things) k))
things_changed change things k before after within is changes =
    map-set awaited things k after
    ∙ ap (λ t. slice_set (map awaited things) k t) (changes ∙ ap change (thing_is things k before within is))
