-- Agents, as they are cut into even pieces.
use Rattle.std.proofs.Common.{◌≡◌, ℕ, zero, suc, ◌+◌, ◌-◌, ◌/◌, ◌%◌, ◌*◌, ◌<◌, ◌≤◌, List, [], ◌∷◌, ◌++◌, length, take, drop, None, Some, refl, sym, ap, ◌∙◌, arith, subst, take-append-drop, length-take, length-drop, le-div_iff_mul-le, div-lt_iff_lt-mul, div-add-mod', mul_comm}
use Rattle.std.specs.Prelude.{ℤ, slice_get}
use Rattle.std.proofs.lemmas.Nat.{mod_below}
use Rattle.flame_rows.specs.Cuts.{piece_size, runs}
use Rattle.flame_events.specs.EvenPieces.{AreEven, PieceSizesAreShares, CutsAreEven, NobodyIsNoPiece}

-- ---- the size of a piece

pub share_covers : (n p : ℕ) → 0 < p → n ≤ p * piece_size n p
share_covers n p some =
    let x = n + p - 1 in
    let q = x / p in
    let whole : q * p + x % p ≡ x = div-add-mod' x p in
    let rest : x % p < p = mod_below x p some in
    let turned : p * q ≡ q * p = mul_comm p q in
    let enough : n ≤ q * p = omega (arith, whole, rest, some) in
    subst (λ k. n ≤ k) (sym turned) enough

pub share_counts : (n p : ℕ) → 0 < p → 0 < n → 0 < piece_size n p
share_counts n p some more =
    let size : 1 ≤ piece_size n p = (le-div_iff_mul-le some).1 (omega (arith, some, more)) in
    omega (arith, size)

share_least : (n p size : ℕ) → 0 < p → n ≤ p * size → piece_size n p ≤ size
share_least n p size some enough =
    let turned : p * size ≡ size * p = mul_comm p size in
    let below : piece_size n p < size + 1 = (div-lt_iff_lt-mul some).1 (grind (arith, some, enough, turned)) in
    omega (arith, below)

pub piece_sizes_are_shares : PieceSizesAreShares
piece_sizes_are_shares agents pieces some = (share_covers agents pieces some, λ size enough. share_least agents pieces size some enough)

-- ---- pieces

pub none_to_run : (more size : ℕ) → runs more size (let nobody : List (List ℤ) = [] in nobody) ≡ []
none_to_run zero size = refl
none_to_run (suc more) size = refl

-- where there is a piece there are agents
runs_some : (more size : ℕ) (agents : List (List ℤ)) → 0 < length (runs more size agents) → 0 < length agents
runs_some more size [] some = absurd (omega (arith, some, ap (length {A = List (List ℤ)}) (none_to_run more size)))
runs_some more size (agent ∷ agents) some = omega arith

nobody_even : (pieces size : ℕ) → AreEven [] pieces size []
nobody_even pieces size = record {
  whole = refl;
  few = omega arith;
  filled = λ piece bag at. absurd (nothing bag at);
  even = λ piece bag at more. absurd (nothing bag at);
}
  where
    nothing : (bag : List (List ℤ)) → None ≡ Some bag → ⊥
    nothing bag at = cc

runs_even : (more size : ℕ) (agents : List (List ℤ)) → 0 < size → length agents ≤ more * size → AreEven agents more size (runs more size agents)
runs_even zero size [] some enough = nobody_even 0 size
runs_even zero size (agent ∷ agents) some enough = absurd (omega (arith, enough))
runs_even (suc more) size [] some enough = nobody_even (suc more) size
runs_even (suc more) size (agent ∷ agents) some enough =
    let all = agent ∷ agents in
    let left = drop size all in
    let long = length-drop size all in
    let rest = runs_even more size left some (grind (arith, long, enough)) in
    record {
      whole = ap (λ l. take size all ++ l) rest.whole ∙ take-append-drop size all;
      few = omega (arith, rest.few);
      filled = λ piece bag at. filled rest piece bag at;
      even = λ piece bag at more. even rest piece bag at more;
    }
  where
    filled : AreEven (drop size (agent ∷ agents)) more size (runs more size (drop size (agent ∷ agents))) → (piece : ℕ) (bag : List (List ℤ))
        → slice_get (take size (agent ∷ agents) ∷ runs more size (drop size (agent ∷ agents))) piece ≡ Some bag → (0 < length bag) × (length bag ≤ size)
    filled rest zero bag at =
        let same : take size (agent ∷ agents) ≡ bag = cc in
        let long = length-take size (agent ∷ agents) in
        subst (λ b. (0 < length b) × (length b ≤ size)) same (omega (arith, long, some), omega (arith, long))
    filled rest (suc piece) bag at = rest.filled piece bag at

    even : AreEven (drop size (agent ∷ agents)) more size (runs more size (drop size (agent ∷ agents))) → (piece : ℕ) (bag : List (List ℤ))
        → slice_get (take size (agent ∷ agents) ∷ runs more size (drop size (agent ∷ agents))) piece ≡ Some bag
        → piece + 1 < suc (length (runs more size (drop size (agent ∷ agents)))) → length bag ≡ size
    even rest zero bag at others =
        let same : take size (agent ∷ agents) ≡ bag = cc in
        let left : 0 < length (drop size (agent ∷ agents)) = runs_some more size (drop size (agent ∷ agents)) (omega (arith, others)) in
        subst (λ b. length b ≡ size) same (omega (arith, length-take size (agent ∷ agents), length-drop size (agent ∷ agents), left))
    even rest (suc piece) bag at others = rest.even piece bag at (omega (arith, others))

pub nobody_is_no_piece : NobodyIsNoPiece
nobody_is_no_piece pieces = none_to_run pieces (piece_size 0 pieces)

pub cuts_are_even : CutsAreEven
cuts_are_even [] pieces some = subst (AreEven [] pieces (piece_size 0 pieces)) (sym (nobody_is_no_piece pieces)) (nobody_even pieces (piece_size 0 pieces))
cuts_are_even (agent ∷ agents) pieces some =
    let many = length (agent ∷ agents) in
    runs_even pieces (piece_size many pieces) (agent ∷ agents) (share_counts many pieces some (omega arith)) (share_covers many pieces some)
