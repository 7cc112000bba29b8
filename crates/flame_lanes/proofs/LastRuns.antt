-- Rows cut into runs, the last run first.
use Rattle.std.proofs.Common.{◌≡◌, ℕ, zero, suc, ◌+◌, ◌-◌, ◌*◌, ◌/◌, ◌<◌, ◌≤◌, List, [], ◌∷◌, ◌++◌, length, take, drop, reverse, refl, sym, ap, ap₂, ◌∙◌, arith, append_assoc}
use Rattle.std.proofs.Math.Nat.{div-lt_iff_lt-mul, div-mul-le_self, lt-div-mul-add}
use Rattle.std.proofs.lemmas.List.{drop-drop, drop-take, drop_all, length-drop, length-take-le, reverse-append, take-take, take_all}
use Rattle.flame_rows.specs.Cuts.{runs}

none-to-run : {X : Type 0} (most size : ℕ) → runs most size (let none : List X = [] in none) ≡ []
none-to-run zero size = refl
none-to-run (suc most) size = refl

first-run : {X : Type 0} (most size : ℕ) (xs : List X) → 0 < length xs
    → runs (suc most) size xs ≡ take size xs ∷ runs most size (drop size xs)
first-run most size [] some = absurd (omega (arith, some))
first-run most size (x ∷ xs) some = refl

-- all are one run
pub one-run : {X : Type 0} (most size : ℕ) (xs : List X) → 0 < most → 0 < length xs → length xs ≤ size
    → runs most size xs ≡ xs ∷ []
one-run zero size xs more some few = absurd (omega (arith, more))
one-run (suc most) size xs more some few =
    first-run most size xs some
    ∙ ap₂ (λ front back. front ∷ back) (take_all size xs few)
    (ap (runs most size) (drop_all size xs few) ∙ none-to-run most size)

-- the last run, and those before it
last-run : {X : Type 0} (most size k at : ℕ) (xs : List X) → 0 < size → at ≡ k * size → k < most → at < length xs
    → length xs ≤ at + size → runs most size xs ≡ runs most size (take at xs) ++ drop at xs ∷ []
last-run zero size k at xs wide is more some few = absurd (omega (arith, more))
last-run (suc most) size zero at xs wide is more some few =
    let none : at ≡ 0 = omega (arith, is) in
    one-run (suc most) size xs (omega arith) (omega (arith, some)) (omega (arith, none, few))
    ∙ sym (ap (λ n. runs (suc most) size (take n xs) ++ drop n xs ∷ []) none)
last-run (suc most) size (suc k) at xs wide is more some few =
    let rest : ℕ = k * size in
    let whole : at ≡ size + rest = omega (arith, is) in
    let long : length (take at xs) ≡ at = length-take-le at xs (omega (arith, some)) in
    let left : length (drop size xs) ≡ length xs - size = length-drop size xs in
    first-run most size xs (omega (arith, some))
    ∙ ap (λ l. take size xs ∷ l)
    (last-run most size k rest (drop size xs) wide refl (omega (arith, more)) (omega (arith, left, whole, some))
    (omega (arith, left, whole, few)))
    ∙ sym (
    ap (λ l. l ++ drop at xs ∷ []) (first-run most size (take at xs) (omega (arith, long, whole, wide)))
    ∙ ap₂ (λ front back. front ∷ (runs most size back ++ drop at xs ∷ []))
    (take-take size at xs (omega (arith, whole)))
    (ap (λ n. drop size (take n xs)) whole ∙ drop-take size rest xs)
    ∙ ap (λ l. take size xs ∷ (runs most size (take rest (drop size xs)) ++ l ∷ []))
    (ap (λ n. drop n xs) whole ∙ sym (drop-drop rest size xs))
    )

-- where the last run begins that is cut off
abbrev pub last_place : ℕ → ℕ → ℕ
last_place n size = (n - 1) / size * size

pub last-place-before : (n size : ℕ) → 0 < size → size < n → 0 < last_place n size
last-place-before n size wide more =
    let near : n - 1 < (n - 1) / size * size + size = lt-div-mul-add wide in
    omega (arith, near, more)

pub last-place-below : (n size : ℕ) → 0 < n → last_place n size < n
last-place-below n size some =
    let within : (n - 1) / size * size ≤ n - 1 = div-mul-le_self (n - 1) size in
    omega (arith, within, some)

-- one run more is cut off behind
pub runs-more : {X : Type 0} (most size : ℕ) (rest front back : List X) (own made whole : List (List X)) (at : ℕ)
    → 0 < size
    → 0 < length rest
    → length rest ≤ most * size
    → at ≡ last_place (length rest) size
    → front ≡ take at rest
    → back ≡ drop at rest
    → made ≡ own ++ back ∷ []
    → runs most size rest ++ reverse own ≡ whole
    → runs most size front ++ reverse made ≡ whole
runs-more most size rest front back own made whole at wide some few is before behind pushed kept =
    let n = length rest in
    let near : n - 1 < (n - 1) / size * size + size = lt-div-mul-add wide in
    let count : (n - 1) / size < most = (div-lt_iff_lt-mul wide).1 (omega (arith, few, some)) in
    ap₂ (λ f m. runs most size f ++ reverse m) before (pushed ∙ ap (λ b. own ++ b ∷ []) behind)
    ∙ ap (λ l. runs most size (take at rest) ++ l) (reverse-append own (drop at rest ∷ []))
    ∙ sym (append_assoc (runs most size (take at rest)) (drop at rest ∷ []) (reverse own))
    ∙ ap (λ l. l ++ reverse own)
    (sym (last-run most size ((n - 1) / size) at rest wide is count
    (omega (arith, is, last-place-below n size some)) (omega (arith, is, near))))
    ∙ kept

-- what is left is the first run
pub runs-over : {X : Type 0} (most size : ℕ) (rest : List X) (own made whole : List (List X))
    → 0 < most
    → 0 < length rest
    → length rest ≤ size
    → made ≡ own ++ rest ∷ []
    → runs most size rest ++ reverse own ≡ whole
    → reverse made ≡ whole
runs-over most size rest own made whole more some few pushed kept =
    ap reverse pushed
    ∙ reverse-append own (rest ∷ [])
    ∙ ap (λ l. l ++ reverse own) (sym (one-run most size rest more some few))
    ∙ kept
