-- Weights of rows, of those that pass a test, and of those that come from many functions.
use Rattle.std.proofs.Common.{◌≡◌, ℕ, zero, suc, ◌+◌, ◌<◌, Bool, true, false, cond, List, [], ◌∷◌, ◌++◌, refl, sym, ap, arith, ⊎_elim, subst}
use Rattle.std.specs.Prelude.{ℤ}
use Rattle.std.specs.List.{filter}
use Rattle.std.proofs.lemmas.Bool.{cases_eq}
use Rattle.flame_rows.specs.Bags.{weigh}
use Rattle.flame_rows.proofs.BagLaws.{weigh-append}

abbrev pub Row : Type 0
Row = List ℤ

abbrev pub Rows : Type 0
Rows = List Row

abbrev pub Weight : Type 0
Weight = Row → ℕ

-- ---- rows that pass

-- a row weighs something where it passes, and nothing else
abbrev pub only : (Row → Bool) → Weight → Weight
only passes w row = cond (passes row) (w row) 0

pub weigh-filter : (w : Weight) (passes : Row → Bool) (rows : Rows) → weigh w (filter passes rows) ≡ weigh (only passes w) rows
weigh-filter w passes [] = refl
weigh-filter w passes (row ∷ rows) =
    let rest = weigh-filter w passes rows in
    elim (passes row) as (λ t. weigh w (cond t (row ∷ filter passes rows) (filter passes rows)) ≡ cond t (w row) 0 + weigh (only passes w) rows) [
      | true ↦ omega (arith, rest)
      | false ↦ omega (arith, rest)
    ]

pub weigh-same : (v w : Weight) (rows : Rows) → ((row : Row) → v row ≡ w row) → weigh v rows ≡ weigh w rows
weigh-same v w rows same = ap (λ (u : Weight). weigh u rows) (λ i row. same row i)

-- ---- rows of all functions

-- the rows of all numbers below n
abbrev pub all_from : ℕ → (ℕ → Rows) → Rows
all_from zero rows = []
all_from (suc n) rows = rows n ++ all_from n rows

pub all_from-same : (n : ℕ) (rows others : ℕ → Rows) → ((i : ℕ) → i < n → rows i ≡ others i) → all_from n rows ≡ all_from n others
all_from-same zero rows others same = refl
all_from-same (suc n) rows others same =
    let here : rows n ≡ others n = same n (omega arith) in
    let rest = all_from-same n rows others (λ i less. same i (omega (arith, less))) in
    λ i. here i ++ rest i

pub weigh-all_from-none : (w : Weight) (n : ℕ) (rows : ℕ → Rows) → ((i : ℕ) → weigh w (rows i) ≡ 0) → weigh w (all_from n rows) ≡ 0
weigh-all_from-none w zero rows none = refl
weigh-all_from-none w (suc n) rows none =
    omega (arith, weigh-append w (rows n) (all_from n rows), none n, weigh-all_from-none w n rows none)

-- where the rows of one number weigh more, all do by as much
pub weigh-all_from-more : (w : Weight) (n f more : ℕ) (rows others : ℕ → Rows)
    → f < n
    → ((i : ℕ) → i < n → (i ≡ f → ⊥) → others i ≡ rows i)
    → weigh w (others f) ≡ weigh w (rows f) + more
    → weigh w (all_from n others) ≡ weigh w (all_from n rows) + more
weigh-all_from-more w zero f more rows others less else new = absurd (omega (arith, less))
weigh-all_from-more w (suc n) f more rows others less else new =
    let one = weigh-append w (rows n) (all_from n rows) in
    let two = weigh-append w (others n) (all_from n others) in
    ⊎_elim
    (λ (here : n ≡ f).
    let P : ℕ → Type 0 = λ k. weigh w (others k) ≡ weigh w (rows k) + more in
    let last : weigh w (others n) ≡ weigh w (rows n) + more = subst P (sym here) new in
    let rest = all_from-same n others rows (λ i under. else i (omega (arith, under)) (λ z. omega (arith, under, here, z))) in
    omega (arith, one, two, last, ap (weigh w) rest))
    (λ (apart : n ≡ f → ⊥).
    let under : f < n = omega (arith, less, apart) in
    let rest = weigh-all_from-more w n f more rows others under (λ i l z. else i (omega (arith, l)) z) new in
    omega (arith, one, two, rest, ap (weigh w) (else n (omega arith) apart)))
    (cases_eq n f)
