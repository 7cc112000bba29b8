-- The numbers below n that pass a test, and lists of numbers.
use Rattle.std.specs.Prelude.{ℕ, zero, suc, ◌≤◌, ◌==◌, List, [], ◌∷◌, ◌++◌, Bool, Option, Some, None, if◌then◌else◌}
use Rattle.std.specs.List.{list_any, count_by}
use Rattle.std.specs.Option.{option_or}

-- all of them, ascending [own]
abbrev pub all_below : (ℕ → Bool) → ℕ → List ℕ
all_below test zero = []
all_below test (suc n) = all_below test n ++ (if test n then n ∷ [] else [])

-- the first of them, if there is one [own]
abbrev pub first_below : (ℕ → Bool) → ℕ → Option ℕ
first_below test zero = None
first_below test (suc n) = option_or (first_below test n) (if test n then Some n else None)

-- the number is in the list [own]
abbrev pub is_in : ℕ → List ℕ → Bool
is_in number numbers = list_any (λ other. other == number) numbers

-- how often the number stands in the list [own]
abbrev pub times : ℕ → List ℕ → ℕ
times number numbers = count_by (λ other. other == number) numbers

-- no number stands twice in the list [own]
abbrev pub HasNoTwice : List ℕ → Type 0
HasNoTwice numbers = (number : ℕ) → times number numbers ≤ 1
