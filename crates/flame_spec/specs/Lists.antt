-- Lists that come from other lists, element by element.
use Rattle.std.specs.Prelude.{ℕ, ◌+◌, List, [], ◌∷◌, ◌++◌, Bool, Option, Some, None, if◌then◌else◌}

-- what each element gives with its number, one after another, numbered from i [own]
abbrev pub each_from : {X Y : Type 0} → (ℕ → X → List Y) → ℕ → List X → List Y
each_from f i [] = []
each_from f i (x ∷ xs) = f i x ++ each_from f (i + 1) xs

-- what each element gives with its number, one after another [own]
abbrev pub each : {X Y : Type 0} → (ℕ → X → List Y) → List X → List Y
each f xs = each_from f 0 xs

-- the first of a list [own]
abbrev pub first : {X : Type 0} → List X → Option X
first [] = None
first (x ∷ xs) = Some x

-- the first that passes, with its number, where they are numbered from i [own]
abbrev pub numbered_from : {X : Type 0} → (X → Bool) → ℕ → List X → Option (ℕ × X)
numbered_from passes i [] = None
numbered_from passes i (x ∷ xs) = if passes x then Some (i, x) else numbered_from passes (i + 1) xs

-- the first that passes, with its number, from 0 [own]
abbrev pub numbered_where : {X : Type 0} → (X → Bool) → List X → Option (ℕ × X)
numbered_where passes xs = numbered_from passes 0 xs

-- the numbers of all that pass, where they are numbered from i [own]
abbrev pub numbers_from : {X : Type 0} → (X → Bool) → ℕ → List X → List ℕ
numbers_from passes i [] = []
numbers_from passes i (x ∷ xs) =
    if passes x then i ∷ numbers_from passes (i + 1) xs else numbers_from passes (i + 1) xs

-- the numbers of all that pass, from 0 [own]
abbrev pub numbers_where : {X : Type 0} → (X → Bool) → List X → List ℕ
numbers_where passes xs = numbers_from passes 0 xs
