-- Model order, and the cycle where functions are left over: of n functions, numbered in document order, where
-- `before f g` tells whether f stands before g.
use Rattle.std.specs.Prelude.{ℕ, zero, suc, ◌+◌, ◌==◌, ◌&&◌, not, Bool, List, [], ◌∷◌, ◌++◌, Option, Some, None, take, drop, reverse, min, is_none, if◌then◌else◌}
use Rattle.std.specs.List.{position_or_len}
use Rattle.flame_spec.specs.declared.models.Model.{Model}
use Rattle.flame_spec.specs.Before.{before, function_count}
use Rattle.flame_spec.specs.Below.{first_below, is_in}

-- the first function that stands before g and is not taken [own]
abbrev pub open_before : ℕ → (ℕ → ℕ → Bool) → List ℕ → ℕ → Option ℕ
open_before n before taken g = first_below (λ f. before f g && not (is_in f taken)) n

-- all that stand before g are taken [own]
abbrev pub is_ready : ℕ → (ℕ → ℕ → Bool) → List ℕ → ℕ → Bool
is_ready n before taken g = is_none (open_before n before taken g)

-- the first function that is not taken and whose predecessors are all taken [own]
abbrev pub next : ℕ → (ℕ → ℕ → Bool) → List ℕ → Option ℕ
next n before taken = first_below (λ g. not (is_in g taken) && is_ready n before taken g) n

-- what was taken where there is no next function, else what comes of having taken it too [own]
abbrev pub with_next : Option ℕ → List ℕ → (List ℕ → List ℕ) → List ℕ
with_next None taken go_on = taken
with_next (Some g) taken go_on = go_on (taken ++ g ∷ [])

-- what was taken, and then the next one, and again the next one, at most so many times [own]
abbrev pub order_after : ℕ → ℕ → (ℕ → ℕ → Bool) → List ℕ → List ℕ
order_after zero n before taken = taken
order_after (suc more) n before taken = with_next (next n before taken) taken (order_after more n before)

-- the order: again and again the next one [own]
abbrev pub order : ℕ → (ℕ → ℕ → Bool) → List ℕ
order n before = order_after n n before []

-- the place of a function in the order; the order's length where it is left over [own]
abbrev pub rank : ℕ → (ℕ → ℕ → Bool) → ℕ → ℕ
rank n before f = position_or_len (λ g. g == f) (order n before)

-- the first function that is left over [own]
abbrev pub first_left : ℕ → (ℕ → ℕ → Bool) → Option ℕ
first_left n before = first_below (λ g. not (is_in g (order n before))) n

-- one step back: the first function left over that stands before g [own]
abbrev pub step_back : ℕ → (ℕ → ℕ → Bool) → ℕ → Option ℕ
step_back n before g = open_before n before (order n before) g

-- go on from the function, if there is one [own]
abbrev pub from_there : Option ℕ → (ℕ → List ℕ) → List ℕ
from_there None walk = []
from_there (Some f) walk = walk f

-- the path from the place of g in it on, turned round: from a step back to a list in the direction of `before` [own]
abbrev pub repeated_part : List ℕ → ℕ → List ℕ
repeated_part path g = reverse (drop (position_or_len (λ f. f == g) path) path)

-- step back from g, where the path lies behind, until a function repeats, in at most so many steps: what repeats [own]
abbrev pub walk_back : ℕ → (ℕ → Option ℕ) → List ℕ → ℕ → List ℕ
walk_back zero back path g = []
walk_back (suc more) back path g =
    if is_in g path
    then repeated_part path g
    else from_there (back g) (walk_back more back (path ++ g ∷ []))

-- the least of a number and some more [own]
abbrev pub least_of : ℕ → List ℕ → ℕ
least_of least [] = least
least_of least (number ∷ numbers) = least_of (min least number) numbers

-- a round, begun at the place of one of its functions [own]
abbrev pub begun_at : ℕ → List ℕ → List ℕ
begun_at f round = drop (position_or_len (λ g. g == f) round) round ++ take (position_or_len (λ g. g == f) round) round

-- a round, begun with its first function in document order [own]
abbrev pub begun_with_least : List ℕ → List ℕ
begun_with_least [] = []
begun_with_least (f ∷ round) = begun_at (least_of f round) (f ∷ round)

-- the cycle that is met from g [own]
abbrev pub cycle_from : ℕ → (ℕ → ℕ → Bool) → ℕ → List ℕ
cycle_from n before g = begun_with_least (walk_back (n + 1) (step_back n before) [] g)

-- the cycle, where a function is left over [own]
abbrev pub cycle : ℕ → (ℕ → ℕ → Bool) → List ℕ
cycle n before = from_there (first_left n before) (cycle_from n before)

-- model order: the functions of the model in the order in which they run [own]
abbrev pub model_order : Model → List ℕ
model_order model = order (function_count model) (before model)

-- the first function of the model that is left over [own]
abbrev pub left_over : Model → Option ℕ
left_over model = first_left (function_count model) (before model)

-- the cycle of the model, empty where no function is left over [own]
abbrev pub model_cycle : Model → List ℕ
model_cycle model = cycle (function_count model) (before model)
