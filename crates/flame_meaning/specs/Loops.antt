-- The turns of loops. Each costs one unit of fuel, paid just before the body runs.
use Rattle.std.specs.Prelude.{ℕ, zero, suc, ℤ, List, [], ◌∷◌, Result, if◌then◌else◌}
use Rattle.flame_spec.specs.declared.faults.Fault.{Fault}
use Rattle.flame_meaning.specs.Scenes.{Progress, Current}
use Rattle.flame_meaning.specs.Expressions.{holds}
use Rattle.flame_meaning.specs.Ends.{End, went_on, broke, continued, returned, faulted, no_fuel, with_value, on_to}

-- one of these units is paid, or none is left: the fault has this line [own]
abbrev pub pay_from : ℕ → ℕ → Progress → (Progress → End) → End
pay_from zero line s go = faulted (no_fuel line)
pay_from (suc fuel) line s go = go (record s { fuel = fuel })

-- one unit is paid, or none is left [own]
abbrev pub pay : ℕ → Progress → (Progress → End) → End
pay line s go = pay_from s.fuel line s go

-- after the body of a turn: `break` ends the loop, and `continue` ends the turn [C, 6.8.6]
abbrev pub after_turn : End → (Progress → End) → End
after_turn (went_on s) go = go s
after_turn (broke s) go = went_on s
after_turn (continued s) go = go s
after_turn (returned v s) go = returned v s
after_turn (faulted fault) go = faulted fault

-- one turn, and then what follows; the fault of a missing unit has the line of the loop [C, 6.8.5; fuel: own]
abbrev pub turn : ℕ → (Progress → End) → (Progress → End) → Progress → End
turn line body next s = pay line s (λ t. after_turn (body t) next)

-- turn after turn while the test holds, each body followed by the step; it is begun with the fuel as n, of which each
-- turn takes one, so that n runs out with the fuel [C, 6.8.5]
abbrev pub turns :
    ℕ → ℕ → (Progress → Result ℤ Fault) → (Progress → End) → (Progress → End) → Progress → End
turns zero line test body step s =
    with_value (test s) (λ v. if holds v then faulted (no_fuel line) else went_on s)
turns (suc n) line test body step s =
    with_value (test s) (λ v.
    if holds v then turn line body (λ t. on_to (step t) (turns n line test body step)) s
    else went_on s)

-- a loop that begins with its test: a `while`, a `for` behind its first statement, a `do` behind its first turn
-- [C, 6.8.5]
abbrev pub loop : ℕ → (Progress → Result ℤ Fault) → (Progress → End) → (Progress → End) → Progress → End
loop line test body step s = turns s.fuel line test body step s

-- one turn for each row, in order [FLAME User Manual]
abbrev pub each_row : ℕ → (Current → Progress → End) → List Current → Progress → End
each_row line body [] s = went_on s
each_row line body (current ∷ more) s = turn line (body current) (each_row line body more) s
