-- Tests of what a run asks of its callers: that codes are helpers of one another, and that rows have the widths that a
-- code sees.
use Rattle.std.specs.Prelude.{ℕ, ◌==◌, ℤ, List, length, nat_le, Bool, ◌&&◌}
use Rattle.std.specs.List.{list_all, zip}
use Rattle.flame_spec.specs.HelperFaults.{deepest_calls}
use Rattle.flame_code.specs.HelperCodes.{HelperCodes, calls_below, calls_fit, sees_nothing}
use Rattle.flame_code.specs.Routines.{Routine}

-- ---- helpers whose heights are given

-- a helper of this height has one that helpers may have, calls only helpers of a smaller height and with the right counts
-- of arguments, and sees no memory, no inputs, no messages and no agent types [own]
abbrev pub helper_fits : List ℕ → List ℕ → ℕ → Routine → Bool
helper_fits parameters heights height r =
    (nat_le 1 height && nat_le height deepest_calls)
    && (list_all (calls_below heights height) r.instrs
    && (calls_fit parameters r && sees_nothing r))

-- the heights show that these are helpers of one another [own]
abbrev pub heights_fit : HelperCodes → List ℕ → Bool
heights_fit helpers heights =
    (length helpers.parameters == length helpers.routines)
    && ((length heights == length helpers.routines)
    && list_all (λ (pair : ℕ × Routine). helper_fits helpers.parameters heights pair.0 pair.1)
    (zip heights helpers.routines))

-- ---- rows of inputs

-- the rows have this width [own]
abbrev pub rows_fit : ℕ → List (List ℤ) → Bool
rows_fit width rows = list_all (λ (row : List ℤ). length row == width) rows
