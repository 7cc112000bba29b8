-- Codes of helpers, and which codes they fit.
use Rattle.std.specs.Prelude.{◌≡◌, ℕ, ◌≤◌, ◌==◌, nat_lt, List, length, slice_get, slice_index}
use Rattle.std.specs.List.{list_all}
use Rattle.std.specs.Prelude.{Bool, true, ◌&&◌, Some}
use Rattle.flame_spec.specs.Definitions.{takes}
use Rattle.flame_spec.specs.HelperFaults.{deepest_calls}
use Rattle.flame_code.specs.declared.instrs.Instr.{Instr}
use Rattle.flame_code.specs.declared.instrs.Instr.TheVariants.{Call}
use Rattle.flame_code.specs.Routines.{Routine}

-- the codes of helpers and their numbers of parameters, in order [own]
pub record HelperCodes : Type 0 where
  pub routines : List Routine
  pub parameters : List ℕ

-- ---- calls

-- where the instruction is a call, it passes a test of the number of the helper and of how many arguments it gets [own]
abbrev pub call_passes : (ℕ → ℕ → Bool) → Instr → Bool
call_passes passes (Call l h n) = passes h n
call_passes passes instr = true

-- a call has as many arguments as the helper that it names has parameters [C, 6.5.2.2]
abbrev pub call_fits : List ℕ → Instr → Bool
call_fits parameters instr = call_passes (takes parameters) instr

-- all calls of the code name helpers and have the right counts of arguments [C, 6.5.2.2]
abbrev pub calls_fit : List ℕ → Routine → Bool
calls_fit parameters r = list_all (call_fits parameters) r.instrs

-- ---- helpers

-- a helper sees no memory, no inputs, no messages and no agent types [own]
abbrev pub sees_nothing : Routine → Bool
sees_nothing r =
    (r.widths.memory == 0) && ((length r.widths.inputs == 0)
    && ((length r.widths.messages == 0) && (length r.widths.agents == 0)))

-- the instruction calls only helpers of a smaller height than this [own]
abbrev pub calls_below : List ℕ → ℕ → Instr → Bool
calls_below heights height instr = call_passes (λ h n. nat_lt (slice_index heights h) height) instr

-- a helper may have this height: it is from 1 to 64 [own]
abbrev pub IsHeight : ℕ → Type 0
IsHeight height = (1 ≤ height) × (height ≤ deepest_calls)

-- these are heights of helpers, and each helper calls only helpers of a smaller height [own]
abbrev pub AreHeights : List Routine → List ℕ → Type 0
AreHeights routines heights =
    (h : ℕ) (r : Routine) → slice_get routines h ≡ Some r
    → IsHeight (slice_index heights h) × (list_all (calls_below heights (slice_index heights h)) r.instrs ≡ true)

-- these are helpers of one another [own]
pub record AreHelpers (helpers : HelperCodes) : Type 0 where
  pub counts : length helpers.parameters ≡ length helpers.routines
  pub heights : List ℕ
  pub bounded : AreHeights helpers.routines heights
  pub fitting : (h : ℕ) (r : Routine) → slice_get helpers.routines h ≡ Some r
      → calls_fit helpers.parameters r ≡ true
  pub blind : (h : ℕ) (r : Routine) → slice_get helpers.routines h ≡ Some r → sees_nothing r ≡ true

-- ---- what fits a code

-- the code's calls name its helpers with the right counts, and every helper sees as many constants as the code [own]
abbrev pub fits : HelperCodes → Routine → Bool
fits helpers r =
    calls_fit helpers.parameters r
    && list_all (λ helper. helper.widths.constants == r.widths.constants) helpers.routines
