-- That the code of a whole body has the outcome of the body.
use Rattle.std.specs.Prelude.{◌≡◌, ℕ, List, map, true, Some, slice_get, slice_index, ◌↔◌}
use Rattle.flame_spec.specs.declared.outcomes.Outcome.{Outcome}
use Rattle.flame_body.specs.BodyFits.{tree_fits}
use Rattle.flame_body.specs.FunctionBodies.{NumberedBody}
use Rattle.flame_code.specs.HelperCodes.{HelperCodes, AreHelpers, calls_fit}
use Rattle.flame_code.specs.InputRows.{rows_of}
use Rattle.flame_code.specs.Meanings.{Entry, FitsEntry, Means}
use Rattle.flame_code.specs.Routines.{Routine}
use Rattle.flame_compile.specs.Emit.{emitted}
use Rattle.flame_number_laws.specs.NumberedOutcomes.{numbered_outcome}
use Rattle.flame_code_laws.specs.LocalNumbers.{tree_numbered}

-- the code of a body, which sees the rows that the body sees [own]
abbrev pub code_of : NumberedBody → Routine
code_of body = record { instrs = emitted body.tree; widths = body.widths }

-- these are helpers of one another, and the codes of these bodies, in order; each body fits its widths, and its locals
-- are numbered rightly behind its parameters [C, 6.9.1]
pub record AreHelperBodies (helpers : HelperCodes) (bodies : List NumberedBody) : Type 0 where
  pub helping : AreHelpers helpers
  pub codes : helpers.routines ≡ map code_of bodies
  pub fitting : (h : ℕ) (body : NumberedBody) → slice_get bodies h ≡ Some body
      → tree_fits body.widths body.tree ≡ true
  pub numbered : (h : ℕ) (body : NumberedBody) → slice_get bodies h ≡ Some body
      → tree_numbered (slice_index helpers.parameters h) body.tree ≡ true

-- the body of a function fits its widths, its locals are numbered rightly, its code calls helpers with the right counts
-- of arguments, and the entry fits it [own]
pub record IsFunctionBody (helpers : HelperCodes) (body : NumberedBody) (from : Entry) : Type 0 where
  pub fitting : tree_fits body.widths body.tree ≡ true
  pub numbered : tree_numbered 0 body.tree ≡ true
  pub calling : calls_fit helpers.parameters (code_of body) ≡ true
  pub entry : FitsEntry (code_of body) from

-- the code of a body, with the codes of the helper bodies, means the body's outcome and no other, where loops over its
-- inputs give the rows of the entry [FLAME User Manual]
abbrev pub OutcomesRun : Type 0
OutcomesRun =
    (helpers : HelperCodes) (bodies : List NumberedBody) → AreHelperBodies helpers bodies
    → (body : NumberedBody) (from : Entry) → IsFunctionBody helpers body from
    → (o : Outcome)
    → Means helpers.routines (code_of body) from o
    ↔ (o ≡ numbered_outcome bodies body from.memory (rows_of from.feeds) from.constants from.iteration from.fuel)
