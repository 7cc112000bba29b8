-- The promise of programs: their code means what their source says.
use Rattle.std.specs.Prelude.{◌≡◌, ℕ, Some, slice_get, ◌↔◌}
use Rattle.flame_spec.specs.declared.outcomes.Outcome.{Outcome}
use Rattle.flame_spec.specs.declared.outcomes.Source.{Source}
use Rattle.flame_spec.specs.Accepted.{IsAccepted}
use Rattle.flame_code.specs.InputRows.{rows_of}
use Rattle.flame_code.specs.Meanings.{Entry, FitsEntry, Means}
use Rattle.flame_code.specs.Routines.{Routine}
use Rattle.flame_meaning.specs.Outcomes.{outcome_over}
use Rattle.flame_program.specs.SourceCodes.{function_codes, helper_codes}

-- in an accepted source the code of each function, with the codes of the helpers, means the outcome that the source
-- gives to the function, and no other: for every iteration and fuel, and for each memory, constants and rows of its
-- inputs that are as wide as declared [FLAME User Manual]
abbrev pub ProgramsMean : Type 0
ProgramsMean =
    (source : Source) (function : ℕ) (code : Routine) (from : Entry) (o : Outcome)
    → IsAccepted source
    → slice_get (function_codes source) function ≡ Some code
    → FitsEntry code from
    → Means (helper_codes source).routines code from o
    ↔ (o ≡ outcome_over source function from.memory (rows_of from.feeds) from.constants from.iteration from.fuel)
