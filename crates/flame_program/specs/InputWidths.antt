-- What functions read is as wide as their codes see.
use Rattle.std.specs.Prelude.{◌≡◌, ℕ, ℤ, List, Some, length, slice_get}
use Rattle.std.specs.List.{AllZip}
use Rattle.flame_spec.specs.declared.outcomes.Source.{Source}
use Rattle.flame_spec.specs.Accepted.{IsAccepted}
use Rattle.flame_spec.specs.Columns.{width}
use Rattle.flame_code.specs.InputRows.{HaveWidths}
use Rattle.flame_code.specs.Routines.{Routine}
use Rattle.flame_meaning.specs.Outcomes.{readings_of}
use Rattle.flame_meaning.specs.RangeLaws.{Each}
use Rattle.flame_program.specs.SourceCodes.{function_codes}

-- what an agent reads by its function's inputs, over boards with rows as wide as their messages declare, is as wide as
-- the function's code sees [own]
abbrev pub ReadingsFitCodes : Type 0
ReadingsFitCodes =
    (source : Source) (function : ℕ) (code : Routine) (memory : List ℤ) (boards : List (List (List ℤ)))
    → IsAccepted source
    → slice_get (function_codes source) function ≡ Some code
    → AllZip (λ message rows. Each (λ row. length row ≡ width message.variables) rows) source.model.messages boards
    → HaveWidths code.widths.inputs (readings_of source function memory boards)
