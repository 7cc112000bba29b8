-- Lines that end with a line feed.
use Rattle.std.proofs.Common.{◌≢◌, ℕ, List, refl, subst}
use Rattle.std.specs.Prelude.{codes}
use Rattle.flame_outside.specs.Devices.{SeenSink}
use Rattle.flame_top.specs.declared.ending.Ending.{Ending}
use Rattle.flame_top.specs.declared.ending.Ending.TheVariants.{Done, RefusedWords, Refused, Faulted}
use Rattle.flame_top.specs.declared.ending.Ending.TheVariants.{ReadFault, FileFault, OutputFault, NoMemory}
use Rattle.flame_top.specs.EndingLines.{status_of, line_of}
use Rattle.flame_top.specs.CallAnswers.{Tells, TellsALine}
use Rattle.flame_top.specs.Standing.{IsLine, TellsLine}
use Rattle.flame_top.proofs.ReportLines.{file_is_line}

ending_is_line : (ending : Ending) → TellsLine ending → status_of ending ≢ 0 → IsLine (line_of ending)
ending_is_line Done line told = absurd (told refl)
ending_is_line (RefusedWords text) line told = line
ending_is_line (Refused text) line told = line
ending_is_line (Faulted text) line told = line
ending_is_line (ReadFault name) line told = file_is_line (codes "read fault") name
ending_is_line (FileFault name) line told = file_is_line (codes "write fault") name
ending_is_line OutputFault line told = file_is_line (codes "write fault") (codes "output")
ending_is_line NoMemory line told = (codes "no memory", refl)

-- what an ending tells is a line, but that of an order that was carried out
pub tells_a_line :
    (ending : Ending) (err err' : SeenSink)
    → TellsLine ending
    → status_of ending ≢ 0
    → Tells (line_of ending) err err'
    → TellsALine err err'
tells_a_line ending err err' line told tells =
    let is = ending_is_line ending line told in
    record { line = is.0; told = subst (λ (bytes : List ℕ). Tells bytes err err') is.1 tells }
