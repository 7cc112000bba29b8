-- A file that is refused has a line.
use Rattle.std.proofs.Common.{codes}
use Rattle.flame_report.specs.FaultLines.{file_line}
use Rattle.flame_top.proofs.ReportLines.{file_is_line}
use Rattle.flame_top.proofs.RefusedInputs.{line_stops}
use Rattle.flame_top.proofs.refusals.file_ending.Goals as goal

pub returns-in-Missing-clause-line : goal.returns-in-Missing-clause-line
returns-in-Missing-clause-line c =
    let name = c.args.name.now in
    line_stops (file_line (codes "missing") name) c.file_text.result c.refused.result
    (file_is_line (codes "missing") name) c.file_text.ensures c.refused.ensures

pub returns-in-TooLarge-clause-line : goal.returns-in-TooLarge-clause-line
returns-in-TooLarge-clause-line c =
    let name = c.args.name.now in
    line_stops (file_line (codes "too large") name) c.file_text-in-TooLarge.result c.refused-in-TooLarge.result
    (file_is_line (codes "too large") name) c.file_text-in-TooLarge.ensures c.refused-in-TooLarge.ensures

pub returns-in-NotJson-clause-line : goal.returns-in-NotJson-clause-line
returns-in-NotJson-clause-line c =
    let name = c.args.name.now in
    line_stops (file_line (codes "not JSON") name) c.file_text-in-NotJson.result c.refused-in-NotJson.result
    (file_is_line (codes "not JSON") name) c.file_text-in-NotJson.ensures c.refused-in-NotJson.ensures
