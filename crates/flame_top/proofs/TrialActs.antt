-- The files of trials: none.
use Rattle.std.proofs.Common.{◌≡◌, ◌==◌, Bool, true, false, List, [], ◌∷◌, ◌++◌, if◌then◌else◌, refl, ◌∙◌}
use Rattle.flame_outside.specs.Scripts.{Act, puts, prints}
use Rattle.flame_outside.specs.WhatIsTold.{files_by}
use Rattle.flame_top.specs.Reports.{Report, report_in}
use Rattle.flame_top.specs.OrderReports.{run_reading, meadow_files, meadow_order, prints_of, bytes_line, bytes_told}
use Rattle.flame_top.specs.TopLaws.{TrialsPutNothing}

files_by-prints_of : (acts more : List Act) → files_by (prints_of acts ++ more) ≡ files_by more
files_by-prints_of [] more = refl
files_by-prints_of (puts name bytes ∷ acts) more = files_by-prints_of acts more
files_by-prints_of (prints text ∷ acts) more = files_by-prints_of acts more

files_by-bytes_told : (report : Report) → files_by (bytes_told report) ≡ []
files_by-bytes_told report = by_status (report.status == 0)
  where
    by_status : (carried : Bool) → files_by (if carried then prints (bytes_line report.acts) ∷ [] else []) ≡ []
    by_status true = refl
    by_status false = refl

pub no_files : TrialsPutNothing
no_files read order =
    let report = report_in (run_reading read (meadow_files order.seed order.size) (meadow_order order)) in
    files_by-prints_of report.acts (bytes_told report) ∙ files_by-bytes_told report
