-- A run that is begun again from a file of its own, as reports over files. [own]
use Rattle.std.specs.Prelude.{◌≡◌, ◌≤◌, ◌+◌, ℕ, List, ◌++◌, length, slice_get, Some, Ok, Contains}
use Rattle.std.specs.FinMap.{get}
use Rattle.flame_outside.specs.Files.{Files}
use Rattle.flame_outside.specs.WhatIsTold.{files_by, printed_by, with_files}
use Rattle.flame_words.specs.declared.orders.RunOrder.{RunOrder}
use Rattle.flame_load.specs.LoadLaws.{Agree}
use Rattle.flame_load.specs.LoadedSources.{loading}
use Rattle.flame_load.specs.StartReads.{population_limit}
use Rattle.flame_load.specs.TextReads.{Reader, ReadsTexts}
use Rattle.flame_top.specs.Reports.{Report, report_in}
use Rattle.flame_top.specs.OrderReports.{run_reading}

-- the order, with so many iterations
abbrev pub with_turns : ℕ → RunOrder → RunOrder
with_turns turns order = record order { turns = turns }

-- the report of so many iterations, as they are ordered
abbrev pub report_of_turns : Reader → Files → ℕ → RunOrder → Report
report_of_turns read told turns order = report_in (run_reading read told (with_turns turns order))

-- the order, with so many iterations from the population in the file of this name
abbrev pub begun_again : List ℕ → ℕ → RunOrder → RunOrder
begun_again pop turns order = record order { pop = pop; turns = turns }

-- a report of all that the first says to do, and behind it of all that the second does, with its line for err and its
-- status: so the files are those of both, and so is the output
pub record IsOfBoth (whole first second : Report) : Type 0 where
  pub acts : whole.acts ≡ first.acts ++ second.acts
  pub files : files_by whole.acts ≡ files_by first.acts ++ files_by second.acts
  pub output : printed_by whole.acts ≡ printed_by first.acts ++ printed_by second.acts
  pub error : whole.error ≡ second.error
  pub status : whole.status ≡ second.status

-- over these files the inputs of the order are read, and the whole report is of the first and of the one that it has there
pub record IsBegunAgain (read : Reader) (others : Files) (again : RunOrder) (whole first : Report) : Type 0 where
  pub second : Report
  pub inputs : (run_reading read others again).answer ≡ Ok second
  pub report : IsOfBoth whole first second

-- let the inputs of a run be read, let the run of its first iterations, one at least, end without a fault, and let the
-- last file of that be no larger than a population may be; then the run does what that of the first iterations does, and
-- behind it what a run of the others from that file does. The file may have any name, and any files may lie beside it,
-- where the inputs of the model are the same
abbrev pub RunsRestartFromFiles : Type 0
RunsRestartFromFiles =
    (read : Reader) (told others : Files) (order : RunOrder) (place more : ℕ) (whole : Report)
    (file : List ℕ × List ℕ) (pop : List ℕ)
    → ReadsTexts read
    → (run_reading read told (with_turns (place + 1 + more) order)).answer ≡ Ok whole
    → (report_of_turns read told (place + 1) order).status ≡ 0
    → slice_get (files_by (report_of_turns read told (place + 1) order).acts) place ≡ Some file
    → length file.1 ≤ population_limit
    → Agree told others (loading read told order.model).inputs
    → get others pop ≡ Some file.1
    → IsBegunAgain read others (begun_again pop more order) whole (report_of_turns read told (place + 1) order)

-- so it does with the files that the first run leaves, from the last one under its own name, where none of them has the
-- name of an input of the model
abbrev pub RunsRestartFromOwnFiles : Type 0
RunsRestartFromOwnFiles =
    (read : Reader) (told left : Files) (order : RunOrder) (place more : ℕ) (whole : Report) (file : List ℕ × List ℕ)
    → ReadsTexts read
    → (run_reading read told (with_turns (place + 1 + more) order)).answer ≡ Ok whole
    → (report_of_turns read told (place + 1) order).status ≡ 0
    → slice_get (files_by (report_of_turns read told (place + 1) order).acts) place ≡ Some file
    → length file.1 ≤ population_limit
    → with_files (files_by (report_of_turns read told (place + 1) order).acts) (Some told) ≡ Some left
    → ((other : List ℕ × List ℕ)
    → Contains (files_by (report_of_turns read told (place + 1) order).acts) other
    → ¬ Contains (loading read told order.model).inputs other.0)
    → IsBegunAgain read left (begun_again file.0 more order) whole (report_of_turns read told (place + 1) order)
