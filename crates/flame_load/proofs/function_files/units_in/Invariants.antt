use Rattle.std.proofs.Common.{◌≡◌, drop, length, Some}
use Rattle.flame_outside.specs.Files.{Files}
use Rattle.flame_outside.specs.Frames.{OnlyReads}
use Rattle.flame_load.specs.FunctionFileReads.{units_in}
use Rattle.flame_load.specs.RestsOfReadings.{IsRestOf}
use Rattle.flame_load.specs.TextReads.{Reader, ReadsTexts}
use Rattle.flame_load.proofs.FileSteps.{units_rest}
use Rattle.flame_load.proofs.function_files.units_in.Given as goal

abbrev pub invariant-loop-name : goal.invariant-loop-name
invariant-loop-name g l =
    let depot = g.D.Depot.seen l.initial.depot in
    record {
      rest : (told : Files) (read : Reader) → depot.files ≡ Some told → ReadsTexts read
          → IsRestOf (units_in read told l.names) (units_rest read told l.units.items (drop l.name-index l.names));
      paired : length l.units.items ≡ l.name-index;
      reads : OnlyReads depot (g.D.Depot.seen l.depot);
    }
