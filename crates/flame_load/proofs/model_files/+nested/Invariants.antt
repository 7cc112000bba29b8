use Rattle.std.proofs.Common.{◌≡◌, ◌+◌, ◌*◌, ◌≤◌, drop, length, Some}
use Rattle.std.specs.Prelude.{IsTrue}
use Rattle.std.specs.List.{list_all}
use Rattle.flame_outside.specs.Files.{Files}
use Rattle.flame_outside.specs.Frames.{OnlyReads}
use Rattle.flame_spec.specs.WideModels.{is_well_formed_wide}
use Rattle.flame_load.specs.ModelFileReads.{with_all, with_name}
use Rattle.flame_load.specs.RestsOfReadings.{IsRestOf, files_read}
use Rattle.flame_load.proofs.model_files.+nested.Given as goal

abbrev pub decreases-add_name : goal.decreases-add_name
decreases-add_name g l = 2 * l.deep

abbrev pub decreases-add_all : goal.decreases-add_all
decreases-add_all g l = 2 * l.deep + 1

abbrev pub invariant-add_all-loop-name : goal.invariant-add_all-loop-name
invariant-add_all-loop-name g l =
    let depot = g.D.Depot.seen l.initial.depot in
    record {
      rest : (told : Files) → depot.files ≡ Some told
          → IsRestOf
          (with_all (with_name l.deep told) (files_read l.initial.files) l.names)
          (with_all (with_name l.deep told) (files_read l.files) (drop l.name-index l.names));
      formed : IsTrue (list_all is_well_formed_wide l.files.wides.items);
      paired : length l.files.names.items ≡ length l.files.wides.items;
      grows : length l.initial.files.names.items ≤ length l.files.names.items;
      reads : OnlyReads depot (g.D.Depot.seen l.depot);
    }
