use Rattle.std.proofs.Common.{ap, ◌∙◌}
use Rattle.std.specs.Prelude.{slice_set}
use Rattle.std.proofs.lemmas.List.{map-set}
use Rattle.std.specs.Prelude.{map}
use Rattle.flame_field.specs.KeptBoards.{board_bag, is_board_frozen}
use Rattle.flame_progress.specs.KeptCores.{core_of}
use Rattle.flame_field.proofs.Written.{map-kept}
use Rattle.flame_progress.proofs.progress.Progress.freeze.Goals as goal

pub returns-clause-core : goal.returns-clause-core
returns-clause-core c =
    let boards = c.args.self.now.field.boards.items in
    let m = c.args.message in
    let core = core_of c.args.self.now in
    let old = c.index_mut.result.now in
    let new = c.freeze.new.self in
    let bags = map-kept board_bag boards m old new c.requires c.index_mut.ensures.value c.freeze.ensures.bag in
    let marks = map-set is_board_frozen boards m new ∙ ap (slice_set (map is_board_frozen boards) m) c.freeze.ensures.frozen in
    λ i. record { statuses = core.statuses; field = record { pools = core.field.pools; born = core.field.born; boards = bags i }; frozen = marks i }
