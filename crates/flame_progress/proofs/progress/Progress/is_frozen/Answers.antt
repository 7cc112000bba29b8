use Rattle.std.proofs.Common.{Some, None, false, sym, ◌∙◌}
use Rattle.flame_field.specs.KeptBoards.{is_board_frozen}
use Rattle.flame_progress.specs.KeptCores.{core_of}
use Rattle.flame_field.proofs.Written.{or_else_is}
use Rattle.flame_progress.proofs.progress.Progress.is_frozen.Goals as goal

pub returns-in-Some : goal.returns-in-Some
returns-in-Some c =
    let core = core_of c.args.self.now in
    c.is_frozen.ensures
    ∙ sym (or_else_is core.frozen c.args.message false (Some (is_board_frozen c.in-Some.board.now)) c.in-Some.ensures.frozen)

pub returns-in-None : goal.returns-in-None
returns-in-None c =
    let core = core_of c.args.self.now in
    sym (or_else_is core.frozen c.args.message false None c.in-None.ensures.frozen)
