use Rattle.std.proofs.Common.{Some, None, [], false, sym, ap, ◌∙◌}
use Rattle.std.specs.Prelude.{slice_index_or, if◌then◌else◌}
use Rattle.flame_field.specs.KeptBoards.{board_bag, is_board_frozen}
use Rattle.flame_progress.specs.KeptCores.{core_of}
use Rattle.flame_field.proofs.Written.{or_else_is}
use Rattle.flame_progress.proofs.progress.Progress.frozen.Goals as goal

pub returns-in-Some : goal.returns-in-Some
returns-in-Some c =
    let core = core_of c.args.self.now in
    let board = c.in-Some.board.now in
    let marked = sym (or_else_is core.frozen c.args.message false (Some (is_board_frozen board)) c.in-Some.ensures.frozen) in
    let bag = sym (or_else_is core.field.boards c.args.message [] (Some (board_bag board)) c.in-Some.ensures.bag) in
    c.frozen.ensures ∙ (λ i. if marked i then Some (bag i) else None)

pub returns-in-None : goal.returns-in-None
returns-in-None c =
    let core = core_of c.args.self.now in
    let marked = sym (or_else_is core.frozen c.args.message false None c.in-None.ensures.frozen) in
    ap (λ b. if b then Some (slice_index_or core.field.boards c.args.message []) else None) marked
