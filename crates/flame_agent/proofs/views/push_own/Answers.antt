-- The view is what is read by the input.
use Rattle.std.specs.Option.{option_copied}
use Rattle.flame_index.specs.FrozenBoards.{messages_on}
use Rattle.flame_view.specs.Compiled.{view_by}
use Rattle.flame_agent.proofs.InputReadings.{view-is}
use Rattle.flame_agent.proofs.views.push_own.Goals as goal

pub returns : goal.returns
returns c =
    let source = c.args.program.now in
    let filter = option_copied c.filter-filter.result in
    let sort = c.sort-sort.result in
    let memory = c.args.memory.now in
    let board = messages_on c.args.board.now in
    record {
      view = view_by filter sort memory board;
      is =
          view-is source c.args.function c.args.input filter sort memory board
          (c.accepted_are_runnable.ensures source c.source-source.ensures.accepted) c.views_are_as_written.ensures
          c.filter-filter.ensures c.sort-sort.ensures;
      fed = c.in_ok-push_new.ensures.ok;
    }
