use Rattle.std.proofs.Common.{◌≡◌, ◌<◌, ℕ, ◌+◌, List, length}
use Rattle.std.specs.Prelude.{ℤ}
use Rattle.std.specs.List.{All}
use Rattle.std.specs.Vec.Iter.{into_iter_items, into_iter_len}
use Rattle.std.specs.Iterator.Adapters.{zip_first, zip_second}
use Rattle.std.specs.Slice.Iter.{iter_rest}
use Rattle.flame_lanes.specs.LayerBoards.{TakeFrom, weigh_before, weigh_board, weigh_columns}
use Rattle.flame_lanes.proofs.boards.freeze_all.Given as goal

abbrev pub invariant-loop-message : goal.invariant-loop-message
invariant-loop-message g l =
    let messages = iter_rest (zip_first l.message-iterator) in
    let boards = into_iter_items (zip_first (zip_second l.message-iterator)) in
    let columns = into_iter_items (zip_second (zip_second l.message-iterator)) in
    record {
      boards_counted : into_iter_len (zip_first (zip_second l.message-iterator)) ≡ length boards;
      columns_counted : into_iter_len (zip_second (zip_second l.message-iterator)) ≡ length columns;
      there : All (λ message. message < length l.fn.field.items) messages;
      long : length boards ≡ length messages;
      own : TakeFrom boards columns;
      count : length l.field.items ≡ length l.fn.field.items;
      moved : (message : ℕ) (weight : List ℤ → ℕ)
          → weigh_board l.field.items message weight
          + (weigh_before messages boards message weight + weigh_columns messages columns message weight)
          ≡ weigh_board l.fn.field.items message weight
          + (weigh_before l.messages l.fn.boards.items message weight + weigh_columns l.messages l.fn.columns.items message weight);
    }
