-- Bags of rows that came together bit by bit.
use Rattle.std.proofs.Common.{◌≡◌, ◌+◌, List, [], ◌++◌, sym, ap, ◌∙◌, arith, IsPermutation}
use Rattle.std.specs.Prelude.{ℤ}
use Rattle.std.proofs.lemmas.List.Sorted.{sum_by-IsPermutation}
use Rattle.flame_rows.specs.Order.{row_order}
use Rattle.flame_rows.specs.Bags.{ascending, merge}
use Rattle.flame_index.specs.FrozenBoards.{messages_on, shared_messages}
use Rattle.flame_field.specs.declared.boards.Board.{Board}
use Rattle.flame_field.specs.declared.boards.Board.TheVariants as board
use Rattle.flame_field.specs.KeptBoards.{board_bag}
use Rattle.flame_field.specs.declared.gatherings.Gathering.{Gathering}
use Rattle.flame_field.specs.KeptGatherings.{bag_of}
use Rattle.flame_rows.proofs.Sorting.{ascending_once, sum_by-sorted_by}
use Rattle.flame_rows.proofs.BagLaws.{IsAscending-ascending, rows_tied, rows_total, weigh-ascending, weigh-append}
use Rattle.flame_rows.proofs.Merging.{same_bag, ascending-ascending}

pub merge-none : (rows : List (List ℤ)) → merge (ascending rows) [] ≡ ascending rows
merge-none rows =
    same_bag (ascending rows ++ []) rows
    (λ weight. weigh-append weight (ascending rows) [] ∙ ap (λ n. n + 0) (weigh-ascending weight rows) ∙ omega arith)

pub bag-in_order : (gathering : Gathering) → ascending (bag_of gathering) ≡ bag_of gathering
bag-in_order gathering = ascending-ascending gathering.rows.items

pub board-in_order : (b : Board) → ascending (board_bag b) ≡ board_bag b
board-in_order (board.Gathering messages) = bag-in_order messages
board-in_order (board.Frozen frozen) = ascending-ascending (messages_on frozen)
board-in_order (board.Shared frozen) = ascending-ascending (shared_messages frozen)

-- rows in another order have the same bag
pub ascending-permuted : (rows more : List (List ℤ)) → IsPermutation rows more → ascending more ≡ ascending rows
ascending-permuted rows more same =
    ascending_once row_order rows_total rows_tied (ascending more) (ascending rows) (IsAscending-ascending more) (IsAscending-ascending rows)
    (λ row.
    sum_by-sorted_by row_order _ more
    ∙ sum_by-IsPermutation _ rows more same
    ∙ sym (sum_by-sorted_by row_order _ rows))
