use Rattle.std.proofs.Common.{◌≡◌, ◌++◌, map, length}
use Rattle.std.specs.List.{zip}
use Rattle.std.specs.Vec.Iter.{into_iter_items, into_iter_len}
use Rattle.std.specs.Iterator.Adapters.{zip_first, zip_second}
use Rattle.std.specs.Slice.Iter.{iter_rest}
use Rattle.flame_share.specs.PieceParts.{part_with}
use Rattle.flame_share.proofs.parts.parts_by.Given as goal

abbrev pub invariant-loop-rows : goal.invariant-loop-rows
invariant-loop-rows l =
    let left = into_iter_items (zip_first l.rows-iterator) in
    let messages = iter_rest (zip_second l.rows-iterator) in
    record {
      counted : into_iter_len (zip_first l.rows-iterator) ≡ length left;
      parts : map (λ (rows, message). part_with l.piece message rows.items) (zip l.fn.lists.items l.messages)
          ≡ l.parts.items ++ map (λ (rows, message). part_with l.piece message rows.items) (zip left messages);
    }
