use Rattle.std.proofs.Common.{◌≡◌, ◌++◌, length, map}
use Rattle.std.specs.Vec.Iter.{into_iter_items, into_iter_len}
use Rattle.flame_world.specs.declared.pieces.Part.{Part}
use Rattle.flame_core.proofs.absorbing.lists_of.Given as goal

abbrev pub invariant-loop-part : goal.invariant-loop-part
invariant-loop-part l = record {
  counted : into_iter_len l.part-iterator ≡ length (into_iter_items l.part-iterator);
  all : map (λ (part : Part). part.rows) l.fn.parts.items
      ≡ map (λ rows. rows.items) l.lists.items ++ map (λ (part : Part). part.rows) (into_iter_items l.part-iterator);
}
