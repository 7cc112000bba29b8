use Rattle.std.proofs.Common.{◌≡◌, ◌++◌, length}
use Rattle.std.specs.List.{flat_map}
use Rattle.std.specs.Vec.Iter.{into_iter_items, into_iter_len}
use Rattle.flame_layerrun.proofs.choosing.joined.Given as goal

abbrev pub invariant-loop-run : goal.invariant-loop-run
invariant-loop-run l = record {
  counted : into_iter_len l.run-iterator ≡ length (into_iter_items l.run-iterator);
  joined : flat_map (λ run. run) l.fn.runs.items
      ≡ l.choices.items ++ flat_map (λ run. run) (into_iter_items l.run-iterator);
}
