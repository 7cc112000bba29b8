use Rattle.std.proofs.Common.{◌≡◌, ◌++◌, drop, map}
use Rattle.flame_spec.specs.Scopes.{after_items}
use Rattle.flame_spec.specs.Seen.{declared}
use Rattle.flame_spec.specs.StatementFaults.{items_faults}
use Rattle.flame_lookup.specs.Sources.{context_at}
use Rattle.flame_body.specs.NumberedTrees.{numbered_items}
use Rattle.flame_numbering.specs.WordPlaces.{words_at}
use Rattle.flame_numbering.proofs.stored.items.Given as goal

abbrev pub invariant-loop-item : goal.invariant-loop-item
invariant-loop-item l = record {
  clean : items_faults (context_at l.words) l.fn.spot (map declared l.items)
      ≡ items_faults (context_at l.words) l.spot (map declared (drop l.item-index l.items));
  stands : numbered_items (words_at l.words) l.fn.spot (map declared l.items)
      ≡ l.slots.items ++ numbered_items (words_at l.words) l.spot (map declared (drop l.item-index l.items));
  seen : after_items l.fn.spot (map declared l.items) ≡ after_items l.spot (map declared (drop l.item-index l.items));
}
