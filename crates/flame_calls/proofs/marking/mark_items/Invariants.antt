use Rattle.std.proofs.Common.{◌≡◌, ℕ, [], drop, map, slice_index_or}
use Rattle.flame_spec.specs.HelperFaults.{items_call}
use Rattle.flame_spec.specs.Seen.{declared}
use Rattle.flame_lookup.specs.Sources.{context_at}
use Rattle.flame_graph.specs.Marks.{marked_where}
use Rattle.flame_calls.proofs.marking.mark_items.Given as goal

abbrev pub invariant-loop-item : goal.invariant-loop-item
invariant-loop-item l = (h : ℕ)
    → marked_where l.caller (items_call (context_at l.words) h (map declared (drop l.item-index l.items))) (slice_index_or l.lists h [])
    ≡ marked_where l.caller (items_call (context_at l.words) h (map declared l.items)) (slice_index_or l.initial.lists h [])
