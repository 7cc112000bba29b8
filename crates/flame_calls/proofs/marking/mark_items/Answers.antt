-- One item more.
use Rattle.std.proofs.Common.{[], map, refl, slice_index_or}
use Rattle.flame_spec.specs.HelperFaults.{optional_calls, items_call}
use Rattle.flame_spec.specs.Seen.{declared}
use Rattle.flame_lookup.specs.Sources.{context_at}
use Rattle.flame_calls.proofs.Marks.{loop_marked}
use Rattle.flame_calls.proofs.marking.mark_items.Goals as goal

pub loop-item-preserved : goal.loop-item-preserved
loop-item-preserved c = λ h.
    let context = context_at c.args.words.now in
    loop_marked c.args.caller (λ item. optional_calls context h (declared item).value) (λ items. items_call context h (map declared items))
    c.args.items.now c.loop-item.item-index c.item-item.result
    (items_call context h (map declared c.args.items.now)) (slice_index_or c.args.lists.now h [])
    (slice_index_or c.loop-item.lists h []) (slice_index_or c.mark_optional.new.lists h [])
    (λ item items. refl) c.loop-item-test.true c.item-item.is (c.in_ok-mark_optional.ensures h) (c.loop-item.invariant h)
