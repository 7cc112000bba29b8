use Rattle.std.proofs.Common.{◌≡◌, ℕ, [], drop, slice_index_or}
use Rattle.flame_spec.specs.HelperFaults.{statements_call, arms_call}
use Rattle.flame_spec.specs.Seen.{statements, arms}
use Rattle.flame_lookup.specs.Sources.{context_at}
use Rattle.flame_graph.specs.Marks.{marked_where}
use Rattle.flame_calls.proofs.marking.+tree.Given as goal

abbrev pub invariant-mark_arms-loop-arm : goal.invariant-mark_arms-loop-arm
invariant-mark_arms-loop-arm l = (h : ℕ)
    → marked_where l.caller (arms_call (context_at l.words) h (arms (drop l.arm-index l.bodies))) (slice_index_or l.lists h [])
    ≡ marked_where l.caller (arms_call (context_at l.words) h (arms l.bodies)) (slice_index_or l.fn.lists h [])

abbrev pub invariant-mark_statements-loop-one : goal.invariant-mark_statements-loop-one
invariant-mark_statements-loop-one l = (h : ℕ)
    → marked_where l.caller (statements_call (context_at l.words) h (statements (drop l.one-index l.body))) (slice_index_or l.lists h [])
    ≡ marked_where l.caller (statements_call (context_at l.words) h (statements l.body)) (slice_index_or l.fn.lists h [])
