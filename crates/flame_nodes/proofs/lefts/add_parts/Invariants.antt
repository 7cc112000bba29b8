use Rattle.std.proofs.Common.{◌≡◌, ◌++◌}
use Rattle.std.specs.List.{flat_map}
use Rattle.flame_nodes.specs.NodeLeavings.{sent_in}
use Rattle.flame_nodes.proofs.lefts.add_parts.Given as goal

abbrev pub invariant-loop-part : goal.invariant-loop-part
invariant-loop-part l =
    l.sent.items ++ flat_map sent_in l.part-iterator.rest.items ≡ l.fn.sent.items ++ flat_map sent_in l.fn.parts.items
