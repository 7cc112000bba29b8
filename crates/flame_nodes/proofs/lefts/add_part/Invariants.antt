use Rattle.std.proofs.Common.{◌≡◌, ◌++◌, map}
use Rattle.flame_nodes.specs.NodeLeavings.{sent_in}
use Rattle.flame_nodes.proofs.lefts.add_part.Given as goal

abbrev pub invariant-loop-row : goal.invariant-loop-row
invariant-loop-row l =
    l.sent.items ++ map (λ row. record { message = l.message; row = row }) l.row-iterator.rest.items
    ≡ l.fn.sent.items ++ sent_in l.fn.part
