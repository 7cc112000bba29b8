-- What was written, and the bags that are left, make up the whole.
use Rattle.std.proofs.Common.{◌≡◌, ◌++◌, map, false}
use Rattle.std.specs.Iterator.Adapters.{zip_first, zip_second}
use Rattle.std.specs.Slice.Iter.{iter_rest}
use Rattle.flame_spec.specs.declared.models.AgentType.{AgentType}
use Rattle.flame_popfile.specs.RowTexts.{bag_texts}
use Rattle.flame_popfile.specs.CommaTexts.{behind}
use Rattle.flame_popfile.proofs.boards.push_type_bags.Given as goal

abbrev pub invariant-loop-agent : goal.invariant-loop-agent
invariant-loop-agent g l =
    l.bytes.items
    ++ behind l.more
    (bag_texts (map (λ (type : AgentType). type.name) (iter_rest (zip_first l.agent-iterator)))
    (iter_rest (zip_second l.agent-iterator)))
    ≡ l.fn.bytes.items ++ behind false (bag_texts (map (λ (type : AgentType). type.name) l.agents) l.bags)
