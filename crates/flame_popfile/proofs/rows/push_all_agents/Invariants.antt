-- What was written, and the agents that are left, make up the whole.
use Rattle.std.proofs.Common.{◌≡◌, ◌++◌, false}
use Rattle.std.specs.Iterator.Adapters.{zip_first, zip_second}
use Rattle.std.specs.Slice.Iter.{iter_rest}
use Rattle.flame_popfile.specs.RowTexts.{agent_texts}
use Rattle.flame_popfile.specs.CommaTexts.{behind}
use Rattle.flame_popfile.proofs.rows.push_all_agents.Given as goal

abbrev pub invariant-loop-agent : goal.invariant-loop-agent
invariant-loop-agent g l =
    l.bytes.items
    ++ behind l.more
    (agent_texts (iter_rest (zip_first l.agent-iterator)) (iter_rest (zip_second l.agent-iterator)))
    ≡ l.fn.bytes.items ++ behind false (agent_texts l.agents l.bags)
