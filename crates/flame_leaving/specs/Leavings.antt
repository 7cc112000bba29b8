-- What agents leave that run a function one after another.
use Rattle.std.specs.Prelude.{◌≡◌, ◌++◌, ℕ, ℤ, List, length}
use Rattle.std.specs.List.{filter_map}
use Rattle.flame_rows.specs.Bags.{ascending}
use Rattle.flame_spec.specs.declared.outcomes.Outcome.{Outcome}
use Rattle.flame_world.specs.AgentRuns.{kept, sent_by, born_by, sent_from, born_from, least_fault}
use Rattle.flame_leaving.specs.declared.leavings.Leaving.{Leaving}

-- these agents leave this, where they run the function of this number in the iteration of this number and `run` gives
-- the outcome for an agent's memory: how many ran, the memories that are kept, the messages and the births, agent by
-- agent, and the fault of the least of them in content order that faults [own]
pub record AreLeft
    (iteration : ℤ) (function : ℕ) (run : List ℤ → Outcome) (agents : List (List ℤ)) (leaving : Leaving) :
    Type 0 where
  pub ran : leaving.ran ≡ length agents
  pub survivors : leaving.survivors.items ≡ filter_map (λ memory. kept (run memory)) agents
  pub sent : leaving.sent.items ≡ sent_from run agents
  pub born : leaving.born.items ≡ born_from run agents
  pub fault : leaving.fault ≡ least_fault iteration function run (ascending agents)

-- the same, but that the messages and the births of one agent more with this memory stand behind theirs already [own]
pub record AreLeftBut
    (iteration : ℤ) (function : ℕ) (run : List ℤ → Outcome) (agents : List (List ℤ)) (memory : List ℤ)
    (leaving : Leaving) :
    Type 0 where
  pub ran : leaving.ran ≡ length agents
  pub survivors : leaving.survivors.items ≡ filter_map (λ memory. kept (run memory)) agents
  pub sent : leaving.sent.items ≡ sent_from run agents ++ sent_by (run memory)
  pub born : leaving.born.items ≡ born_from run agents ++ born_by (run memory)
  pub fault : leaving.fault ≡ least_fault iteration function run (ascending agents)
