-- All agents of a piece at once.
use Rattle.std.specs.Prelude.{◌≡◌, ℕ, ◌<◌, List, Some, length, replicate, slice_get, IsTrue}
use Rattle.std.specs.Option.{option_or}
use Rattle.flame_rows.specs.Bags.{merge}
use Rattle.flame_spec.specs.Functions.{Place, functions}
use Rattle.flame_world.specs.AgentRuns.{survivors, sent_from, born_from, least_fault, births_of}
use Rattle.flame_spec.specs.States.{state_place}
use Rattle.flame_world.specs.Fields.{changed_pool, joined}
use Rattle.flame_world.specs.Iterations.{Round, outcome_in}
use Rattle.flame_events.specs.declared.events.Event.{Event}
use Rattle.flame_events.specs.declared.events.Event.TheVariants as event
use Rattle.flame_events.specs.CoreStates.{Work, Core, work_of}
use Rattle.flame_events.specs.LegalEvents.{outputs_of}
use Rattle.flame_events.specs.EventSteps.{with_sent, with_work, replay, are_legal}

-- the events of a piece: each of its agents runs [own]
abbrev pub agent_events : ℕ → ℕ → Work → List Event
agent_events function piece work = replicate (length work.agents) (event.Agent function piece)

-- the piece when all its agents ran: what they sent and their least fault are kept with it [own]
abbrev pub with_agents : Round → ℕ → Work → Core → Work
with_agents round function work core = record work {
  ran = length work.agents;
  parts =
      with_sent (outputs_of round.source.model function)
      (sent_from (outcome_in round function core.field) work.agents) work.parts;
  fault =
      option_or work.fault
      (least_fault round.iteration function (outcome_in round function core.field) work.agents);
}

-- what is left when they ran: survivors arrived in the next state, and births are set aside [FLAME User Manual]
abbrev pub ran_agents : Round → ℕ → ℕ → Place → Work → Core → Core
ran_agents round function piece place work core = record core {
  statuses = with_work core function piece (with_agents round function work core);
  field = record core.field {
    pools =
        changed_pool place.agent (state_place place.type place.function.next)
        (λ pool. merge pool (survivors (outcome_in round function core.field) work.agents)) core.field.pools;
    born = joined (births_of (born_from (outcome_in round function core.field) work.agents)) core.field.born;
  };
}

-- where a piece has agents, of which none ran, its events are legal, one after another, and leave the core in which all
-- of them ran at once [own]
abbrev pub AgentsRunAtOnce : Type 0
AgentsRunAtOnce =
    (round : Round) (pieces function piece : ℕ) (place : Place) (work : Work) (core : Core)
    → slice_get (functions round.source.model) function ≡ Some place
    → work_of core function piece ≡ Some work
    → work.ran ≡ 0
    → 0 < length work.agents
    → IsTrue (are_legal round pieces core (agent_events function piece work))
    × (replay round pieces core (agent_events function piece work)
    ≡ ran_agents round function piece place work core)
