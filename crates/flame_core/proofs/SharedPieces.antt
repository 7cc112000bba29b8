-- A share of a piece, as what its agents leave.
use Rattle.std.proofs.Common.{◌≡◌, ℕ, ◌+◌, List, length, map, Option, ap, ◌∙◌, arith}
use Rattle.std.specs.Prelude.{ℤ}
use Rattle.std.specs.Option.{option_or}
use Rattle.flame_rows.specs.Bags.{ascending, merge}
use Rattle.flame_rows.proofs.Merging.{merge-ascending}
use Rattle.flame_spec.specs.declared.outcomes.Sent.{Sent}
use Rattle.flame_spec.specs.Functions.{Place}
use Rattle.flame_spec.specs.States.{state_place}
use Rattle.flame_world.specs.AgentRuns.{born_from, births_of, least_fault, messages_of, sent_from, survivors}
use Rattle.flame_world.specs.Fields.{changed_pool, joined}
use Rattle.flame_world.specs.Iterations.{Round, outcome_in}
use Rattle.flame_events.specs.AbsorbedPieces.{ran_agents, with_agents}
use Rattle.flame_events.specs.CoreStates.{Work, Core}
use Rattle.flame_events.specs.EventSteps.{with_sent, with_work}
use Rattle.flame_events.specs.LegalEvents.{outputs_of}
use Rattle.flame_pieces.specs.KeptWorks.{with_lists}
use Rattle.flame_progress.specs.declared.leavings.PartedLeaving.{PartedLeaving}
use Rattle.flame_progress.specs.KeptWorkEvents.{added}
use Rattle.flame_core.proofs.Comings.{parts_sent}

-- ---- parts that a share's messages join

-- the bag of what was sent joins them as what was sent does
pub parts_shared : (outputs : List ℕ) (sent : List Sent) (parts : List (Option (List (List ℤ))))
    → with_lists (map (λ m. ascending (messages_of sent m)) outputs) parts ≡ with_sent outputs sent parts
parts_shared outputs sent parts =
    parts_sent outputs sent (λ m. ascending (messages_of sent m)) parts (λ m rows. merge-ascending rows (messages_of sent m))

-- ---- the whole piece

pub absorbed_is : (round : Round) (f k : ℕ) (place : Place) (work : Work) (core : Core) (left : PartedLeaving) (agent to : ℕ)
    → work.ran ≡ 0
    → left.ran ≡ length work.agents
    → agent ≡ place.agent
    → to ≡ state_place place.type place.function.next
    → ascending left.survivors.items ≡ survivors (outcome_in round f core.field) work.agents
    → left.born.items ≡ born_from (outcome_in round f core.field) work.agents
    → left.fault ≡ least_fault round.iteration f (outcome_in round f core.field) work.agents
    → map (λ rows. rows.items) left.parts.items
    ≡ map (λ m. ascending (messages_of (sent_from (outcome_in round f core.field) work.agents) m)) (outputs_of round.source.model f)
    → (let next : Core = record core {
      statuses = with_work core f k (added left work);
      field = record core.field {
        pools = changed_pool agent to (λ pool. merge pool (ascending left.survivors.items)) core.field.pools;
        born = joined (births_of left.born.items) core.field.born;
      };
    } in next)
    ≡ ran_agents round f k place work core
absorbed_is round f k place work core left agent to fresh all agent_same to_same lives bears faults sends =
    let outputs = outputs_of round.source.model f in
    let run = outcome_in round f core.field in
    let ran : work.ran + left.ran ≡ length work.agents = omega (arith, fresh, all) in
    let parts : with_lists (map (λ rows. rows.items) left.parts.items) work.parts ≡ with_sent outputs (sent_from run work.agents) work.parts =
    ap (λ more. with_lists more work.parts) sends ∙ parts_shared outputs (sent_from run work.agents) work.parts in
    let worked : added left work ≡ with_agents round f work core =
    λ i. record { agents = work.agents; ran = ran i; parts = parts i; fault = option_or work.fault (faults i) } in
    λ i. record {
      statuses = with_work core f k (worked i);
      field = record {
        pools = changed_pool (agent_same i) (to_same i) (λ pool. merge pool (lives i)) core.field.pools;
        born = joined (births_of (bears i)) core.field.born;
        boards = core.field.boards;
      };
      frozen = core.frozen;
    }
