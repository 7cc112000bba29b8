-- The bags of a core that legal events lead to stand in content order.
use Rattle.std.proofs.Common.{ℕ, ◌+◌, true, false, cond, List, [], ◌∷◌, map, Option, Some, None, sym, subst}
use Rattle.std.specs.Prelude.{not, slice_get}
use Rattle.std.specs.List.{zip}
use Rattle.flame_rows.specs.Bags.{ascending, merge}
use Rattle.flame_rows.specs.Order.{row_order}
use Rattle.flame_rows.specs.Sorted.{IsAscending}
use Rattle.flame_rows.proofs.BagLaws.{IsAscending-ascending, IsAscending-merge, IsAscending-filter}
use Rattle.flame_spec.specs.declared.models.AgentType.{AgentType}
use Rattle.flame_spec.specs.declared.models.Model.{Model}
use Rattle.flame_spec.specs.Choice.{choice, is_chosen}
use Rattle.flame_spec.specs.Functions.{Place, functions}
use Rattle.flame_spec.specs.States.{states, state_place, is_entered}
use Rattle.flame_meaning.specs.RangeLaws.{Each}
use Rattle.flame_world.specs.AgentRuns.{survivors, born_from, births_of}
use Rattle.flame_world.specs.Fields.{Field, begun, opening, changed, changed_pool, joined_from}
use Rattle.flame_world.specs.Iterations.{Round, staying, outcome_in}
use Rattle.flame_world.proofs.Eachs.{mapped, each_changed}
use Rattle.flame_events.specs.declared.events.Event.{Event}
use Rattle.flame_events.specs.declared.events.Event.TheVariants as event
use Rattle.flame_events.specs.CoreLaws.{EventsLeadTo}
use Rattle.flame_events.specs.CoreStates.{Work, part_in, Core, work_of, opening_core}
use Rattle.flame_events.specs.EventSteps.{opened, ran_agent, ran_next, joined_board, handed_in, after, replay}
use Rattle.flame_events.specs.LegalEvents.{outputs_of}
use Rattle.flame_events.proofs.Weights.{Row, Rows}

abbrev pub Up : Rows → Type 0
Up rows = IsAscending row_order rows

pub record IsSorted (field : Field) : Type 0 where
  pub pools : Each (λ own. Each Up own) field.pools
  pub born : Each Up field.born
  pub boards : Each Up field.boards

-- ---- bags that change

pub pools_changed : (agent state : ℕ) (change : Rows → Rows) → ((pool : Rows) → Up pool → Up (change pool)) → (pools : List (List Rows))
    → Each (λ own. Each Up own) pools → Each (λ own. Each Up own) (changed_pool agent state change pools)
pools_changed agent state change keeps pools all =
    each_changed (λ own. Each Up own) agent (changed state change) (λ own up. each_changed Up state change keeps own up) pools all

pub joined_sorted : (i : ℕ) (rows : ℕ → Rows) (bags : List Rows) → Each Up (joined_from i rows bags)
joined_sorted i rows [] = tt
joined_sorted i rows (bag ∷ bags) = (IsAscending-merge bag (rows i), joined_sorted (i + 1) rows bags)

-- ---- one event

sorted_opened : (round : Round) (pieces f : ℕ) (place : Option Place) (core : Core) → IsSorted core.field → IsSorted (opened round pieces f place core).field
sorted_opened round pieces f None core sorted = sorted
sorted_opened round pieces f (Some place) core sorted = record {
  pools = pools_changed place.agent (state_place place.type place.function.current) (staying round f place)
      (λ pool up. IsAscending-filter (λ memory. not (is_chosen f (choice round.source.model place.agent place.function.current memory round.iteration))) pool up)
      core.field.pools sorted.pools;
  born = sorted.born;
  boards = sorted.boards;
}

sorted_agent : (round : Round) (f k : ℕ) (place : Place) (work : Work) (memory : Option Row) (core : Core) → IsSorted core.field
    → IsSorted (ran_agent round f k place work memory core).field
sorted_agent round f k place work None core sorted = sorted
sorted_agent round f k place work (Some memory) core sorted =
    let run = outcome_in round f core.field in
    record {
      pools = pools_changed place.agent (state_place place.type place.function.next) (λ pool. merge pool (survivors run (memory ∷ [])))
          (λ pool up. IsAscending-merge pool (survivors run (memory ∷ []))) core.field.pools sorted.pools;
      born = joined_sorted 0 (births_of (born_from run (memory ∷ []))) core.field.born;
      boards = sorted.boards;
    }

sorted_next : (round : Round) (f k : ℕ) (place : Option Place) (work : Option Work) (core : Core) → IsSorted core.field → IsSorted (ran_next round f k place work core).field
sorted_next round f k None work core sorted = sorted
sorted_next round f k (Some place) None core sorted = sorted
sorted_next round f k (Some place) (Some work) core sorted = sorted_agent round f k place work (slice_get work.agents work.ran) core sorted

sorted_joined : (f k m : ℕ) (outs : List ℕ) (work : Work) (part : Option Rows) (core : Core) → IsSorted core.field → IsSorted (joined_board f k m outs work part core).field
sorted_joined f k m outs work None core sorted = sorted
sorted_joined f k m outs work (Some rows) core sorted = record {
  pools = sorted.pools;
  born = sorted.born;
  boards = each_changed Up m (λ board. merge board rows) (λ board up. IsAscending-merge board rows) core.field.boards sorted.boards;
}

sorted_handed : (f k m : ℕ) (outs : List ℕ) (work : Option Work) (core : Core) → IsSorted core.field → IsSorted (handed_in f k m outs work core).field
sorted_handed f k m outs None core sorted = sorted
sorted_handed f k m outs (Some work) core sorted = sorted_joined f k m outs work (part_in outs work.parts m) core sorted

sorted_after : (round : Round) (pieces : ℕ) (core : Core) (e : Event) → IsSorted core.field → IsSorted (after round pieces core e).field
sorted_after round pieces core (event.Open f) sorted = sorted_opened round pieces f (slice_get (functions round.source.model) f) core sorted
sorted_after round pieces core (event.Agent f k) sorted = sorted_next round f k (slice_get (functions round.source.model) f) (work_of core f k) core sorted
sorted_after round pieces core (event.HandIn f k m) sorted = sorted_handed f k m (outputs_of round.source.model f) (work_of core f k) core sorted
sorted_after round pieces core (event.Shut f) sorted = sorted
sorted_after round pieces core (event.Freeze m) sorted = sorted

sorted_replay : (round : Round) (pieces : ℕ) (core : Core) (events : List Event) → IsSorted core.field → IsSorted (replay round pieces core events).field
sorted_replay round pieces core [] sorted = sorted
sorted_replay round pieces core (e ∷ events) sorted = sorted_replay round pieces (after round pieces core e) events (sorted_after round pieces core e sorted)

-- ---- where an iteration begins

begun_sorted : (type : AgentType) (agents : Rows) → Each Up (begun type agents)
begun_sorted type agents =
    mapped Up (λ state. cond (is_entered type.functions state) [] (ascending agents))
    (λ state. elim (is_entered type.functions state) as (λ b. Up (cond b [] (ascending agents))) [
      | true ↦ tt
      | false ↦ IsAscending-ascending agents
    ])
    (states type.functions)

pools_sorted : (types : List AgentType) (bags : List Rows) → Each (λ own. Each Up own) (map (λ (type, bag). begun type bag) (zip types bags))
pools_sorted [] bags = tt
pools_sorted (type ∷ types) [] = tt
pools_sorted (type ∷ types) (bag ∷ bags) = (begun_sorted type bag, pools_sorted types bags)

sorted_opening : (model : Model) (agents : List Rows) → IsSorted (opening model agents)
sorted_opening model agents = record {
  pools = pools_sorted model.agents agents;
  born = mapped Up (λ type. []) (λ type. tt) model.agents;
  boards = mapped Up (λ message. []) (λ message. tt) model.messages;
}

pub sorted_core : (round : Round) (pieces : ℕ) (core : Core) → EventsLeadTo round pieces core → IsSorted core.field
sorted_core round pieces core led =
    subst (λ (c : Core). IsSorted c.field) (sym led.leads.left)
    (sorted_replay round pieces (opening_core round.source.model led.agents) led.events (sorted_opening round.source.model led.agents))
