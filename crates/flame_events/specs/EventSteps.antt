-- What an event leaves.
use Rattle.std.specs.Prelude.{ℕ, ◌+◌, ℤ, List, [], ◌∷◌, map, slice_get, slice_set, Bool, true, ◌&&◌, ◌==◌}
use Rattle.std.specs.Prelude.{Option, Some, None, option_map}
use Rattle.std.specs.Option.{option_or}
use Rattle.std.specs.List.{position_or_len, zip}
use Rattle.flame_rows.specs.Bags.{merge}
use Rattle.flame_spec.specs.declared.outcomes.Outcome.{Outcome}
use Rattle.flame_spec.specs.declared.outcomes.Sent.{Sent}
use Rattle.flame_spec.specs.Functions.{Place, functions}
use Rattle.flame_world.specs.declared.faults.SimFault.{SimFault}
use Rattle.flame_world.specs.AgentRuns.{survivors, sent_by, born_from, fault_by, messages_of, births_of}
use Rattle.flame_spec.specs.States.{state_place}
use Rattle.flame_world.specs.Fields.{Field, changed, changed_pool, joined}
use Rattle.flame_world.specs.Iterations.{Round, taking, staying, outcome_in}
use Rattle.flame_events.specs.declared.events.Event.{Event}
use Rattle.flame_events.specs.declared.events.Event.TheVariants as event
use Rattle.flame_rows.specs.Cuts.{cut}
use Rattle.flame_events.specs.CoreStates.{Work, Status, Open, Shut, Faulted, works_of, part_in, fault_in}
use Rattle.flame_events.specs.CoreStates.{Core, status_of, work_of}
use Rattle.flame_events.specs.LegalEvents.{outputs_of, is_legal}

-- ---- a function is opened

-- a piece of which nothing ran [own]
abbrev pub fresh_work : List ℕ → List (List ℤ) → Work
fresh_work outputs agents = record {
  agents = agents;
  ran = 0;
  parts = map (λ output. Some []) outputs;
  fault = None;
}

-- the takers of the function of this place leave its state, in at most so many pieces [own]
abbrev pub opened : Round → ℕ → ℕ → Option Place → Core → Core
opened round pieces function None core = core
opened round pieces function (Some place) core = record core {
  statuses =
      slice_set core.statuses function
      (Open
      (map (fresh_work (outputs_of round.source.model function))
      (cut pieces (taking round function place core.field))));
  field = record core.field {
    pools =
        changed_pool place.agent (state_place place.type place.function.current) (staying round function place)
        core.field.pools;
  };
}

-- ---- an agent runs

-- these messages join the parts of these outputs, as far as they are not handed in [own]
abbrev pub with_sent : List ℕ → List Sent → List (Option (List (List ℤ))) → List (Option (List (List ℤ)))
with_sent outputs sent parts =
    map (λ (output, part). option_map (λ rows. merge rows (messages_of sent output)) part) (zip outputs parts)

-- the piece when one agent more ran, which had this memory and this outcome [own]
abbrev pub with_agent : Round → ℕ → Work → List ℤ → Outcome → Work
with_agent round function work memory outcome = record work {
  ran = work.ran + 1;
  parts = with_sent (outputs_of round.source.model function) (sent_by outcome) work.parts;
  fault = option_or work.fault (fault_by round.iteration function memory outcome);
}

-- the piece of this number of an open function becomes this one [own]
abbrev pub with_work : Core → ℕ → ℕ → Work → List Status
with_work core function piece work =
    slice_set core.statuses function (Open (slice_set (works_of (status_of core function)) piece work))

-- an agent with this memory runs, where functions have these outcomes: if it lives on, it arrives in the next state,
-- and its births are set aside [FLAME User Manual]
abbrev pub arrived : Place → (List ℤ → Outcome) → List ℤ → Field → Field
arrived place run memory field = record field {
  pools =
      changed_pool place.agent (state_place place.type place.function.next)
      (λ pool. merge pool (survivors run (memory ∷ []))) field.pools;
  born = joined (births_of (born_from run (memory ∷ []))) field.born;
}

-- the agent with this memory is the next one of the piece, and runs [own]
abbrev pub ran_agent : Round → ℕ → ℕ → Place → Work → Option (List ℤ) → Core → Core
ran_agent round function piece place work None core = core
ran_agent round function piece place work (Some memory) core = record core {
  statuses =
      with_work core function piece
      (with_agent round function work memory (outcome_in round function core.field memory));
  field = arrived place (outcome_in round function core.field) memory core.field;
}

-- the next agent of the piece runs; where there is none, nothing changes [own]
abbrev pub ran_next : Round → ℕ → ℕ → Option Place → Option Work → Core → Core
ran_next round function piece None work core = core
ran_next round function piece (Some place) None core = core
ran_next round function piece (Some place) (Some work) core =
    ran_agent round function piece place work (slice_get work.agents work.ran) core

-- ---- messages are handed in

-- these messages of the piece join the board [own]
abbrev pub joined_board : ℕ → ℕ → ℕ → List ℕ → Work → Option (List (List ℤ)) → Core → Core
joined_board function piece message outputs work None core = core
joined_board function piece message outputs work (Some rows) core = record core {
  statuses =
      with_work core function piece
      (record work {
        parts = slice_set work.parts (position_or_len (λ output. output == message) outputs) None;
      });
  field = record core.field { boards = changed message (λ board. merge board rows) core.field.boards };
}

-- the piece hands in its messages of this type [own]
abbrev pub handed_in : ℕ → ℕ → ℕ → List ℕ → Option Work → Core → Core
handed_in function piece message outputs None core = core
handed_in function piece message outputs (Some work) core =
    joined_board function piece message outputs work (part_in outputs work.parts message) core

-- ---- functions are done

-- done without a fault, or with this one [own]
abbrev pub done_with : Option SimFault → Status
done_with None = Shut
done_with (Some fault) = Faulted fault

-- ---- every event

-- what the event leaves, where the takers of a function are cut into at most so many pieces [own]
abbrev pub after : Round → ℕ → Core → Event → Core
after round pieces core (event.Open function) =
    opened round pieces function (slice_get (functions round.source.model) function) core
after round pieces core (event.Agent function piece) =
    ran_next round function piece (slice_get (functions round.source.model) function) (work_of core function piece) core
after round pieces core (event.HandIn function piece message) =
    handed_in function piece message (outputs_of round.source.model function) (work_of core function piece) core
after round pieces core (event.Shut function) = record core {
  statuses = slice_set core.statuses function (done_with (fault_in (works_of (status_of core function))));
}
after round pieces core (event.Freeze message) = record core { frozen = slice_set core.frozen message true }

-- what these events leave, one after another [own]
abbrev pub replay : Round → ℕ → Core → List Event → Core
replay round pieces core [] = core
replay round pieces core (event ∷ events) = replay round pieces (after round pieces core event) events

-- each of these events is legal when it comes [own]
abbrev pub are_legal : Round → ℕ → Core → List Event → Bool
are_legal round pieces core [] = true
are_legal round pieces core (event ∷ events) =
    is_legal round.source.model core event && are_legal round pieces (after round pieces core event) events
