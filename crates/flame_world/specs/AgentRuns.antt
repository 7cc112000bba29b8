-- What agents leave that run a function: survivors, messages, births, and the least fault. `run` gives the outcome for an
-- agent's memory; the agents stand in content order.
use Rattle.std.specs.Prelude.{ℕ, ◌==◌, ℤ, List, [], map, Option, Some, None}
use Rattle.std.specs.List.{filter, filter_map, flat_map}
use Rattle.flame_rows.specs.Bags.{ascending}
use Rattle.flame_spec.specs.declared.outcomes.Outcome.{Outcome}
use Rattle.flame_spec.specs.declared.outcomes.Outcome.TheVariants.{Ended, Faulted}
use Rattle.flame_spec.specs.declared.outcomes.Sent.{Sent}
use Rattle.flame_spec.specs.declared.outcomes.Born.{Born}
use Rattle.flame_spec.specs.Lists.{first}
use Rattle.flame_world.specs.declared.faults.SimFault.{SimFault}

-- ---- one agent

-- the memory that an agent keeps, where it lives on [FLAME User Manual]
abbrev pub kept : Outcome → Option (List ℤ)
kept (Ended effect) = effect.memory
kept (Faulted fault) = None

-- the messages that it added [FLAME User Manual]
abbrev pub sent_by : Outcome → List Sent
sent_by (Ended effect) = effect.sent
sent_by (Faulted fault) = []

-- the agents that it added [FLAME User Manual]
abbrev pub born_by : Outcome → List Born
born_by (Ended effect) = effect.born
born_by (Faulted fault) = []

-- its fault, with the iteration, the function and its memory at entry [own]
abbrev pub fault_by : ℤ → ℕ → List ℤ → Outcome → Option SimFault
fault_by iteration function memory (Ended effect) = None
fault_by iteration function memory (Faulted fault) = Some (record {
  iteration = iteration;
  function = function;
  cause = fault.cause;
  line = fault.line;
  memory = memory;
})

-- ---- some agents

-- the bag of those that live on [FLAME User Manual]
abbrev pub survivors : (List ℤ → Outcome) → List (List ℤ) → List (List ℤ)
survivors run agents = ascending (filter_map (λ memory. kept (run memory)) agents)

-- all messages, agent by agent [FLAME User Manual]
abbrev pub sent_from : (List ℤ → Outcome) → List (List ℤ) → List Sent
sent_from run agents = flat_map (λ memory. sent_by (run memory)) agents

-- all births, agent by agent [FLAME User Manual]
abbrev pub born_from : (List ℤ → Outcome) → List (List ℤ) → List Born
born_from run agents = flat_map (λ memory. born_by (run memory)) agents

-- the fault of the least agent that faults [own]
abbrev pub least_fault : ℤ → ℕ → (List ℤ → Outcome) → List (List ℤ) → Option SimFault
least_fault iteration function run agents =
    first (filter_map (λ memory. fault_by iteration function memory (run memory)) agents)

-- ---- by type

-- the messages of this type [libmboard]
abbrev pub messages_of : List Sent → ℕ → List (List ℤ)
messages_of sent message = map (λ s. s.row) (filter (λ s. s.message == message) sent)

-- the births of this type [FLAME User Manual]
abbrev pub births_of : List Born → ℕ → List (List ℤ)
births_of born agent = map (λ b. b.row) (filter (λ b. b.agent == agent) born)
