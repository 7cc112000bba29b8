-- An iteration: the functions of the model one after another in model order, each over all agents that take it.
use Rattle.std.specs.Prelude.{ℕ, ℤ, List, [], ◌∷◌, not, Option, Some, None, Result, Ok, Err, slice_get}
use Rattle.std.specs.List.{filter}
use Rattle.flame_rows.specs.Bags.{merge}
use Rattle.flame_spec.specs.declared.models.Model.{Model}
use Rattle.flame_spec.specs.declared.outcomes.Source.{Source}
use Rattle.flame_spec.specs.declared.outcomes.Outcome.{Outcome}
use Rattle.flame_spec.specs.Functions.{Place, functions}
use Rattle.flame_spec.specs.Choice.{choice, is_chosen, takers}
use Rattle.flame_spec.specs.ModelOrder.{model_order}
use Rattle.flame_meaning.specs.Outcomes.{outcome}
use Rattle.flame_world.specs.declared.faults.SimFault.{SimFault}
use Rattle.flame_world.specs.declared.turns.Turn.{Turn}
use Rattle.flame_world.specs.declared.turns.Turn.TheVariants.{Done, Faulted}
use Rattle.flame_world.specs.declared.worlds.World.{World}
use Rattle.flame_world.specs.AgentRuns.{survivors, sent_from, born_from, least_fault, messages_of, births_of}
use Rattle.flame_spec.specs.States.{state_place}
use Rattle.flame_world.specs.Fields.{Field, opening, pool_in, changed_pool, joined, gathered}

-- what stays the same throughout an iteration: the model and its function files, the constants, the iteration's number
-- and the fuel of each call of a function [own]
pub record Round : Type 0 where
  pub source : Source
  pub constants : List ℤ
  pub iteration : ℤ
  pub fuel : ℕ

-- ---- one function

-- the agents that rest in the state that the function of this place leaves [FLAME User Manual]
abbrev pub resting : Place → Field → List (List ℤ)
resting place field = pool_in field.pools place.agent (state_place place.type place.function.current)

-- those of them that take it [FLAME User Manual]
abbrev pub taking : Round → ℕ → Place → Field → List (List ℤ)
taking round function place field =
    takers round.source.model place.agent place.function.current function round.iteration (resting place field)

-- those that stay: their choice is another function, or none [FLAME User Manual]
abbrev pub staying : Round → ℕ → Place → List (List ℤ) → List (List ℤ)
staying round function place pool =
    filter
    (λ memory.
    not
    (is_chosen function
    (choice round.source.model place.agent place.function.current memory round.iteration)))
    pool

-- the outcome of the function for an agent, over the boards as they are [FLAME User Manual]
abbrev pub outcome_in : Round → ℕ → Field → List ℤ → Outcome
outcome_in round function field memory =
    outcome round.source function memory field.boards round.constants round.iteration round.fuel

-- the takers leave the state, the survivors arrive in the next one, messages join the boards, births are set aside
-- [FLAME User Manual; when births act: own]
abbrev pub moved : Round → ℕ → Place → Field → Field
moved round function place field =
    let run : List ℤ → Outcome = outcome_in round function field in
    let agents : List (List ℤ) = taking round function place field in
    record {
      pools =
          changed_pool place.agent (state_place place.type place.function.next) (λ pool. merge pool (survivors run agents))
          (changed_pool place.agent (state_place place.type place.function.current) (staying round function place)
          field.pools);
      born = joined (births_of (born_from run agents)) field.born;
      boards = joined (messages_of (sent_from run agents)) field.boards;
    }

-- the field, or the fault where there is one [own]
abbrev pub unless_faulted : Option SimFault → Field → Result Field SimFault
unless_faulted None field = Ok field
unless_faulted (Some fault) field = Err fault

-- the function of this place runs: the least fault of its takers, or what the field becomes
-- [FLAME User Manual; which fault, and no place: own]
abbrev pub step_at : Option Place → Round → ℕ → Field → Result Field SimFault
step_at None round function field = Ok field
step_at (Some place) round function field =
    unless_faulted
    (least_fault round.iteration function (outcome_in round function field) (taking round function place field))
    (moved round function place field)

-- the function of this number runs [FLAME User Manual]
abbrev pub step : Round → ℕ → Field → Result Field SimFault
step round function = step_at (slice_get (functions round.source.model) function) round function

-- ---- all functions

-- what follows goes on with the field, and a fault ends the iteration [own]
abbrev pub and_on : Result Field SimFault → (Field → Result Field SimFault) → Result Field SimFault
and_on (Ok field) go = go field
and_on (Err fault) go = Err fault

-- these functions run one after another [FLAME User Manual]
abbrev pub steps : Round → List ℕ → Field → Result Field SimFault
steps round [] field = Ok field
steps round (function ∷ functions) field = and_on (step round function field) (steps round functions)

-- the world and the boards at the end, or the fault [FLAME User Manual]
abbrev pub turn_of : List ℤ → Result Field SimFault → Turn
turn_of constants (Ok field) =
    Done (record { constants = constants; agents = gathered field }) (record { boards = field.boards })
turn_of constants (Err fault) = Faulted fault

-- what an iteration has throughout, in this world [own]
abbrev pub round_of : Source → World → ℤ → ℕ → Round
round_of source world iteration fuel = record {
  source = source;
  constants = world.constants;
  iteration = iteration;
  fuel = fuel;
}

-- the iteration of this number of a world, with this fuel for each call of a function: agents that are born in it take no
-- function before the next [FLAME User Manual; fuel, and when births act: own]
abbrev pub iteration : Source → World → ℤ → ℕ → Turn
iteration source world number fuel =
    turn_of world.constants
    (steps (round_of source world number fuel) (model_order source.model) (opening source.model world.agents))
