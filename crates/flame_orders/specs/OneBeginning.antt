-- What two cores agree on to which legal events led from one beginning.
use Rattle.std.specs.Prelude.{◌≡◌, ℕ, ◌<◌, ℤ, List, [], map, length, slice_index_or, true, Option, Some}
use Rattle.std.specs.List.{list_all}
use Rattle.flame_spec.specs.Accepted.{IsAccepted}
use Rattle.flame_world.specs.declared.faults.SimFault.{SimFault}
use Rattle.flame_world.specs.Iterations.{Round, outcome_in}
use Rattle.flame_events.specs.declared.events.Event.{Event}
use Rattle.flame_events.specs.CoreStates.{Work, Open, Core, status_of, work_of, is_frozen, opening_core}
use Rattle.flame_events.specs.EventSteps.{done_with}
use Rattle.flame_events.specs.Histories.{Leads}
use Rattle.flame_events.specs.LegalEvents.{inputs_of}
use Rattle.flame_orders.specs.WholeFunctions.{agents_in_pieces}

-- events of an accepted source, each legal when it came, lead to each of two cores from one beginning, which has a bag
-- for each agent type. Takers are cut into at most so many pieces on the way to the one core, and into at most so many
-- others on the way to the other, at least one each [own]
pub record HaveOneBeginning (round : Round) (pieces other_pieces : ℕ) (core other : Core) : Type 0 where
  pub accepted : IsAccepted round.source
  pub agents : List (List (List ℤ))
  pub has_bags : length agents ≡ length round.source.model.agents
  pub some : 0 < pieces
  pub events : List Event
  pub leads : Leads round pieces (opening_core round.source.model agents) events core
  pub other_some : 0 < other_pieces
  pub other_events : List Event
  pub other_leads : Leads round other_pieces (opening_core round.source.model agents) other_events other

-- a board that is frozen in both has the same messages in both [own]
abbrev pub FrozenBoardsAgree : Type 0
FrozenBoardsAgree =
    (round : Round) (pieces other_pieces message : ℕ) (core other : Core)
    → HaveOneBeginning round pieces other_pieces core other
    → is_frozen core message ≡ true
    → is_frozen other message ≡ true
    → slice_index_or core.field.boards message [] ≡ slice_index_or other.field.boards message []

-- where the boards of a function's inputs are frozen in both, it has the same outcome in both for each memory [own]
abbrev pub OutcomesAgree : Type 0
OutcomesAgree =
    (round : Round) (pieces other_pieces function : ℕ) (memory : List ℤ) (core other : Core)
    → HaveOneBeginning round pieces other_pieces core other
    → list_all (is_frozen core) (inputs_of round.source.model function) ≡ true
    → list_all (is_frozen other) (inputs_of round.source.model function) ≡ true
    → outcome_in round function core.field memory ≡ outcome_in round function other.field memory

-- a piece that is there in both has the same agents in both, where takers are cut into as many pieces [own]
abbrev pub PiecesAgree : Type 0
PiecesAgree =
    (round : Round) (pieces function piece : ℕ) (work counterpart : Work) (core other : Core)
    → HaveOneBeginning round pieces pieces core other
    → work_of core function piece ≡ Some work
    → work_of other function piece ≡ Some counterpart
    → work.agents ≡ counterpart.agents

-- a function that is open in both has the same agents in both, its pieces laid end to end; where takers are cut into as
-- many pieces, it has as many, and they have the same agents, piece by piece [own]
abbrev pub OpenFunctionsAgree : Type 0
OpenFunctionsAgree =
    (round : Round) (pieces other_pieces function : ℕ) (works counterparts : List Work) (core other : Core)
    → HaveOneBeginning round pieces other_pieces core other
    → status_of core function ≡ Open works
    → status_of other function ≡ Open counterparts
    → (agents_in_pieces works ≡ agents_in_pieces counterparts)
    × (pieces ≡ other_pieces → map (λ work. work.agents) works ≡ map (λ work. work.agents) counterparts)

-- a function that is done in both is done in both without a fault, or with the same one [own]
abbrev pub DoneFunctionsAgree : Type 0
DoneFunctionsAgree =
    (round : Round) (pieces other_pieces function : ℕ) (fault counterpart : Option SimFault) (core other : Core)
    → HaveOneBeginning round pieces other_pieces core other
    → status_of core function ≡ done_with fault
    → status_of other function ≡ done_with counterpart
    → fault ≡ counterpart
