-- What a function came to stays, and the least rank of a faulted function stays until one more is shut with a fault.
use Rattle.std.specs.Prelude.{◌≡◌, ℕ, true, Option, Some, None, IsTrue}
use Rattle.flame_world.specs.declared.faults.SimFault.{SimFault}
use Rattle.flame_world.specs.Iterations.{Round}
use Rattle.flame_events.specs.declared.events.Event.{Event}
use Rattle.flame_events.specs.declared.events.Event.TheVariants as event
use Rattle.flame_events.specs.CoreStates.{is_shut, fault_of, Core, status_of}
use Rattle.flame_events.specs.CoreEnds.{least_fault_rank}
use Rattle.flame_events.specs.LegalEvents.{is_legal}
use Rattle.flame_events.specs.EventSteps.{after}

-- ---- functions that are done

-- a function that is shut still is after a legal event [own]
abbrev pub ShutFunctionsStay : Type 0
ShutFunctionsStay =
    (round : Round) (pieces function : ℕ) (event : Event) (core : Core)
    → IsTrue (is_legal round.source.model core event)
    → is_shut (status_of core function) ≡ true
    → is_shut (status_of (after round pieces core event) function) ≡ true

-- a function that has a fault has the same one after a legal event [own]
abbrev pub FaultsStay : Type 0
FaultsStay =
    (round : Round) (pieces function : ℕ) (fault : SimFault) (event : Event) (core : Core)
    → IsTrue (is_legal round.source.model core event)
    → fault_of (status_of core function) ≡ Some fault
    → fault_of (status_of (after round pieces core event) function) ≡ Some fault

-- ---- the least rank of a faulted function

-- the function that the event shuts, where it shuts one [own]
abbrev pub shut_by : Event → Option ℕ
shut_by (event.Open function) = None
shut_by (event.Agent function piece) = None
shut_by (event.HandIn function piece message) = None
shut_by (event.Shut function) = Some function
shut_by (event.Freeze message) = None

-- it is the same after a legal event that shuts no function [own]
abbrev pub RanksStayUntilShut : Type 0
RanksStayUntilShut =
    (round : Round) (pieces : ℕ) (event : Event) (core : Core)
    → IsTrue (is_legal round.source.model core event)
    → shut_by event ≡ None
    → least_fault_rank round.source.model (after round pieces core event) ≡ least_fault_rank round.source.model core

-- and it is the same after a legal event that shuts a function which has no fault then [own]
abbrev pub RanksStayWithoutFault : Type 0
RanksStayWithoutFault =
    (round : Round) (pieces function : ℕ) (core : Core)
    → IsTrue (is_legal round.source.model core (event.Shut function))
    → fault_of (status_of (after round pieces core (event.Shut function)) function) ≡ None
    → least_fault_rank round.source.model (after round pieces core (event.Shut function))
    ≡ least_fault_rank round.source.model core
