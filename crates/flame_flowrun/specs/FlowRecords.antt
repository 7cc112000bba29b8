-- What a run with its history comes to.
use Rattle.std.specs.Prelude.{◌≡◌, true, IsTrue}
use Rattle.flame_world.specs.Iterations.{Round, iteration, round_of}
use Rattle.flame_events.specs.CoreEnds.{is_complete}
use Rattle.flame_events.specs.CoreStates.{Core, opening_core}
use Rattle.flame_events.specs.EventSteps.{are_legal, replay}
use Rattle.flame_core.specs.declared.recorded.Recorded.{Recorded}
use Rattle.flame_flow.specs.SeenFlows.{Start}

-- what stays the same throughout an iteration that begins so [own]
abbrev pub round_from : Start → Round
round_from start = round_of start.source start.world start.iteration start.fuel

-- its first core [own]
abbrev pub opening_from : Start → Core
opening_from start = opening_core start.source.model start.world.agents

-- the turn is that of the iteration that begins so, and the events, each legal when it comes, lead from its first core to one
-- that is complete [own]
pub record IsRecordOf (start : Start) (recorded : Recorded) : Type 0 where
  pub turn : recorded.turn ≡ iteration start.source start.world start.iteration start.fuel
  pub legal : IsTrue (are_legal (round_from start) start.pieces (opening_from start) recorded.events)
  pub complete :
      is_complete start.source.model (replay (round_from start) start.pieces (opening_from start) recorded.events) ≡ true
