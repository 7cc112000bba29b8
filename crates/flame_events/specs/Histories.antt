-- Cores that some legal events led to.
use Rattle.std.specs.Prelude.{◌≡◌, ℕ, List, ◌++◌, IsTrue}
use Rattle.flame_world.specs.Iterations.{Round}
use Rattle.flame_events.specs.declared.events.Event.{Event}
use Rattle.flame_events.specs.CoreFits.{FitsCore}
use Rattle.flame_events.specs.CoreStates.{Core}
use Rattle.flame_events.specs.EventSteps.{replay, are_legal}

-- these events, each legal when it comes, lead from one core to the other [own]
pub record Leads (round : Round) (pieces : ℕ) (start : Core) (events : List Event) (core : Core) : Type 0 where
  pub legal : IsTrue (are_legal round pieces start events)
  pub left : core ≡ replay round pieces start events

-- where further events lead on, all of them lead there [own]
abbrev pub HistoriesGrow : Type 0
HistoriesGrow =
    (round : Round) (pieces : ℕ) (start core last : Core) (events more : List Event)
    → Leads round pieces start events core
    → Leads round pieces core more last
    → Leads round pieces start (events ++ more) last

-- where legal events lead from a core that fits the model, the core that they lead to fits it [own]
abbrev pub HistoriesFit : Type 0
HistoriesFit =
    (round : Round) (pieces : ℕ) (start core : Core) (events : List Event)
    → FitsCore round.source.model start
    → Leads round pieces start events core
    → FitsCore round.source.model core
