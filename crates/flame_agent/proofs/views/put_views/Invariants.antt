use Rattle.std.proofs.Common.{◌≡◌, take, map}
use Rattle.flame_code.specs.Feeds.{not_begun}
use Rattle.flame_meaning.specs.Outcomes.{place_of}
use Rattle.flame_world.specs.Meaning.{readings_from}
use Rattle.flame_world.specs.Settings.{boards_of}
use Rattle.flame_agent.proofs.views.put_views.Given as goal

abbrev pub invariant-loop-i : goal.invariant-loop-i
invariant-loop-i l =
    l.views
    ≡ take l.i
    (map not_begun (readings_from (place_of l.program l.function) l.program.model l.memory (boards_of l.setting)))
