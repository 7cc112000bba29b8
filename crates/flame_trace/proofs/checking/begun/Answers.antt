-- The world is the start's, and the number is the next one.
use Rattle.std.proofs.Common.{ap₂, ◌∙◌, w32}
use Rattle.std.specs.Prelude.{ℤ}
use Rattle.std.proofs.lemmas.Int.{to_z-of_z}
use Rattle.std.proofs.lemmas.Result.{IfOk-weaker}
use Rattle.flame_world.specs.declared.worlds.World.{World}
use Rattle.flame_events.specs.CoreStates.{opening_core}
use Rattle.flame_core.specs.SeenCores.{Seen}
use Rattle.flame_trace.proofs.checking.begun.Goals as goal

pub returns : goal.returns
returns c =
    let make : World → ℤ → Seen =
    λ world number. record {
      source = c.args.program.now;
      world = world;
      iteration = number;
      fuel = c.args.head.fuel;
      pieces = c.args.head.pieces;
      core = opening_core c.args.program.now.model world.agents;
    } in
    IfOk-weaker c.new.result _ _
    (λ core is.
    is ∙ ap₂ make c.in_ok-world.ensures (to_z-of_z w32 c.args.iteration c.ranges.iteration ∙ c.requires.number))
    c.new.ensures.core
