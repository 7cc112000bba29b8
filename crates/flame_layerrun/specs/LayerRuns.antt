-- How runs of layers begin, and what the tasks of a layer leave together.
use Rattle.std.specs.Prelude.{◌≡◌, ℕ, ℤ, List, map}
use Rattle.flame_rows.specs.Bags.{weigh}
use Rattle.flame_world.specs.declared.worlds.World.{World}
use Rattle.flame_world.specs.Fields.{Field, opening}
use Rattle.flame_world.specs.Iterations.{Round}
use Rattle.flame_world.specs.WorldFits.{FitsModel}
use Rattle.flame_round.specs.declared.rounds.Round as run
use Rattle.flame_lanes.specs.declared.jobs.Left.{Left}
use Rattle.flame_lanes.specs.declared.tasks.Task.{Task}
use Rattle.flame_lanes.specs.LaneTasks.{AreFrom, agents_at}
use Rattle.flame_lanes.specs.TaskMeanings.{left_of}
use Rattle.flame_layerrun.specs.declared.openings.Reading.{Reading}
use Rattle.flame_layerrun.specs.LayerTasks.{AreRead}

-- an iteration of a world that fits begins with this field [own]
pub record IsBegun (round : run.Round) (field : Field) : Type 0 where
  pub world : World
  pub fits : FitsModel round.program.now.model world
  pub constants : world.constants ≡ round.constants.now
  pub field_is : field ≡ opening round.program.now.model world.agents

-- the functions read the boards of some field [own]
pub record HasRead (round : run.Round) (readings : List Reading) : Type 0 where
  pub read : Field
  pub reads : AreRead round read readings

-- it is what the agents of these tasks left besides messages: the tasks in some order, with the same agents for each function
-- [own]
pub record AreAllLeft (round : Round) (read : Field) (tasks : List Task) (lefts : List Left) : Type 0 where
  pub dealt : List Task
  pub lefts_are : lefts ≡ map (left_of round read) dealt
  pub from : AreFrom tasks dealt
  pub agents :
      (place : ℕ) (weight : List ℤ → ℕ)
      → weigh weight (agents_at place dealt) ≡ weigh weight (agents_at place tasks)
