-- What the agents of a task leave besides messages, whose function runs over the boards of the field `read`.
use Rattle.flame_rows.specs.Bags.{ascending}
use Rattle.flame_world.specs.declared.pieces.Rest.{Rest}
use Rattle.flame_world.specs.AgentRuns.{survivors, born_from, least_fault}
use Rattle.flame_world.specs.Fields.{Field}
use Rattle.flame_world.specs.Iterations.{Round, outcome_in}
use Rattle.flame_lanes.specs.declared.jobs.Left.{Left}
use Rattle.flame_lanes.specs.declared.tasks.Task.{Task}

-- what its agents leave besides messages [FLAME User Manual]
abbrev pub rest_of : Round → Field → Task → Rest
rest_of round read task = record {
  survivors = survivors (outcome_in round task.function read) (ascending task.agents);
  born = born_from (outcome_in round task.function read) (ascending task.agents);
  fault = least_fault round.iteration task.function (outcome_in round task.function read) (ascending task.agents);
}

-- the same, with the place of its function [own]
abbrev pub left_of : Round → Field → Task → Left
left_of round read task = record { place = task.place; rest = rest_of round read task }
