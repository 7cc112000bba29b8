-- Tasks: some agents of a function of a layer each.
use Rattle.std.specs.Prelude.{ℕ, ◌==◌, ℤ, List, [], ◌∷◌, if◌then◌else◌}
use Rattle.std.specs.List.{All, Contains, flat_map}
use Rattle.flame_spec.specs.Lists.{each}
use Rattle.flame_lanes.specs.declared.tasks.Task.{Task}

-- the task of this number of the function, with these agents [own]
abbrev pub task_of : ℕ → ℕ → ℕ → List (List ℤ) → Task
task_of place function number agents = record {
  place = place;
  function = function;
  number = number;
  agents = agents;
}

-- the tasks of the function with these agents, numbered in their order from 0 [own]
abbrev pub tasks_of : ℕ → ℕ → List (List (List ℤ)) → List Task
tasks_of place function runs = each (λ number agents. task_of place function number agents ∷ []) runs

-- the agents of the function in this place, task by task [own]
abbrev pub agents_at : ℕ → List Task → List (List ℤ)
agents_at place tasks = flat_map (λ task. if task.place == place then task.agents else []) tasks

-- each of these tasks is one of those [own]
abbrev pub AreFrom : List Task → List Task → Type 0
AreFrom all tasks = All (λ task. Contains all task) tasks
