-- What the agents of the functions of a layer leave besides messages.
use Rattle.std.specs.Prelude.{◌≡◌, ℕ, ℤ, List, [], ◌∷◌, Some, slice_get}
use Rattle.std.specs.List.{All}
use Rattle.flame_rows.specs.Bags.{ascending}
use Rattle.flame_spec.specs.declared.outcomes.Outcome.{Outcome}
use Rattle.flame_world.specs.declared.pieces.Rest.{Rest}
use Rattle.flame_world.specs.AgentRuns.{survivors, born_from, births_of, least_fault}
use Rattle.flame_world.specs.Fields.{Field}
use Rattle.flame_world.specs.Iterations.{Round, outcome_in}
use Rattle.flame_lanes.specs.declared.gains.Gain.{Gain}
use Rattle.flame_lanes.specs.declared.tasks.Task.{Task}

-- it is what these agents leave that run the function, in whatever order: the bag of those that live on, that of the births of
-- each type, and the fault of the least that faulted [FLAME User Manual]
pub record IsGain
    (iteration : ℤ) (function : ℕ) (run : List ℤ → Outcome) (agents : List (List ℤ)) (gain : Gain) :
    Type 0 where
  pub survivors_are : ascending gain.survivors.items ≡ survivors run agents
  pub births_are :
      (agent : ℕ) → ascending (births_of gain.born.items agent) ≡ ascending (births_of (born_from run agents) agent)
  pub fault_is : gain.fault ≡ least_fault iteration function run (ascending agents)

-- the same of a rest [own]
pub record IsRestOf
    (iteration : ℤ) (function : ℕ) (run : List ℤ → Outcome) (agents : List (List ℤ)) (rest : Rest) :
    Type 0 where
  pub survivors_are : rest.survivors ≡ survivors run agents
  pub births_are :
      (agent : ℕ) → ascending (births_of rest.born agent) ≡ ascending (births_of (born_from run agents) agent)
  pub fault_is : rest.fault ≡ least_fault iteration function run (ascending agents)

-- these are what the takers of these functions leave that run over the boards of the field `read` [own]
abbrev pub AreGains : Round → Field → List ℕ → List (List (List ℤ)) → List Gain → Type 0
AreGains round read [] [] [] = Unit {0}
AreGains round read (function ∷ functions) (agents ∷ takers) (gain ∷ gains) =
    IsGain round.iteration function (outcome_in round function read) agents gain
    × AreGains round read functions takers gains
AreGains _ _ _ _ _ = ⊥

-- each task is one of the function in its place [own]
abbrev pub AreOfFunctions : List ℕ → List Task → Type 0
AreOfFunctions functions tasks = All (λ task. slice_get functions task.place ≡ Some task.function) tasks
