-- What the workers of a layer do.
use Rattle.std.specs.Prelude.{◌≡◌, ℕ, ◌+◌, ◌==◌, ℤ, List, [], ◌∷◌, map, length, Some, slice_get, if◌then◌else◌}
use Rattle.std.specs.List.{All}
use Rattle.flame_rows.specs.Bags.{ascending, weigh}
use Rattle.flame_spec.specs.Below.{is_in}
use Rattle.flame_world.specs.declared.pieces.Part.{Part}
use Rattle.flame_world.specs.AgentRuns.{sent_from, messages_of}
use Rattle.flame_world.specs.Fields.{Field}
use Rattle.flame_world.specs.Iterations.{Round, outcome_in}
use Rattle.flame_events.specs.LegalEvents.{outputs_of}
use Rattle.flame_round.specs.declared.rounds.Round as run
use Rattle.flame_board.specs.declared.boards.Board.{Board}
use Rattle.flame_board.specs.declared.lanes.Lane.{Lane}
use Rattle.flame_board.specs.LaneParts.{weigh_parts}
use Rattle.flame_board.specs.SeenBoards.{IsLaneOf}
use Rattle.flame_board.specs.SeenLanes.{IsSameLane, parts_of}
use Rattle.flame_lanes.specs.declared.jobs.Done.{Done}
use Rattle.flame_lanes.specs.declared.jobs.Job.{Job}
use Rattle.flame_layerrun.specs.declared.openings.Reading.{Reading}
use Rattle.flame_lanes.specs.declared.tasks.Task.{Task}
use Rattle.flame_lanes.specs.TaskMeanings.{left_of}
use Rattle.flame_layerrun.specs.LayerTasks.{AreListed, FitsTask}

-- ---- one task, whose function runs over the boards of the field `read`

-- what its messages of this type weigh, where its function outputs such [libmboard]
abbrev pub weigh_sent : Round → Field → ℕ → (List ℤ → ℕ) → Task → ℕ
weigh_sent round read message weight task =
    if is_in message (outputs_of round.source.model task.function)
    then weigh weight (messages_of (sent_from (outcome_in round task.function read) (ascending task.agents)) message)
    else 0

-- ---- several tasks

-- what their messages of this type weigh together [libmboard]
abbrev pub weigh_all_sent : Round → Field → List Task → ℕ → (List ℤ → ℕ) → ℕ
weigh_all_sent round read [] message weight = 0
weigh_all_sent round read (task ∷ tasks) message weight =
    weigh_sent round read message weight task + weigh_all_sent round read tasks message weight

-- what those of these parts weigh that are of this type [libmboard]
abbrev pub weigh_of_type : List Part → ℕ → (List ℤ → ℕ) → ℕ
weigh_of_type [] message weight = 0
weigh_of_type (part ∷ parts) message weight =
    (if part.message == message then weigh weight part.rows else 0) + weigh_of_type parts message weight

-- ---- lanes, one for each of these messages

-- each is the same lane still, and for its message so much more was handed in by it as this tells, for every weighing [own]
abbrev pub AreLonger : (ℕ → (List ℤ → ℕ) → ℕ) → List ℕ → List Lane → List Lane → Type 0
AreLonger more [] [] [] = Unit {0}
AreLonger more (message ∷ messages) (old ∷ olds) (new ∷ news) =
    IsSameLane old new
    × ((weight : List ℤ → ℕ) → weigh_parts weight (parts_of new) ≡ weigh_parts weight (parts_of old) + more message weight)
    × AreLonger more messages olds news
AreLonger _ _ _ _ = ⊥

-- each is a lane of the board in its place [own]
abbrev pub AreOwn : List Board → List Lane → Type 0
AreOwn [] [] = Unit {0}
AreOwn (board ∷ boards) (lane ∷ lanes) = IsLaneOf board lane × AreOwn boards lanes
AreOwn _ _ = ⊥

-- ---- a job

-- a worker can do the job: its tasks fit, what their functions output is listed, and it has a lane of the board of each
-- message that is [own]
pub record CanDo
    (round : run.Round) (readings : List Reading) (messages : List ℕ) (boards : List Board) (job : Job) :
    Type 0 where
  pub fit : All (FitsTask round readings) job.tasks
  pub listed : AreListed round.program.now.model messages job.tasks
  pub long : length messages ≡ length job.lanes
  pub own : AreOwn boards job.lanes

-- the job is done: this is what its agents left, in the order of its tasks, and their messages were handed in by its lanes
-- [own]
pub record IsDone (round : Round) (read : Field) (messages : List ℕ) (job : Job) (done : Done) : Type 0 where
  pub lefts : done.lefts ≡ map (left_of round read) job.tasks
  pub lanes : AreLonger (weigh_all_sent round read job.tasks) messages job.lanes done.lanes

-- the jobs are done, each by its own [own]
abbrev pub AreDone : Round → Field → List ℕ → List Job → List Done → Type 0
AreDone round read messages [] [] = Unit {0}
AreDone round read messages (job ∷ jobs) (done ∷ dones) =
    IsDone round read messages job done × AreDone round read messages jobs dones
AreDone _ _ _ _ _ = ⊥
