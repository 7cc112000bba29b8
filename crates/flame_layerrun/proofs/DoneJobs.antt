-- Jobs that are done.
use Rattle.std.proofs.Common.{◌≡◌, ℕ, suc, ◌+◌, ◌<◌, List, [], ◌∷◌, ◌++◌, length, map, arith}
use Rattle.std.specs.Prelude.{ℤ, IfOk, Ok, Result, slice_index_or}
use Rattle.flame_rows.specs.declared.fails.NoMemory.{NoMemory}
use Rattle.flame_world.specs.Fields.{Field}
use Rattle.flame_world.specs.Iterations.{Round}
use Rattle.flame_round.specs.declared.rounds.Round as run
use Rattle.flame_round.specs.KeptRounds.{round_of}
use Rattle.flame_lanes.specs.declared.jobs.Done.{Done}
use Rattle.flame_lanes.specs.declared.jobs.Job.{Job}
use Rattle.flame_lanes.specs.declared.tasks.Task.{Task}
use Rattle.flame_layerrun.specs.declared.openings.Reading.{Reading}
use Rattle.flame_layerrun.specs.LayerTasks.{AreRead}
use Rattle.flame_layerrun.specs.LayerWork.{AreDone, IsDone, weigh_all_sent, weigh_sent}

-- each job is done where what its worker gave back is
pub all-done : (round : run.Round) (readings : List Reading) (messages : List ℕ) (jobs : List Job) (dones : List Done)
    → length dones ≡ length jobs
    → ((place : ℕ) (other : Result Done NoMemory) (job : Job) → place < length jobs
    → IfOk (slice_index_or (map Ok dones) place other) (λ done. (read : Field) → AreRead round read readings
    → IsDone (round_of round) read messages (slice_index_or jobs place job) done))
    → (read : Field) → AreRead round read readings → AreDone (round_of round) read messages jobs dones
all-done round readings messages [] [] long each read all = tt
all-done round readings messages [] (done ∷ dones) long each read all = absurd (omega (arith, long))
all-done round readings messages (job ∷ jobs) [] long each read all = absurd (omega (arith, long))
all-done round readings messages (job ∷ jobs) (done ∷ dones) long each read all = (
  each 0 (Ok done) job (omega arith) read all,
  all-done round readings messages jobs dones (omega (arith, long))
      (λ place other own less. each (suc place) other own (omega (arith, less))) read all,
)

pub weigh_all_sent-append : (round : Round) (read : Field) (tasks more : List Task) (message : ℕ) (weight : List ℤ → ℕ)
    → weigh_all_sent round read (tasks ++ more) message weight
    ≡ weigh_all_sent round read tasks message weight + weigh_all_sent round read more message weight
weigh_all_sent-append round read [] more message weight = omega arith
weigh_all_sent-append round read (task ∷ tasks) more message weight =
    omega (arith, weigh_all_sent-append round read tasks more message weight)

pub weigh_all_sent-one : (round : Round) (read : Field) (task : Task) (message : ℕ) (weight : List ℤ → ℕ)
    → weigh_sent round read message weight task ≡ weigh_all_sent round read (task ∷ []) message weight
weigh_all_sent-one round read task message weight = omega arith
