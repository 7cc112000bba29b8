-- A run: iterations one after another, up to the first that faults.
use Rattle.std.specs.Prelude.{ℕ, zero, suc, ℤ, pos, ◌+ℤ◌, List, [], ◌∷◌, Option, Some, None}
use Rattle.flame_spec.specs.declared.outcomes.Source.{Source}
use Rattle.flame_world.specs.declared.faults.SimFault.{SimFault}
use Rattle.flame_world.specs.declared.turns.Turn.{Turn}
use Rattle.flame_world.specs.declared.turns.Turn.TheVariants.{Done, Faulted}
use Rattle.flame_world.specs.declared.worlds.World.{World}
use Rattle.flame_world.specs.declared.worlds.Boards.{Boards}
use Rattle.flame_world.specs.Iterations.{iteration}
use Rattle.flame_popfile.specs.declared.starts.Start.{Start}

-- an iteration that is done: its number, the world at its end, and the messages that were sent in it
-- [FLAME User Manual]
pub record Stage : Type 0 where
  pub itno : ℤ
  pub world : World
  pub boards : Boards

-- the iteration of this number, done with this world and these boards [own]
abbrev pub stage : ℤ → World → Boards → Stage
stage itno world boards = record { itno = itno; world = world; boards = boards }

-- the iterations of a run that are done, in their order, and the fault that ends it, where one does
-- [FLAME User Manual; that a fault ends it: own]
pub record Run : Type 0 where
  pub stages : List Stage
  pub fault : Option SimFault

-- the run of no iterations [own]
abbrev pub empty_run : Run
empty_run = record { stages = []; fault = None }

-- an iteration that is done, and then this run [own]
abbrev pub and_run : Stage → Run → Run
and_run stage later = record { stages = stage ∷ later.stages; fault = later.fault }

-- the run whose first iteration, of this number, comes to this turn: where it is done, it is the first, and then comes
-- the run that `later` gives from its end; where it faulted, none is done, and its fault ends the run [own]
abbrev pub run_by : ℤ → Turn → (Start → Run) → Run
run_by itno (Done world boards) later =
    and_run (stage itno world boards) (later (record { itno = itno; world = world }))
run_by itno (Faulted fault) later = record { stages = []; fault = Some fault }

-- so many iterations from a start on, up to the first that faults, with this fuel for each call of a function: the
-- first has the number behind the start's [FLAME User Manual; fuel, and that a fault ends a run: own]
abbrev pub run : Source → ℕ → ℕ → Start → Run
run source fuel zero start = empty_run
run source fuel (suc turns) start =
    run_by
    (start.itno +ℤ pos 1)
    (iteration source start.world (start.itno +ℤ pos 1) fuel)
    (run source fuel turns)
