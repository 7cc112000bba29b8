-- What the body of a core sees of shares.
use Rattle.std.specs.Prelude.{◌≡◌, ℕ, ◌<◌, ℤ, List, map, Some, true, false}
use Rattle.std.specs.List.{list_all}
use Rattle.flame_spec.specs.declared.models.Model.{Model}
use Rattle.flame_spec.specs.Before.{function_count}
use Rattle.flame_meaning.specs.Outcomes.{place_of}
use Rattle.flame_world.specs.declared.settings.Setting.{Setting}
use Rattle.flame_world.specs.declared.shares.Share.{Share}
use Rattle.flame_world.specs.AgentRuns.{messages_of}
use Rattle.flame_world.specs.InputBoards.{boards_named}
use Rattle.flame_world.specs.Settings.{boards_of}
use Rattle.flame_world.specs.Shares.{piece_of, setting_of}
use Rattle.flame_events.specs.CoreStates.{Work, Core, is_frozen, is_waiting, status_of, work_of}
use Rattle.flame_events.specs.LegalEvents.{inputs_of}
use Rattle.flame_leaving.specs.declared.leavings.Leaving.{Leaving}
use Rattle.flame_progress.specs.declared.leavings.PartedLeaving.{PartedLeaving}
use Rattle.flame_progress.specs.declared.progress.Progress.{Progress}
use Rattle.flame_progress.specs.KeptCores.{core_of}
use Rattle.flame_round.specs.declared.rounds.Round as run

-- what some agents left, its messages parted by these outputs [own]
pub record ArePartsOf (outputs : List ℕ) (leaving : Leaving) (left : PartedLeaving) : Type 0 where
  pub ran_is : left.ran ≡ leaving.ran
  pub survivors_are : left.survivors.items ≡ leaving.survivors.items
  pub parts_are : map (λ rows. rows.items) left.parts.items ≡ map (messages_of leaving.sent.items) outputs
  pub births_are : left.born.items ≡ leaving.born.items
  pub fault_is : left.fault ≡ leaving.fault

-- this is what the agents of this function have before them, over these boards [own]
pub record IsSettingOf (round : run.Round) (boards : List (List (List ℤ))) (function : ℕ) (setting : Setting) : Type 0 where
  pub source : setting.source.now ≡ round.program.now
  pub constants : setting.constants.now ≡ round.constants.now
  pub boards_are : boards_of setting ≡ boards_named (place_of round.program.now function) round.program.now.model boards
  pub iteration : setting.iteration ≡ round.iteration
  pub fuel : setting.fuel ≡ round.fuel

-- a function that began is one of the model, and its boards are frozen [own]
pub record IsFed (model : Model) (progress : Progress) (function : ℕ) : Type 0 where
  pub there : is_waiting (status_of (core_of progress) function) ≡ false → function < function_count model
  pub fed :
      is_waiting (status_of (core_of progress) function) ≡ false
      → list_all (is_frozen (core_of progress)) (inputs_of model function) ≡ true

-- the share's piece is a piece of an open function, with the same agents, of which none has run, under its setting [own]
pub record CanTakeIn (round : run.Round) (core : Core) (share : Share) : Type 0 where
  pub work : Work
  pub there : work_of core (piece_of share).function (piece_of share).number ≡ Some work
  pub agents : (piece_of share).agents ≡ work.agents
  pub new : work.ran ≡ 0
  pub setting : IsSettingOf round core.field.boards (piece_of share).function (setting_of share)
