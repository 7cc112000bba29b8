-- Facts that every statement keeps, from the progress before it to the progress that it leaves.
use Rattle.std.specs.Prelude.{◌≡◌, ℕ, suc, ℤ, List, Some}
use Rattle.flame_spec.specs.declared.models.MessageType.{MessageType}
use Rattle.flame_spec.specs.declared.models.AgentType.{AgentType}
use Rattle.flame_spec.specs.declared.models.Model.{Model}
use Rattle.flame_spec.specs.Definitions.{Definition}
use Rattle.flame_spec.specs.LookUps.{message_sent, agent_born}
use Rattle.flame_meaning.specs.Scenes.{Scene, Local, Progress, gave, Calls}
use Rattle.flame_meaning.specs.Ends.{End, went_on, broke, continued, returned, faulted}
use Rattle.flame_meaning.specs.Statements.{set_column, with_message, with_birth}

-- the fact holds of nothing done, of one after another, and of each single change but the payment of fuel [own]
pub record IsKept (model : Model) (R : Progress → Progress → Type 0) : Type 0 where
  pub same : (s : Progress) → R s s
  pub joined : (s t u : Progress) → R s t → R t u → R s u
  pub locals : (s : Progress) (locals : List Local) → R s (record s { locals = locals })
  pub memory : (s : Progress) (column : ℕ) (v : ℤ) → R s (set_column column v s)
  pub message :
      (s : Progress) (word : List ℕ) (found : ℕ × MessageType) (values : List ℤ)
      → message_sent model.messages word ≡ Some found
      → R s (with_message found.0 found.1 values s)
  pub birth :
      (s : Progress) (word : List ℕ) (found : ℕ × AgentType) (values : List ℤ)
      → agent_born model.agents word ≡ Some found
      → R s (with_birth found.0 found.1 values s)

-- the fact holds where a unit is paid, and where a call has paid and given back what is left [own]
pub record IsKeptByPaying (calls : Calls) (R : Progress → Progress → Type 0) : Type 0 where
  pub paid : (s : Progress) (fuel : ℕ) → s.fuel ≡ suc fuel → R s (record s { fuel = fuel })
  pub called :
      (s : Progress) (line : ℕ) (helper : Definition) (values : List ℤ) (v : ℤ) (fuel : ℕ)
      → calls line helper values s.fuel ≡ gave v fuel
      → R s (record s { fuel = fuel })

-- the model and the calls of a scene are these [own]
pub record IsAmong (model : Model) (calls : Calls) (scene : Scene) : Type 0 where
  pub same_model : scene.context.model ≡ model
  pub same_calls : scene.answers ≡ calls

-- the fact holds of the progress that was left, if there is one [own]
abbrev pub Leaves : (Progress → Progress → Type 0) → Progress → End → Type 0
Leaves R s (went_on t) = R s t
Leaves R s (broke t) = R s t
Leaves R s (continued t) = R s t
Leaves R s (returned v t) = R s t
Leaves R s (faulted fault) = Unit {0}
