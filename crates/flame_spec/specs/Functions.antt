-- The functions of a model in document order: type by type, function by function.
use Rattle.std.specs.Prelude.{ℕ, ◌+◌, List, [], ◌∷◌, ◌++◌, map}
use Rattle.flame_spec.specs.declared.models.Model.{Model}
use Rattle.flame_spec.specs.declared.models.AgentType.{AgentType}
use Rattle.flame_spec.specs.declared.models.Function.{Function}

-- a function with its type and the number of its type [own]
pub record Place : Type 0 where
  pub agent : ℕ
  pub type : AgentType
  pub function : Function

-- a function of a type [own]
abbrev pub at_type : ℕ → AgentType → Function → Place
at_type agent type function = record { agent = agent; type = type; function = function }

-- the functions of these types, which are numbered from `agent` [XMML]
abbrev pub functions_from : ℕ → List AgentType → List Place
functions_from agent [] = []
functions_from agent (type ∷ types) = map (at_type agent type) type.functions ++ functions_from (agent + 1) types

-- all functions of the model; the number of a function is its place in this list [XMML]
abbrev pub functions : Model → List Place
functions model = functions_from 0 model.agents
