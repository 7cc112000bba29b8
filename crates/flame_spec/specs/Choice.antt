-- Which function an agent takes.
use Rattle.std.specs.Prelude.{ℕ, ◌==◌, ℤ, List, Bool, true, false, ◌&&◌, Option, Some, None, position}
use Rattle.std.specs.List.{filter}
use Rattle.std.specs.Str.{bytes_eq}
use Rattle.flame_spec.specs.declared.conditions.Condition.{Condition}
use Rattle.flame_spec.specs.declared.models.Model.{Model}
use Rattle.flame_spec.specs.declared.models.TimeUnit.{TimeUnit}
use Rattle.flame_spec.specs.declared.models.AgentType.{AgentType}
use Rattle.flame_spec.specs.Conditions.{condition_holds}
use Rattle.flame_spec.specs.Functions.{Place, functions}
use Rattle.flame_spec.specs.Lists.{numbers_where}

-- whether a condition lets an agent with this memory through; without a condition it does [FLAME User Manual]
abbrev pub permits : AgentType → List TimeUnit → Option Condition → List ℤ → ℤ → Bool
permits agent units None memory iteration = true
permits agent units (Some condition) memory iteration = condition_holds agent units condition memory iteration

-- the function is one of this type, and leaves the state [FLAME User Manual]
abbrev pub leaves : ℕ → List ℕ → Place → Bool
leaves agent state place = (place.agent == agent) && bytes_eq place.function.current state

-- the numbers of the functions of this type that leave the state, in document order [FLAME User Manual]
abbrev pub functions_out : Model → ℕ → List ℕ → List ℕ
functions_out model agent state = numbers_where (leaves agent state) (functions model)

-- whether an agent of this type that rests in the state may take the function: it leaves that state, and its condition
-- holds [FLAME User Manual]
abbrev pub may_take : List TimeUnit → ℕ → List ℕ → List ℤ → ℤ → Place → Bool
may_take units agent state memory iteration place =
    leaves agent state place && permits place.type units place.function.condition memory iteration

-- the number of the function that an agent takes which rests in the state: the first in document order that it may
-- take; none where it may take none [FLAME User Manual; the first in document order: own]
abbrev pub choice : Model → ℕ → List ℕ → List ℤ → ℤ → Option ℕ
choice model agent state memory iteration =
    position (may_take model.units agent state memory iteration) (functions model)

-- whether the choice is this function [own]
abbrev pub is_chosen : ℕ → Option ℕ → Bool
is_chosen function None = false
is_chosen function (Some chosen) = chosen == function

-- the takers of a function: of the agents of this type that rest in the state, those whose choice it is
-- [FLAME User Manual]
abbrev pub takers : Model → ℕ → List ℕ → ℕ → ℤ → List (List ℤ) → List (List ℤ)
takers model agent state function iteration resting =
    filter (λ memory. is_chosen function (choice model agent state memory iteration)) resting
