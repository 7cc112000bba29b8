-- The states of an agent type, and those where its agents start.
use Rattle.std.specs.Prelude.{ℕ, ◌+◌, List, [], ◌∷◌, ◌++◌, Bool, not, codes, filter, nat_lt, length, Option, Some, None, if◌then◌else◌}
use Rattle.std.specs.List.{list_any, position_or_len}
use Rattle.std.specs.Str.{bytes_eq}
use Rattle.flame_spec.specs.declared.models.Model.{Model}
use Rattle.flame_spec.specs.declared.models.AgentType.{AgentType}
use Rattle.flame_spec.specs.declared.models.Function.{Function}
use Rattle.flame_spec.specs.KnownNames.{is_among}

-- these texts without the earlier ones, each once [own]
abbrev pub distinct_after : List (List ℕ) → List (List ℕ) → List (List ℕ)
distinct_after earlier [] = []
distinct_after earlier (text ∷ texts) =
    if is_among text earlier
    then distinct_after earlier texts
    else text ∷ distinct_after (earlier ++ text ∷ []) texts

-- these texts, each once, where it first stands [own]
abbrev pub distinct : List (List ℕ) → List (List ℕ)
distinct texts = distinct_after [] texts

-- what each function leaves and what it enters, function by function [XMML]
abbrev pub ends : List Function → List (List ℕ)
ends [] = []
ends (function ∷ functions) = function.current ∷ function.next ∷ ends functions

-- the states of a type with these functions; without functions it has the one state `start`
-- [FLAME User Manual; without functions: own]
abbrev pub states : List Function → List (List ℕ)
states [] = codes "start" ∷ []
states (function ∷ functions) = distinct (ends (function ∷ functions))

-- one of the functions enters the state [FLAME User Manual]
abbrev pub is_entered : List Function → List ℕ → Bool
is_entered functions state = list_any (λ function. bytes_eq function.next state) functions

-- the start states: those that no function enters, in the order of their first function [FLAME User Manual]
abbrev pub start_states : List Function → List (List ℕ)
start_states functions = filter (λ state. not (is_entered functions state)) (states functions)

-- the first of these types that has two start states or more, where they are numbered from i, with its start states
-- [own]
abbrev pub many_from : ℕ → List AgentType → Option (ℕ × List (List ℕ))
many_from i [] = None
many_from i (type ∷ types) =
    if nat_lt 1 (length (start_states type.functions))
    then Some (i, start_states type.functions)
    else many_from (i + 1) types

-- the first type of the model that has two start states or more, with these [own]
abbrev pub many_starts : Model → Option (ℕ × List (List ℕ))
many_starts model = many_from 0 model.agents

-- the place of a state among the states of its type [own]
abbrev pub state_place : AgentType → List ℕ → ℕ
state_place type state = position_or_len (λ other. bytes_eq other state) (states type.functions)
