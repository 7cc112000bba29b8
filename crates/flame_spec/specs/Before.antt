-- Which function of a model stands before which.
use Rattle.std.specs.Prelude.{ℕ, ◌==◌, ◌&&◌, ◌||◌, List, Bool, false, Option, Some, None, length, slice_get}
use Rattle.std.specs.List.{list_any}
use Rattle.std.specs.Str.{bytes_eq}
use Rattle.flame_spec.specs.declared.models.Model.{Model}
use Rattle.flame_spec.specs.declared.models.Function.{Function}
use Rattle.flame_spec.specs.Functions.{Place, functions}

-- f adds the message [XMML]
abbrev pub adds : Function → List ℕ → Bool
adds f message = list_any (bytes_eq message) f.outputs

-- g reads a message that f adds [XMML]
abbrev pub feeds : Function → Function → Bool
feeds f g = list_any (λ input. adds f input.message) g.inputs

-- f and g are functions of one type, and g leaves the state that f enters [FLAME User Manual]
abbrev pub leads_to : Place → Place → Bool
leads_to f g = (f.agent == g.agent) && bytes_eq g.function.current f.function.next

-- f stands before g [FLAME User Manual]
abbrev pub stands_before : Place → Place → Bool
stands_before f g = leads_to f g || feeds f.function g.function

-- the same of two functions that may be missing [own]
abbrev pub both_stand : Option Place → Option Place → Bool
both_stand None g = false
both_stand (Some f) None = false
both_stand (Some f) (Some g) = stands_before f g

-- among these functions the one of number f stands before that of number g [own]
abbrev pub before_among : List Place → ℕ → ℕ → Bool
before_among places f g = both_stand (slice_get places f) (slice_get places g)

-- function f of the model stands before its function g [FLAME User Manual]
abbrev pub before : Model → ℕ → ℕ → Bool
before model f g = before_among (functions model) f g

-- how many functions the model has [own]
abbrev pub function_count : Model → ℕ
function_count model = length (functions model)
