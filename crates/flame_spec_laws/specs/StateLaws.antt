-- What holds of start states. [own]
use Rattle.std.specs.Prelude.{◌≡◌, ◌↔◌, ℕ, ◌<◌, List, true, false, None, length}
use Rattle.std.specs.List.{All, list_all}
use Rattle.flame_spec.specs.declared.models.Model.{Model}
use Rattle.flame_spec.specs.declared.models.Function.{Function}
use Rattle.flame_spec.specs.KnownNames.{is_among}
use Rattle.flame_spec.specs.States.{is_entered, states, start_states, many_starts}
use Rattle.flame_spec.specs.ModelOrder.{left_over}
use Rattle.flame_spec.specs.Accepted.{has_one_start}

-- a state is a start state exactly where no function enters it
abbrev pub StartsAreNotEntered : Type 0
StartsAreNotEntered =
    (functions : List Function) (state : List ℕ)
    → (is_among state (start_states functions) ≡ true)
    ↔ ((is_among state (states functions) ≡ true) × (is_entered functions state ≡ false))

-- in a model where no function is left over each type has a start state
abbrev pub TypesHaveStarts : Type 0
TypesHaveStarts =
    (model : Model)
    → left_over model ≡ None
    → All (λ type. 0 < length (start_states type.functions)) model.agents

-- in a model where no function is left over and no type has two start states each type has one
abbrev pub PlansHaveOneStart : Type 0
PlansHaveOneStart =
    (model : Model)
    → left_over model ≡ None
    → many_starts model ≡ None
    → list_all has_one_start model.agents ≡ true
