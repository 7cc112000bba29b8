-- What the choices by numbers are in the model's own words.
use Rattle.std.specs.Prelude.{◌≡◌, ℕ, ◌==◌, not, ℤ, List, Bool, false, Option, Some}
use Rattle.std.specs.List.{find, filter, position_or_len, slice_get}
use Rattle.std.specs.Option.{option_map_or}
use Rattle.flame_spec.specs.declared.models.Model.{Model}
use Rattle.flame_spec.specs.Functions.{functions}
use Rattle.flame_spec.specs.Choice.{permits, functions_out, choice, is_chosen, takers}
use Rattle.flame_cond.specs.declared.forms.Test.{Test}
use Rattle.flame_cond.specs.Said.{AreConditionsOf}
use Rattle.flame_pool.specs.Choosing.{first_place, choices_of}
use Rattle.flame_rows.specs.Parted.{whose}

-- whether the condition of the model's function of this number lets an agent with this memory through
-- [FLAME User Manual]
abbrev pub permits_at : Model → List ℤ → ℤ → ℕ → Bool
permits_at model memory iteration function =
    option_map_or
    (λ place. permits place.type model.units place.function.condition memory iteration)
    (slice_get (functions model) function)
    false

-- the place, among the functions out of a state, of that which an agent takes there; their number where it takes none
-- [FLAME User Manual]
abbrev pub chosen_place : Model → ℕ → List ℕ → ℤ → List ℤ → ℕ
chosen_place model agent state iteration memory =
    position_or_len (permits_at model memory iteration) (functions_out model agent state)

-- the function that an agent takes is the first of the functions out of its state whose condition holds
-- [FLAME User Manual; the first: own]
abbrev pub ChoiceIsFirstOut : Type 0
ChoiceIsFirstOut =
    (model : Model) (agent : ℕ) (state : List ℕ) (memory : List ℤ) (iteration : ℤ)
    → choice model agent state memory iteration
    ≡ find (permits_at model memory iteration) (functions_out model agent state)

-- with the functions out of a state, the place that is chosen is that of the agent's choice
abbrev pub PlaceIsChoice : Type 0
PlaceIsChoice =
    (model : Model) (conditions : List (Option Test)) (agent : ℕ) (state : List ℕ) (memory : List ℤ) (iteration : ℤ)
    → AreConditionsOf conditions model
    → slice_get
    (functions_out model agent state)
    (first_place conditions (functions_out model agent state) iteration memory)
    ≡ choice model agent state memory iteration

-- with the functions out of a state, those who chose a function's place are its takers, and the others rest on
abbrev pub WhoseAreTakers : Type 0
WhoseAreTakers =
    (model : Model) (conditions : List (Option Test)) (agent : ℕ) (state : List ℕ) (iteration : ℤ) (pool : List (List ℤ))
    (place function : ℕ)
    → AreConditionsOf conditions model
    → slice_get (functions_out model agent state) place ≡ Some function
    → let choices = choices_of conditions (functions_out model agent state) iteration pool in
    (whose (λ choice. choice == place) pool choices ≡ takers model agent state function iteration pool)
    × (whose (λ choice. not (choice == place)) pool choices
    ≡ filter (λ memory. not (is_chosen function (choice model agent state memory iteration))) pool)

-- with the functions out of a state, the first whose condition was read and holds is that of the model
abbrev pub FirstIsChosenPlace : Type 0
FirstIsChosenPlace =
    (model : Model) (conditions : List (Option Test)) (agent : ℕ) (state : List ℕ) (memory : List ℤ) (iteration : ℤ)
    → AreConditionsOf conditions model
    → first_place conditions (functions_out model agent state) iteration memory
    ≡ chosen_place model agent state iteration memory

-- those whose choice is a function's place are its takers, and the others rest on
abbrev pub TakersByPlace : Type 0
TakersByPlace =
    (model : Model) (agent : ℕ) (state : List ℕ) (iteration : ℤ) (pool : List (List ℤ)) (place function : ℕ)
    → slice_get (functions_out model agent state) place ≡ Some function
    → (filter (λ memory. chosen_place model agent state iteration memory == place) pool
    ≡ takers model agent state function iteration pool)
    × (filter (λ memory. not (chosen_place model agent state iteration memory == place)) pool
    ≡ filter (λ memory. not (is_chosen function (choice model agent state memory iteration))) pool)
