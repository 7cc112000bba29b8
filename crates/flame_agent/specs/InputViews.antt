-- The view of the board of one input.
use Rattle.std.specs.Prelude.{◌≡◌, ℕ, ℤ, List, [], ◌∷◌, ◌++◌, Some, slice_get}
use Rattle.flame_spec.specs.declared.models.Input.{Input}
use Rattle.flame_spec.specs.declared.outcomes.Source.{Source}
use Rattle.flame_spec.specs.Functions.{Place}
use Rattle.flame_code.specs.Feeds.{Fed, not_begun}
use Rattle.flame_meaning.specs.Outcomes.{place_of, message_named}
use Rattle.flame_world.specs.Meaning.{view_from}

-- where the function of this number has an input of this number, the view is what an agent with this memory reads by it
-- from this board [FLAME User Manual]
abbrev pub IsViewFor : Source → ℕ → ℕ → List ℤ → List (List ℤ) → List (List ℤ) → Type 0
IsViewFor source function input memory board view =
    (place : Place) (form : Input)
    → place_of source function ≡ Some place
    → slice_get place.function.inputs input ≡ Some form
    → view ≡ view_from (message_named source.model.messages form.message) place.type memory form board

-- one input more is fed: the view that an agent with this memory reads by it from this board, of which no row has come [own]
pub record IsReadNext
    (source : Source) (function input : ℕ) (memory : List ℤ) (board : List (List ℤ)) (old new : List Fed) :
    Type 0 where
  pub view : List (List ℤ)
  pub is : IsViewFor source function input memory board view
  pub fed : new ≡ old ++ not_begun view ∷ []
