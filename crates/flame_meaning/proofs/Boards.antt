-- The boards of a function's inputs alone count.
use Rattle.std.proofs.Common.{◌≡◌, ℕ, zero, suc, List, [], ◌∷◌, map, refl, ap, ◌∙◌, Option, Some, None, arith}
use Rattle.std.specs.Prelude.{ℤ, All, slice_get}
use Rattle.flame_spec.specs.declared.models.AgentType.{AgentType}
use Rattle.flame_spec.specs.declared.models.Input.{Input}
use Rattle.flame_spec.specs.declared.models.MessageType.{MessageType}
use Rattle.flame_spec.specs.declared.models.Model.{Model}
use Rattle.flame_spec.specs.Functions.{functions, Place}
use Rattle.flame_spec.specs.Views.{view_of}
use Rattle.flame_meaning.specs.Outcomes.{message_named, reading_by, reading_of, readings_at, outcome_over}
use Rattle.flame_meaning.specs.OutcomeLaws.{HasSameBoard, InputBoardsCount}

same_reading :
    (found : Option (ℕ × MessageType)) (model : Model) (type : AgentType) (memory : List ℤ) (boards others : List (List (List ℤ))) (input : Input)
    → message_named model.messages input.message ≡ found
    → HasSameBoard model boards others input
    → reading_by found type memory boards input ≡ reading_by found type memory others input
same_reading None model type memory boards others input e h = refl
same_reading (Some found) model type memory boards others input e h =
    ap (view_of type found.1 input.filter input.sort memory) (h found e)

same_map : {X Y : Type 0} (f g : X → Y) (xs : List X) → All (λ x. f x ≡ g x) xs → map f xs ≡ map g xs
same_map f g [] h = refl
same_map {X} f g (x ∷ xs) h =
    ap (λ y. y ∷ map f xs) (h zero x (omega arith))
    ∙ ap (λ ys. g x ∷ ys) (same_map f g xs (λ k d less. h (suc k) d (omega (arith, less))))

same_readings :
    (place : Option Place) (model : Model) (memory : List ℤ) (boards others : List (List (List ℤ)))
    → ((found : Place) → place ≡ Some found → All (HasSameBoard model boards others) found.function.inputs)
    → readings_at place model memory boards ≡ readings_at place model memory others
same_readings None model memory boards others h = refl
same_readings (Some place) model memory boards others h =
    same_map (reading_of model place.type memory boards) (reading_of model place.type memory others) place.function.inputs
    (λ k d less. same_reading (message_named model.messages _) model place.type memory boards others _ refl (h place refl k d less))

pub input_boards_count : InputBoardsCount
input_boards_count source function memory boards others constants iteration fuel h =
    ap (λ readings. outcome_over source function memory readings constants iteration fuel)
    (same_readings (slice_get (functions source.model) function) source.model memory boards others h)
