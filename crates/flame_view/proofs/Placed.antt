-- The row in a place of a list of places.
use Rattle.std.proofs.Common.{◌≡◌, ℕ, ◌<◌, List, [], length, get_or, Some, sym, ap, ◌∙◌}
use Rattle.std.specs.Prelude.{ℤ, slice_get, slice_index_or, option_map}
use Rattle.std.proofs.lemmas.List.{get_or_default}
use Rattle.std.proofs.lemmas.Option.{slice_get-map, slice_get-get_or}
use Rattle.flame_index.specs.Indexes.{rows_at}

pub slice_get-rows_at : (places : List ℕ) (rows : List (List ℤ)) (place : ℕ) (row : List ℤ) → place < length places
    → get_or places place 0 < length rows → row ≡ get_or rows (get_or places place 0) row → slice_get (rows_at places rows) place ≡ Some row
slice_get-rows_at places rows place row within there is =
    slice_get-map (λ at. slice_index_or rows at []) places place
    ∙ ap (option_map (λ at. slice_index_or rows at [])) (slice_get-get_or places place 0 within)
    ∙ ap Some (get_or_default rows (get_or places place 0) [] row there ∙ sym is)
