-- The rows that inputs give, and their widths.
use Rattle.std.specs.Prelude.{◌≡◌, ℕ, ℤ, List, length, map, Some, slice_get}
use Rattle.flame_code.specs.Feeds.{Fed}

-- the rows of each input, in order [libmboard]
abbrev pub rows_of : List Fed → List (List (List ℤ))
rows_of feeds = map (λ fed. fed.rows) feeds

-- there is a list of rows for each width, and its rows have that width [own]
pub record HaveWidths (widths : List ℕ) (lists : List (List (List ℤ))) : Type 0 where
  pub count : length lists ≡ length widths
  pub wide : (input place : ℕ) (rows : List (List ℤ)) (row : List ℤ)
      → slice_get lists input ≡ Some rows
      → slice_get rows place ≡ Some row
      → slice_get widths input ≡ Some (length row)
