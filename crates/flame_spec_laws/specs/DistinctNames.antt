-- Lists of different names. [own]
use Rattle.std.specs.Prelude.{◌≢◌, ℕ, ◌<◌, List, [], length, slice_index_or}

-- names at different places differ
abbrev pub AreDistinct : List (List ℕ) → Type 0
AreDistinct names =
    (i k : ℕ) → i < k → k < length names → slice_index_or names i [] ≢ slice_index_or names k []
