-- How the program cuts bytes.
use Rattle.std.specs.Prelude.{◌≡◌, ◌==◌, ◌<◌, ℕ, List, [], ◌∷◌, length, Option, Some, None}
use Rattle.std.specs.Borrow.{Bor}
use Rattle.std.specs.List.{slice_split}
use Rattle.flame_trace.specs.TraceLines.{words}

-- the bytes are cut at the first of this value [own]
pub record IsCut (byte : ℕ) (bytes front rest : List ℕ) : Type 0 where
  pub parts : slice_split (λ other. other == byte) bytes ≡ front ∷ slice_split (λ other. other == byte) rest
  pub shorter : length rest < length bytes

-- the words that are left of a line, of which these bytes are left, if any [own]
abbrev pub words_left : Option (Bor (List ℕ)) → List (List ℕ)
words_left None = []
words_left (Some bytes) = words bytes.now
