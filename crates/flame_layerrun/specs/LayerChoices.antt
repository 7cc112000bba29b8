-- What runs of agents choose.
use Rattle.std.specs.Prelude.{◌≡◌, ℕ, ◌+◌, ◌/◌, ◌%◌, ◌<◌, min, ℤ, List, Result, IfOk, length, map, slice_index_or}
use Rattle.std.specs.Fork.{slice_chunk}
use Rattle.flame_rows.specs.declared.fails.NoMemory.{NoMemory}

-- there is an answer for each run of these agents, which are so long but the last, and each that was given has the choices of its
-- run [own]
pub record AreRunChoices
    (choose : List ℤ → ℕ) (size : ℕ) (agents : List (List ℤ)) (runs : List (Result (List ℕ) NoMemory)) :
    Type 0 where
  pub count : length runs ≡ length agents / size + min 1 (length agents % size)
  pub each :
      (n : ℕ) (other : Result (List ℕ) NoMemory)
      → n < length runs
      → IfOk (slice_index_or runs n other) (λ choices. choices ≡ map choose (slice_chunk agents size n))
