-- What the body of a flow keeps.
use Rattle.std.specs.Prelude.{◌≡◌, ℕ, List, [], length, false, Bool}
use Rattle.flame_spec.specs.Before.{function_count}
use Rattle.flame_flow.specs.declared.goings.GoingOn.{GoingOn}
use Rattle.flame_flow.specs.declared.ways.Ways.{Ways}
use Rattle.flame_flow.specs.Goings.{GoesOn}
use Rattle.flame_flow.specs.KeptGoings.{going_of}
use Rattle.flame_flow.specs.KeptWays.{IsWaysOf}

-- the ways are the model's, so many pieces of each function are marked as begun, and where the flow is not short, nothing of
-- functions and boards is legal, each piece is whole, and it is known what is due [own]
pub record IsKeptFlow (going : GoingOn) (ways : Ways) (begun : List ℕ) (short : Bool) : Type 0 where
  pub ways_are : IsWaysOf going.told.seen.source.model ways
  pub long : length begun ≡ function_count going.told.seen.source.model
  pub over : short ≡ false → going.over.items ≡ []
  pub goes : short ≡ false → GoesOn going.told.seen.source.model begun [] [] (going_of going)
