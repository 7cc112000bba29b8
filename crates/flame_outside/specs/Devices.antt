-- What contracts see of the outside: of named files, and of printed bytes.
use Rattle.std.specs.Prelude.{ℕ, List, Bool, Option}
use Rattle.flame_outside.specs.Files.{Files}

-- its files, where it tells them; how many reads and how many puts failed; whether it is calm: none will fail [own]
pub record SeenDepot : Type 0 where
  pub files : Option Files
  pub read_faults : ℕ
  pub put_faults : ℕ
  pub calm : Bool

-- the bytes so far, where it tells them; how many writes failed; whether it is calm: none will fail [own]
pub record SeenSink : Type 0 where
  pub written : Option (List ℕ)
  pub faults : ℕ
  pub calm : Bool
