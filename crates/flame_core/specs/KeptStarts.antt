-- With what iterations begin.
use Rattle.std.specs.Prelude.{◌≡◌}
use Rattle.flame_core.specs.declared.starting.Start.{Start}

-- the two are equal, but for where they lie [own]
pub record SameStart (one other : Start) : Type 0 where
  pub source : one.program.now ≡ other.program.now
  pub world : one.world.now ≡ other.world.now
  pub iteration : one.iteration ≡ other.iteration
  pub fuel : one.fuel ≡ other.fuel
  pub pieces : one.pieces ≡ other.pieces
