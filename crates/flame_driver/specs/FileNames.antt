-- The names of the files of a run.
use Rattle.std.specs.Prelude.{◌≡◌, ℕ, ◌<◌, ◌^◌, ℤ, List, Some, slice_get}
use Rattle.std.specs.Int.Signed.{mag}
use Rattle.flame_spec.specs.declared.outcomes.Source.{Source}
use Rattle.flame_popfile.specs.declared.starts.Start.{Start}
use Rattle.flame_popfile.specs.StartLaws.{LeavesRoom}
use Rattle.flame_driver.specs.Runs.{Stage, run}
use Rattle.flame_driver.specs.RunScripts.{file_name}

-- iterations with different numbers have files with different names, where 64 bits hold the numbers; so a run puts no
-- name twice, where its numbers are from 0 to 2147483647 [own]
pub record NamesDiffer : Type 0 where
  pub numbers :
      (prefix : List ℕ) (itno other : ℤ)
      → mag itno < 2 ^ 63
      → mag other < 2 ^ 63
      → file_name prefix itno ≡ file_name prefix other
      → itno ≡ other
  pub runs :
      (source : Source) (fuel turns : ℕ) (start : Start) (prefix : List ℕ) (place other : ℕ) (first second : Stage)
      → LeavesRoom turns start.itno
      → slice_get (run source fuel turns start).stages place ≡ Some first
      → slice_get (run source fuel turns start).stages other ≡ Some second
      → file_name prefix first.itno ≡ file_name prefix second.itno
      → place ≡ other
