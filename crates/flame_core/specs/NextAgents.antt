-- Which agent of a piece runs next.
use Rattle.std.specs.Prelude.{◌≡◌, ℕ, ℤ, List, Some, slice_get}
use Rattle.flame_events.specs.CoreStates.{Work, Core, work_of}

-- this is the memory of the next agent of the piece [own]
pub record IsNext (core : Core) (function piece : ℕ) (memory : List ℤ) : Type 0 where
  pub work : Work
  pub there : work_of core function piece ≡ Some work
  pub next : slice_get work.agents work.ran ≡ Some memory

-- the piece has a next agent [own]
pub record HasNext (core : Core) (function piece : ℕ) : Type 0 where
  pub memory : List ℤ
  pub is : IsNext core function piece memory
