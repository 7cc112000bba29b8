-- Where runs of valid codes stand. [own]
use Rattle.std.specs.Prelude.{◌≡◌, ℕ, ℤ, List, length, true, Some, slice_get, option_and_then}
use Rattle.flame_code.specs.Feeds.{Fed, last_come}
use Rattle.flame_code.specs.InputRows.{rows_of, HaveWidths}
use Rattle.flame_code.specs.Machine.{Config}
use Rattle.flame_code.specs.Routines.{Routine, Delivered}
use Rattle.flame_code.specs.Validity.{Path}

-- an input of which a row was delivered has a row that came last
abbrev pub AreCurrent : Delivered → List Fed → Type 0
AreCurrent delivered feeds =
    (input : ℕ) → delivered input ≡ true
    → (row : List ℤ) × (option_and_then last_come (slice_get feeds input) ≡ Some row)

-- the run stands where a path leads, with the stack that belongs there, the rows that were delivered, and rows of the
-- right widths
pub record IsOnPath (r : Routine) (c : Config) : Type 0 where
  pub delivered : Delivered
  pub path : Path r c.place (length c.stack) delivered
  pub current : AreCurrent delivered c.feeds
  pub memory : length c.memory ≡ r.widths.memory
  pub rows : HaveWidths r.widths.inputs (rows_of c.feeds)
