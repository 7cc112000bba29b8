-- Which piece is next, and which are begun and not settled.
use Rattle.std.specs.Prelude.{◌≡◌, ℕ, ◌<◌, nat_lt, List, length, slice_index, Bool, true, Option, Some, None}
use Rattle.std.specs.Prelude.{if◌then◌else◌}
use Rattle.std.specs.List.{filter_map}
use Rattle.flame_spec.specs.declared.models.Model.{Model}
use Rattle.flame_spec.specs.Below.{is_in}
use Rattle.flame_spec.specs.Lists.{first}
use Rattle.flame_events.specs.CoreEnds.{wanted}
use Rattle.flame_events.specs.CoreStates.{Work, works_of, Core, status_of, work_of}

-- where pieces are begun in their order, and so many of each function were: the first piece of the function that was not, if
-- it is open and has one [own]
abbrev pub next_of : List ℕ → Core → ℕ → Option (ℕ × ℕ)
next_of begun core function =
    if nat_lt (slice_index begun function) (length (works_of (status_of core function)))
    then Some (function, slice_index begun function)
    else None

-- the first piece by rank and number of a wanted function that was not begun [own]
abbrev pub next_piece : Model → List ℕ → Core → Option (ℕ × ℕ)
next_piece model begun core = first (filter_map (next_of begun core) (wanted model core))

-- the rank is below this one, if there is one [own]
abbrev pub is_rank_below : Option ℕ → ℕ → Bool
is_rank_below None rank = true
is_rank_below (Some least) rank = nat_lt rank least

-- the piece of a wanted function was begun, and none of its agents ran [own]
pub record IsBegun (model : Model) (begun : List ℕ) (core : Core) (function piece : ℕ) : Type 0 where
  pub is_wanted : is_in function (wanted model core) ≡ true
  pub work : Work
  pub there : work_of core function piece ≡ Some work
  pub unrun : work.ran ≡ 0
  pub marked : piece < slice_index begun function

-- there is one [own]
pub record HasBegun (model : Model) (begun : List ℕ) (core : Core) : Type 0 where
  pub function : ℕ
  pub piece : ℕ
  pub is : IsBegun model begun core function piece
