-- The key by which what is read from a board is found without a look at each message.
use Rattle.std.specs.Prelude.{◌==◌, ◌&&◌, not, Option, Some, None, Bool, false, if◌then◌else◌, option_and_then}
use Rattle.flame_cond.specs.declared.equalities.Equality.{Equality}
use Rattle.flame_cond.specs.declared.forms.Test.{Test}
use Rattle.flame_cond.specs.declared.keys.SortBy.{SortBy}
use Rattle.flame_cond.specs.Equalities.{first_equality}
use Rattle.flame_cond.specs.TestForms.{form_of}

-- the column that a filter fixes, if there is one, by its numbers from the least [own]
abbrev pub fixed_by : Option Equality → Option SortBy → Option SortBy
fixed_by None sort = sort
fixed_by (Some equality) sort = Some (record { variable = equality.column; descending = false })

-- the same of a filter, if there is one [own]
abbrev pub filtered_by : Option Test → Option SortBy → Option SortBy
filtered_by None sort = sort
filtered_by (Some test) sort = fixed_by (first_equality (form_of test)) sort

-- whether it is the order that a board has anyway: ascending by content, and so by the first column [own]
abbrev pub is_content_order : SortBy → Bool
is_content_order by = (by.variable == 0) && not by.descending

-- a key, unless a board has its order anyway [own]
abbrev pub unless_content_order : SortBy → Option SortBy
unless_content_order by = if is_content_order by then None else Some by

-- the key that finds what is read from a board under this filter and this sort: that of the column which the filter fixes,
-- else that of the sort; none where the board has its order anyway [own]
abbrev pub wanted_key : Option Test → Option SortBy → Option SortBy
wanted_key filter sort = option_and_then unless_content_order (filtered_by filter sort)
