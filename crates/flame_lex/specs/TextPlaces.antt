-- What the bytes before a place say of it.
use Rattle.std.specs.Prelude.{ℕ, ◌+◌, Bool, List, count_by}
use Rattle.std.specs.List.{list_all, after_last}
use Rattle.flame_lex.specs.ByteRuns.{is_line_feed, is_space_or_tab}

-- the line of the place, from 1; lines end by LF alone [own]
abbrev pub line_of : List ℕ → ℕ
line_of before = 1 + count_by is_line_feed before

-- nothing but spaces and tabs stands before the place on its line [C, 6.10]
abbrev pub begins_line : List ℕ → Bool
begins_line before = list_all is_space_or_tab (after_last is_line_feed before)
