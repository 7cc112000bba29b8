-- Names of models, variables and functions.
use Rattle.std.specs.Prelude.{ℕ, List, length, slice_index, Bool, ◌&&◌, nat_le, nat_lt}
use Rattle.std.specs.List.{list_all}
use Rattle.flame_ops.specs.Ascii.{begins_word, is_word_byte}

-- at least one byte [own]
abbrev pub is_filled : List ℕ → Bool
is_filled text = nat_lt 0 (length text)

-- 1 to 100 bytes, a letter or `_` first, then letters, digits and `_` [own]
abbrev pub is_name : List ℕ → Bool
is_name text =
    is_filled text
    && nat_le (length text) 100
    && begins_word (slice_index text 0)
    && list_all is_word_byte text
