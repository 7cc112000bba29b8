-- The files that a map from texts to bytes holds.
use Rattle.std.specs.Prelude.{ℕ, List, map, String, string_bytes, Vec}
use Rattle.std.specs.declared.alloc.Global.{Global}
use Rattle.std.specs.FinMap.{from_entries}
use Rattle.flame_outside.specs.Files.{Files}

-- from the bytes of each text to its bytes [own]
abbrev pub stored : List (String Global × Vec ℕ Global) → Files
stored entries = from_entries (map (λ entry. (string_bytes entry.0, entry.1.items)) entries)
