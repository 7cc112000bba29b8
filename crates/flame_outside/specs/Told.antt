-- What a read found.
use Rattle.std.specs.Prelude.{ℕ, List, Option, Some, None}
use Rattle.flame_outside.specs.declared.depot.Got.{Got}
use Rattle.flame_outside.specs.declared.depot.Got.TheVariants.{Missing, Bytes}

-- the bytes that it found, where the name has a file [own]
abbrev pub bytes_of : Got → Option (List ℕ)
bytes_of Missing = None
bytes_of (Bytes bytes) = Some bytes
