-- Bytes that were printed.
use Rattle.std.specs.Prelude.{◌≡◌, ℕ, ◌++◌, List, take, Option, option_map}
use Rattle.flame_outside.specs.Devices.{SeenSink}

-- what is told, with these bytes behind it [own]
abbrev pub with_bytes : List ℕ → Option (List ℕ) → Option (List ℕ)
with_bytes bytes written = option_map (λ told. told ++ bytes) written

-- these bytes were appended [own]
abbrev pub Prints : List ℕ → SeenSink → SeenSink → Type 0
Prints bytes old new = new.written ≡ with_bytes bytes old.written

-- a front of these bytes was appended [own]
pub record PrintsFront (bytes : List ℕ) (old new : SeenSink) : Type 0 where
  pub count : ℕ
  pub appended : Prints (take count bytes) old new
