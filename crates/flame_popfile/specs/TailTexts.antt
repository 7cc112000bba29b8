-- Texts that are written from their end.
use Rattle.std.specs.Prelude.{ℕ, List, drop}
use Rattle.flame_popfile.specs.declared.tails.Tail.{Tail}

-- the text that stands there [own]
abbrev pub held : Tail → List ℕ
held tail = drop tail.start tail.bytes.items
