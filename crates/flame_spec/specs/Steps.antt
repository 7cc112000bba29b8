-- Reading in steps, each of which may find nothing.
use Rattle.std.specs.Prelude.{Bool, if◌then◌else◌, Option, Some, None, option_and_then, ⊤}

infixl 10 ◌>>=◌
-- go on with what was found [own]
abbrev pub ◌>>=◌ : {X Y : Type 0} → Option X → (X → Option Y) → Option Y
found >>= next = option_and_then next found

-- go on only where this holds [own]
abbrev pub only_where : Bool → Option ⊤
only_where holds = if holds then Some tt else None
