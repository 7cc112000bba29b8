-- What the faults of tokens say.
use Rattle.std.specs.Prelude.{ℕ, List, codes}
use Rattle.flame_expr.specs.declared.faults.ParseFault.{ParseFault}
use Rattle.flame_expr.specs.declared.faults.ParseFault.TheVariants.{TooDeep, Syntax}

-- the number of the token [own]
abbrev pub token_of : ParseFault → ℕ
token_of (TooDeep token) = token
token_of (Syntax token) = token

-- the cause's name, as it is printed [own]
abbrev pub name_of : ParseFault → List ℕ
name_of (TooDeep token) = codes "TooDeep"
name_of (Syntax token) = codes "Syntax"
