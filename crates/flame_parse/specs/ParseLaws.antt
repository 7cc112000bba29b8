-- The laws of the grammar of function files.
use Rattle.std.specs.Prelude.{◌≡◌, ℕ, ◌⊎◌, ◌↔◌, List}
use Rattle.flame_lex.specs.declared.token.Token.{Token}
use Rattle.flame_expr.specs.ViablePrefixes.{a_unit, Matches}
use Rattle.flame_expr.specs.Nesting.{IsTooDeep}
use Rattle.flame_parse.specs.StatementGrammar.{Defined, Definitions}
use Rattle.flame_parse.specs.Parsing.{IsUnit, IsFile, IsNoUnit}

-- a list of tokens has at most one tree as a function file [own]
abbrev pub OneUnit : Type 0
OneUnit = (tokens : List Token) (ds es : List Defined) → IsUnit tokens ds → IsUnit tokens es → ds ≡ es

-- tokens up to others are function definitions exactly where steps match them [own]
abbrev pub FilesAreMatched : Type 0
FilesAreMatched =
    (tokens rest : List Token) → ((ds : List Defined) × Definitions tokens ds rest) ↔ Matches a_unit tokens rest

-- every list of tokens is a function file, or too deep, or has the place where its longest prefix ends [own]
abbrev pub FilesAreRead : Type 0
FilesAreRead =
    (tokens : List Token)
    → ((ds : List Defined) × IsFile tokens ds)
    ⊎ (((n : ℕ) × IsTooDeep 64 tokens n)
    ⊎ ((n : ℕ) × IsNoUnit tokens n))
