-- What a text is read as: the C functions that it spells, or why it is no function file.
use Rattle.std.specs.Prelude.{◌≡◌, ℕ, ◌-◌, List, length, map, option_map, unwrap_or, slice_get, Result, Ok, Err}
use Rattle.flame_rows.specs.declared.fails.Fail.TheVariants.{Fault}
use Rattle.flame_spec.specs.declared.trees.Unit as file
use Rattle.flame_lex.specs.declared.token.Token.{Token}
use Rattle.flame_lex.specs.Lexing.{Lexes, Faults}
use Rattle.flame_expr.specs.ParseFaults.{token_of}
use Rattle.flame_parse.specs.Parsing.{defined, IsFile, FailsBy}
use Rattle.flame_load.specs.declared.faults.TextFault.{TextFault}
use Rattle.flame_load.specs.declared.faults.TextFault.TheVariants.{Lex, Parse}

-- the line of the last of these tokens; 1 where there are none [own]
abbrev pub last_line : List Token → ℕ
last_line tokens = unwrap_or (option_map (λ token. token.line) (slice_get tokens (length tokens - 1))) 1

-- the line of the token of this number; at their end that of the last one, or 1 [own]
abbrev pub line_at : List Token → ℕ → ℕ
line_at tokens number = unwrap_or (option_map (λ token. token.line) (slice_get tokens number)) (last_line tokens)

-- the text is read as these C functions, which its tokens spell; or it has this fault: it has no tokens, or its tokens are
-- no function definitions, at the line of the token that the fault names [C, 6.9]
abbrev pub IsReadAs : List ℕ → Result file.Unit TextFault → Type 0
IsReadAs bytes (Ok unit) =
    (tokens : List Token)
    × Lexes bytes tokens
    × IsFile tokens (map defined unit.functions)
IsReadAs bytes (Err (Lex fault)) = Faults bytes fault
IsReadAs bytes (Err (Parse line fault)) =
    (tokens : List Token)
    × Lexes bytes tokens
    × FailsBy tokens (Fault fault)
    × (line ≡ line_at tokens (token_of fault))

-- from texts to what they are read as [own]
abbrev pub Reader : Type 0
Reader = List ℕ → Result file.Unit TextFault

-- it gives for each text what the text is read as; a law says that there is one, and that no two differ [own]
abbrev pub ReadsTexts : Reader → Type 0
ReadsTexts read = (bytes : List ℕ) → IsReadAs bytes (read bytes)
