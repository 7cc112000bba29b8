-- What the readers of a text answer.
use Rattle.std.specs.Prelude.{◌≡◌, ℕ, List, map, Result, Ok, Err}
use Rattle.flame_rows.specs.declared.fails.Fail.{Fail}
use Rattle.flame_rows.specs.declared.fails.Fail.TheVariants.{Fault, NoMemory}
use Rattle.flame_spec.specs.declared.trees.Unit as file
use Rattle.flame_lex.specs.declared.token.Token.{Token}
use Rattle.flame_lex.specs.Lexing.{Lexes, Faults}
use Rattle.flame_expr.specs.ParseFaults.{token_of}
use Rattle.flame_parse.specs.Parsing.{defined, IsFile, FailsBy}
use Rattle.flame_load.specs.declared.faults.TextFault.{TextFault}
use Rattle.flame_load.specs.declared.faults.TextFault.TheVariants.{Lex, Parse}
use Rattle.flame_load.specs.TextReads.{IsReadAs, line_at}

-- an answer has the tokens of the text, or its fault [own]
abbrev pub LexesAs : List ℕ → Result (List Token) (Fail TextFault) → Type 0
LexesAs bytes (Ok tokens) = Lexes bytes tokens
LexesAs bytes (Err (Fault (Lex fault))) = Faults bytes fault
LexesAs bytes (Err (Fault (Parse line fault))) = ⊥
LexesAs bytes (Err NoMemory) = Unit {0}

-- an answer has the C functions of the tokens, or their fault with its line [own]
abbrev pub ParsesAs : List Token → Result file.Unit (Fail TextFault) → Type 0
ParsesAs tokens (Ok unit) = IsFile tokens (map defined unit.functions)
ParsesAs tokens (Err (Fault (Lex fault))) = ⊥
ParsesAs tokens (Err (Fault (Parse line fault))) =
    FailsBy tokens (Fault fault) × (line ≡ line_at tokens (token_of fault))
ParsesAs tokens (Err NoMemory) = Unit {0}

-- an answer is what the text is read as [own]
abbrev pub ReadsAs : List ℕ → Result file.Unit (Fail TextFault) → Type 0
ReadsAs bytes (Ok unit) = IsReadAs bytes (Ok unit)
ReadsAs bytes (Err (Fault fault)) = IsReadAs bytes (Err fault)
ReadsAs bytes (Err NoMemory) = Unit {0}
