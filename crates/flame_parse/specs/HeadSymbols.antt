-- Parts of right sides that have a reader of their own.
use Rattle.std.specs.Prelude.{List, [], ◌∷◌}
use Rattle.flame_expr.specs.declared.lexemes.Lexeme.TheVariants.{Set, Open, Close, Semicolon}
use Rattle.flame_expr.specs.ViablePrefixes.{Symbol, form, lexeme, both, maybe, either, expr, a_value, an_assign, a_decl}

-- ["=" value] [C, 6.7.9]
abbrev pub initial_symbol : Symbol
initial_symbol = maybe (both (lexeme Set) (form a_value))

-- [assign | decl] ";" [C, 6.8.5.3]
abbrev pub first_symbols : List Symbol
first_symbols = maybe (either (form an_assign) (form a_decl)) ∷ lexeme Semicolon ∷ []

-- "(" [assign | decl] ";" [expr] ";" [assign] ")" [C, 6.8.5.3]
abbrev pub head_symbols : List Symbol
head_symbols =
    lexeme Open ∷ maybe (either (form an_assign) (form a_decl)) ∷ lexeme Semicolon ∷ maybe expr ∷ lexeme Semicolon
    ∷ maybe (form an_assign) ∷ lexeme Close ∷ []
