-- What tokens are to the grammar.
use Rattle.std.specs.Prelude.{ℕ, ℤ, pos, List, [], ◌∷◌, Bool, true, false, slice_index_or}
use Rattle.flame_lex.specs.declared.token.Kind.{Kind}
use Rattle.flame_lex.specs.declared.token.Token.{Token}
use Rattle.flame_expr.specs.declared.lexemes.TheConstants.{MARKS, KEYWORDS}
use Rattle.flame_expr.specs.declared.lexemes.Lexeme.{Lexeme}
use Rattle.flame_expr.specs.declared.lexemes.Lexeme.TheVariants.{Nothing, Word, Number, Start, Finish}

-- the mark of this number, as the table has it; LexemeSpellings says that it is the mark of this spelling
-- [C, 6.4.6]
abbrev pub mark_of : ℕ → Lexeme
mark_of number = slice_index_or MARKS number Nothing

-- the keyword of this number, likewise [C, 6.4.1]
abbrev pub keyword_of : ℕ → Lexeme
keyword_of number = slice_index_or KEYWORDS number Nothing

-- what a kind of token is to the grammar [own]
abbrev pub lexeme_of : Kind → Lexeme
lexeme_of (Kind.Word text) = Word
lexeme_of (Kind.Number n) = Number
lexeme_of (Kind.Mark number) = mark_of number
lexeme_of (Kind.Key number) = keyword_of number
lexeme_of (Kind.Start name) = Start
lexeme_of (Kind.Finish name) = Finish

-- the text of a word, or the name of a message loop [own]
abbrev pub text_of : Kind → List ℕ
text_of (Kind.Word text) = text
text_of (Kind.Number n) = []
text_of (Kind.Mark number) = []
text_of (Kind.Key number) = []
text_of (Kind.Start name) = name
text_of (Kind.Finish name) = name

-- the value of a number [own]
abbrev pub value_of : Kind → ℤ
value_of (Kind.Number n) = n
value_of (Kind.Word text) = pos 0
value_of (Kind.Mark number) = pos 0
value_of (Kind.Key number) = pos 0
value_of (Kind.Start name) = pos 0
value_of (Kind.Finish name) = pos 0

-- what the first token is to the grammar [own]
abbrev pub first : List Token → Lexeme
first [] = Nothing
first (token ∷ tokens) = lexeme_of token.kind

-- the text of the first token [own]
abbrev pub text : List Token → List ℕ
text [] = []
text (token ∷ tokens) = text_of token.kind

-- the value of the first token [own]
abbrev pub value : List Token → ℤ
value [] = pos 0
value (token ∷ tokens) = value_of token.kind

-- the line of the first token [own]
abbrev pub line : List Token → ℕ
line [] = 0
line (token ∷ tokens) = token.line

-- the tokens behind the first [own]
abbrev pub behind : List Token → List Token
behind [] = []
behind (token ∷ tokens) = tokens

-- whether it is the lexeme of a token [own]
abbrev pub is_real : Lexeme → Bool
is_real Nothing = false
is_real l = true
