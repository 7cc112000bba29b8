-- How marks and keywords are spelled in C, by their sections 6.4.6 and 6.4.1.
use Rattle.std.specs.Prelude.{◌≡◌, ℕ, List, [], map, codes}
use Rattle.flame_ops.specs.Words.{operator_spellings, keyword_spellings}
use Rattle.flame_expr.specs.declared.lexemes.TheConstants.{MARKS, KEYWORDS}
use Rattle.flame_expr.specs.declared.lexemes.Lexeme.{Lexeme}
use Rattle.flame_expr.specs.declared.lexemes.Lexeme.TheVariants.{Plus, Minus, Star, Slash, Percent, PlusPlus}
use Rattle.flame_expr.specs.declared.lexemes.Lexeme.TheVariants.{MinusMinus}
use Rattle.flame_expr.specs.declared.lexemes.Lexeme.TheVariants.{PlusSet, MinusSet, StarSet, SlashSet, PercentSet, Set}
use Rattle.flame_expr.specs.declared.lexemes.Lexeme.TheVariants.{Same, Differs, Bang, Below, Above, AtMost, AtLeast}
use Rattle.flame_expr.specs.declared.lexemes.Lexeme.TheVariants.{AndAnd, OrOr, Open, Close, OpenBrace, CloseBrace}
use Rattle.flame_expr.specs.declared.lexemes.Lexeme.TheVariants.{OpenBracket, CloseBracket, Comma, Semicolon, Arrow}
use Rattle.flame_expr.specs.declared.lexemes.Lexeme.TheVariants.{Int, Void, If, Else, While, For, Do}
use Rattle.flame_expr.specs.declared.lexemes.Lexeme.TheVariants.{Return, Break, Continue}

-- the spelling of a mark or of a keyword; other lexemes have no one spelling [C, 6.4.1, 6.4.6]; ORDER MARKS
abbrev pub spelling : Lexeme → List ℕ
spelling Plus = codes "+"
spelling Minus = codes "-"
spelling Star = codes "*"
spelling Slash = codes "/"
spelling Percent = codes "%"
spelling PlusPlus = codes "++"
spelling MinusMinus = codes "--"
spelling PlusSet = codes "+="
spelling MinusSet = codes "-="
spelling StarSet = codes "*="
spelling SlashSet = codes "/="
spelling PercentSet = codes "%="
spelling Set = codes "="
spelling Same = codes "=="
spelling Differs = codes "!="
spelling Bang = codes "!"
spelling Below = codes "<"
spelling Above = codes ">"
spelling AtMost = codes "<="
spelling AtLeast = codes ">="
spelling AndAnd = codes "&&"
spelling OrOr = codes "||"
spelling Open = codes "("
spelling Close = codes ")"
spelling OpenBrace = codes "{"
spelling CloseBrace = codes "}"
spelling OpenBracket = codes "["
spelling CloseBracket = codes "]"
spelling Comma = codes ","
spelling Semicolon = codes ";"
spelling Arrow = codes "->"
spelling Int = codes "int"
spelling Void = codes "void"
spelling If = codes "if"
spelling Else = codes "else"
spelling While = codes "while"
spelling For = codes "for"
spelling Do = codes "do"
spelling Return = codes "return"
spelling Break = codes "break"
spelling Continue = codes "continue"
spelling _ = []

-- the mark of each number is the one that the operator of this number spells [C, 6.4.6]
abbrev pub MarksAreSpelled : Type 0
MarksAreSpelled = map spelling MARKS ≡ operator_spellings

-- the keyword of each number is the one that the keyword of this number spells [C, 6.4.1]
abbrev pub KeywordsAreSpelled : Type 0
KeywordsAreSpelled = map spelling KEYWORDS ≡ keyword_spellings
