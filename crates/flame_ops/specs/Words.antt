-- The spellings of the operators, of the keywords and of the directives, each numbered from 0 in this order.
use Rattle.std.specs.Prelude.{ℕ, List, [], ◌∷◌, codes}

-- the operators and other marks [C, 6.4.6]; ORDER MARKS
abbrev pub operator_spellings : List (List ℕ)
operator_spellings =
    codes "+" ∷ codes "-" ∷ codes "*" ∷ codes "/" ∷ codes "%"
    ∷ codes "++" ∷ codes "--"
    ∷ codes "+=" ∷ codes "-=" ∷ codes "*=" ∷ codes "/=" ∷ codes "%="
    ∷ codes "=" ∷ codes "==" ∷ codes "!=" ∷ codes "!"
    ∷ codes "<" ∷ codes ">" ∷ codes "<=" ∷ codes ">="
    ∷ codes "&&" ∷ codes "||"
    ∷ codes "(" ∷ codes ")" ∷ codes "{" ∷ codes "}" ∷ codes "," ∷ codes ";"
    ∷ codes "->"
    ∷ codes "[" ∷ codes "]"
    ∷ []

-- the keywords [C, 6.4.1]
abbrev pub keyword_spellings : List (List ℕ)
keyword_spellings =
    codes "int" ∷ codes "void"
    ∷ codes "if" ∷ codes "else"
    ∷ codes "while" ∷ codes "for" ∷ codes "do"
    ∷ codes "return" ∷ codes "break" ∷ codes "continue"
    ∷ []

-- what may stand behind `#` [C, 6.10.2, 6.10.3]
abbrev pub directive_spellings : List (List ℕ)
directive_spellings = codes "include" ∷ codes "define" ∷ []
