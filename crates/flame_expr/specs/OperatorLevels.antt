-- The levels of binary operators: 0 is unary, 1 prod, 2 sum, 3 rel, 4 eq, 5 and, 6 expr.
use Rattle.std.specs.Prelude.{ℕ, zero, suc, List, [], ◌∷◌, ◌++◌, Option, Some, None}
use Rattle.flame_ops.specs.declared.integers.Op as op
use Rattle.flame_ops.specs.declared.integers.Op.TheVariants.{Add, Sub, Mul, Div, Rem, Lt, Gt, Le, Ge, Eq, Ne}
use Rattle.flame_spec.specs.declared.trees.SignKind as sign
use Rattle.flame_expr.specs.declared.lexemes.Lexeme.{Lexeme}
use Rattle.flame_expr.specs.declared.lexemes.Lexeme.TheVariants.{Plus, Minus, Star, Slash, Percent, Same, Differs}
use Rattle.flame_expr.specs.declared.lexemes.Lexeme.TheVariants.{Bang, Below, Above, AtMost, AtLeast, AndAnd, OrOr}
use Rattle.flame_expr.specs.declared.lexemes.Lexeme.TheVariants.{Open, OpenBracket, Arrow}

-- the operators between parts of this level [C, 6.5.5 to 6.5.14]
abbrev pub operators : ℕ → List Lexeme
operators zero = Star ∷ Slash ∷ Percent ∷ []
operators (suc zero) = Plus ∷ Minus ∷ []
operators (suc (suc zero)) = Below ∷ Above ∷ AtMost ∷ AtLeast ∷ []
operators (suc (suc (suc zero))) = Same ∷ Differs ∷ []
operators (suc (suc (suc (suc zero)))) = AndAnd ∷ []
operators (suc (suc (suc (suc (suc zero))))) = OrOr ∷ []
operators (suc (suc (suc (suc (suc (suc k)))))) = []

-- the signs before a primary [C, 6.5.3.3]
abbrev pub signs : List Lexeme
signs = Minus ∷ Plus ∷ Bang ∷ []

-- the operator that a lexeme is between the parts of a product [C, 6.5.5]
abbrev pub product_op : Lexeme → Option op.Op
product_op Star = Some Mul
product_op Slash = Some Div
product_op Percent = Some Rem
product_op l = None

-- and of a sum [C, 6.5.6]
abbrev pub sum_op : Lexeme → Option op.Op
sum_op Plus = Some Add
sum_op Minus = Some Sub
sum_op l = None

-- and of a relation [C, 6.5.8]
abbrev pub relation_op : Lexeme → Option op.Op
relation_op Below = Some Lt
relation_op Above = Some Gt
relation_op AtMost = Some Le
relation_op AtLeast = Some Ge
relation_op l = None

-- and of an equality [C, 6.5.9]
abbrev pub equality_op : Lexeme → Option op.Op
equality_op Same = Some Eq
equality_op Differs = Some Ne
equality_op l = None

-- the operator that a lexeme is between the parts of this level of a chain [C, 6.5.5 to 6.5.9]
abbrev pub op_of : ℕ → Lexeme → Option op.Op
op_of zero l = product_op l
op_of (suc zero) l = sum_op l
op_of (suc (suc zero)) l = relation_op l
op_of (suc (suc (suc zero))) l = equality_op l
op_of (suc (suc (suc (suc k)))) l = None

-- the sign that a lexeme is [C, 6.5.3.3]
abbrev pub sign_of : Lexeme → Option sign.SignKind
sign_of Minus = Some sign.TheVariants.Minus
sign_of Plus = Some sign.TheVariants.Plus
sign_of Bang = Some sign.TheVariants.Bang
sign_of l = None

-- what can follow an index that is left out [own]
abbrev pub joins_index : List Lexeme
joins_index = OpenBracket ∷ []

-- what can follow a form of this level and make it longer [own]
abbrev pub joins : ℕ → List Lexeme
joins zero = Arrow ∷ Open ∷ OpenBracket ∷ []
joins (suc k) = joins k ++ operators k
