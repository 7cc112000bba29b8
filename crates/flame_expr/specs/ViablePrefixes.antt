-- Reading by steps. A rest is a list of symbols that are still to come; one step replaces its first symbol.
use Rattle.std.specs.Prelude.{◌≡◌, ℕ, zero, suc, ◌≤◌, ◌<◌, List, [], ◌∷◌, length, drop}
use Rattle.flame_lex.specs.declared.token.Token.{Token}
use Rattle.flame_expr.specs.declared.lexemes.Lexeme.{Lexeme}
use Rattle.flame_expr.specs.declared.lexemes.Lexeme.TheVariants.{Word, Number, Start, Finish, PlusPlus, MinusMinus}
use Rattle.flame_expr.specs.declared.lexemes.Lexeme.TheVariants.{PlusSet, MinusSet, StarSet, SlashSet, PercentSet}
use Rattle.flame_expr.specs.declared.lexemes.Lexeme.TheVariants.{Set, Open, Close, OpenBrace, CloseBrace, Comma}
use Rattle.flame_expr.specs.declared.lexemes.Lexeme.TheVariants.{Semicolon, Arrow, Int, Void, If, Else, While, For}
use Rattle.flame_expr.specs.declared.lexemes.Lexeme.TheVariants.{Do, Return, Break, Continue, OpenBracket, CloseBracket}
use Rattle.flame_expr.specs.Lexemes.{lexeme_of}
use Rattle.flame_expr.specs.OperatorLevels.{operators, signs}

-- the nonterminals; the levels are unary, prod, sum, rel, eq, and, expr [C, 6.5, 6.7, 6.8, 6.9; own]
pub data Form : Type 0 where
  level : ℕ → Form
  primary a_unit a_def a_block a_stmt a_decl an_item a_simple an_assign a_place a_value some_args a_body : Form
  an_if a_while a_for a_do a_loop : Form

-- symbols of right sides: a lexeme, a nonterminal, x y, x | y, one of some lexemes, [x], x* [own]
pub data Symbol : Type 0 where
  lexeme : Lexeme → Symbol
  form : Form → Symbol
  both : Symbol → Symbol → Symbol
  either : Symbol → Symbol → Symbol
  one_of : List Lexeme → Symbol
  maybe : Symbol → Symbol
  many : Symbol → Symbol

-- a sequence, nested to the left [own]
abbrev pub seq : Symbol → List Symbol → Symbol
seq x [] = x
seq x (y ∷ ys) = seq (both x y) ys

-- an expression [C, 6.5]
abbrev pub expr : Symbol
expr = form (level 6)

-- the operators of assignments: those before `=` [C, 6.5.16]
abbrev pub setters : List Lexeme
setters = Set ∷ PlusSet ∷ MinusSet ∷ StarSet ∷ SlashSet ∷ PercentSet ∷ []

-- and those of one more and one less [C, 6.5.2.4, 6.5.3.1]
abbrev pub steppers : List Lexeme
steppers = PlusPlus ∷ MinusMinus ∷ []

-- the operators of a level, each with the operand after it [C, 6.5.5 to 6.5.14]
abbrev pub tail : ℕ → Symbol
tail k = many (both (one_of (operators k)) (form (level k)))

-- ["[" expr "]"] [C, 6.5.2.1]
abbrev pub index : Symbol
index = maybe (seq (lexeme OpenBracket) (expr ∷ lexeme CloseBracket ∷ []))

-- ("," expr)* [C, 6.5.2]
abbrev pub more_args : Symbol
more_args = many (both (lexeme Comma) expr)

-- ("," item)* [C, 6.7]
abbrev pub more_items : Symbol
more_items = many (both (lexeme Comma) (form an_item))

-- "int" WORD [C, 6.7.6.3]
abbrev pub parameter : Symbol
parameter = both (lexeme Int) (lexeme Word)

-- ("," "int" WORD)* [C, 6.7.6.3]
abbrev pub more_parameters : Symbol
more_parameters = many (both (lexeme Comma) parameter)

-- ["void" | "int" WORD ("," "int" WORD)*] [C, 6.7.6.3]
abbrev pub parameters : Symbol
parameters = maybe (either (lexeme Void) (both parameter more_parameters))

-- ("else" "if" "(" expr ")" body)* [C, 6.8.4.1]
abbrev pub else_ifs : Symbol
else_ifs = many (seq (lexeme Else) (lexeme If ∷ lexeme Open ∷ expr ∷ lexeme Close ∷ form a_body ∷ []))

-- ["else" body] [C, 6.8.4.1]
abbrev pub else_body : Symbol
else_body = maybe (both (lexeme Else) (form a_body))

-- the grammar: what each nonterminal stands for [C, 6.5, 6.7, 6.8, 6.9; FLAME User Manual]
abbrev pub right_side : Form → Symbol
right_side (level zero) = both (many (one_of signs)) (form primary)
right_side (level (suc k)) = both (form (level k)) (tail k)
right_side primary =
    either (lexeme Number)
    (either (both (lexeme Word) index)
    (either (seq (lexeme Word) (lexeme Arrow ∷ lexeme Word ∷ index ∷ []))
    (either (seq (lexeme Word) (lexeme Open ∷ lexeme Close ∷ []))
    (seq (lexeme Open) (expr ∷ lexeme Close ∷ [])))))
right_side a_unit = many (form a_def)
right_side a_def =
    seq (lexeme Int) (lexeme Word ∷ lexeme Open ∷ parameters ∷ lexeme Close ∷ form a_block ∷ [])
right_side a_block = seq (lexeme OpenBrace) (many (form a_stmt) ∷ lexeme CloseBrace ∷ [])
right_side a_stmt =
    either (both (form a_decl) (lexeme Semicolon))
    (either (form a_block)
    (either (form an_if)
    (either (form a_while)
    (either (form a_for)
    (either (form a_do)
    (either (form a_loop)
    (form a_simple)))))))
right_side a_decl = seq (lexeme Int) (form an_item ∷ more_items ∷ [])
right_side an_item = both (lexeme Word) (maybe (both (lexeme Set) (form a_value)))
right_side a_simple =
    either (lexeme Semicolon)
    (either (both (form an_assign) (lexeme Semicolon))
    (either (seq (lexeme Word) (lexeme Open ∷ maybe (form some_args) ∷ lexeme Close ∷ lexeme Semicolon ∷ []))
    (either (seq (lexeme Return) (expr ∷ lexeme Semicolon ∷ []))
    (either (both (lexeme Break) (lexeme Semicolon))
    (both (lexeme Continue) (lexeme Semicolon))))))
right_side an_assign =
    either (seq (form a_place) (one_of setters ∷ form a_value ∷ []))
    (either (both (form a_place) (one_of steppers))
    (both (one_of steppers) (form a_place)))
right_side a_place = both (lexeme Word) index
right_side a_value = either expr (seq (lexeme Word) (lexeme Open ∷ form some_args ∷ lexeme Close ∷ []))
right_side some_args = both expr more_args
right_side a_body = either (form a_block) (form a_simple)
right_side an_if =
    seq (lexeme If) (lexeme Open ∷ expr ∷ lexeme Close ∷ form a_body ∷ else_ifs ∷ else_body ∷ [])
right_side a_while = seq (lexeme While) (lexeme Open ∷ expr ∷ lexeme Close ∷ form a_body ∷ [])
right_side a_for =
    seq (lexeme For)
    (lexeme Open ∷ maybe (either (form an_assign) (form a_decl)) ∷ lexeme Semicolon ∷ maybe expr ∷ lexeme Semicolon
    ∷ maybe (form an_assign) ∷ lexeme Close ∷ form a_body ∷ [])
right_side a_do =
    seq (lexeme Do)
    (form a_body ∷ lexeme While ∷ lexeme Open ∷ expr ∷ lexeme Close ∷ lexeme Semicolon ∷ [])
right_side a_loop = seq (lexeme Start) (many (form a_stmt) ∷ lexeme Finish ∷ [])

-- where steps end: these tokens are left, with some of the rest to come or with the whole rest behind [own]
pub data End : Type 0 where
  left : List Token → End
  whole : List Token → End

-- some steps go from this rest before these tokens to this end [own]
pub data Goes : List Symbol → List Token → End → Type 0 where
  stay : {K : List Symbol} {ts : List Token} → Goes K ts (left ts)
  done : {ts : List Token} → Goes [] ts (whole ts)
  match :
      {l : Lexeme} {K : List Symbol} {token : Token} {ts : List Token} {end : End}
      → lexeme_of token.kind ≡ l → Goes K ts end → Goes (lexeme l ∷ K) (token ∷ ts) end
  expand :
      {n : Form} {K : List Symbol} {ts : List Token} {end : End}
      → Goes (right_side n ∷ K) ts end → Goes (form n ∷ K) ts end
  in_turn :
      {x y : Symbol} {K : List Symbol} {ts : List Token} {end : End}
      → Goes (x ∷ y ∷ K) ts end → Goes (both x y ∷ K) ts end
  first_part :
      {x y : Symbol} {K : List Symbol} {ts : List Token} {end : End}
      → Goes (x ∷ K) ts end → Goes (either x y ∷ K) ts end
  second_part :
      {x y : Symbol} {K : List Symbol} {ts : List Token} {end : End}
      → Goes (y ∷ K) ts end → Goes (either x y ∷ K) ts end
  this :
      {l : Lexeme} {ls : List Lexeme} {K : List Symbol} {ts : List Token} {end : End}
      → Goes (lexeme l ∷ K) ts end → Goes (one_of (l ∷ ls) ∷ K) ts end
  later :
      {l : Lexeme} {ls : List Lexeme} {K : List Symbol} {ts : List Token} {end : End}
      → Goes (one_of ls ∷ K) ts end → Goes (one_of (l ∷ ls) ∷ K) ts end
  with_it :
      {x : Symbol} {K : List Symbol} {ts : List Token} {end : End}
      → Goes (x ∷ K) ts end → Goes (maybe x ∷ K) ts end
  without :
      {x : Symbol} {K : List Symbol} {ts : List Token} {end : End}
      → Goes K ts end → Goes (maybe x ∷ K) ts end
  more :
      {x : Symbol} {K : List Symbol} {ts : List Token} {end : End}
      → Goes (x ∷ many x ∷ K) ts end → Goes (many x ∷ K) ts end
  enough :
      {x : Symbol} {K : List Symbol} {ts : List Token} {end : End}
      → Goes K ts end → Goes (many x ∷ K) ts end

-- steps from the nonterminal match the tokens up to the rest, and nothing is to come [own]
abbrev pub Matches : Form → List Token → List Token → Type 0
Matches n ts rest = Goes (form n ∷ []) ts (whole rest)

-- the first k of these tokens are a prefix of the nonterminal: some steps from it match them [own]
abbrev pub IsPrefix : Form → List Token → ℕ → Type 0
IsPrefix n ts k = Goes (form n ∷ []) ts (left (drop k ts))

-- the greatest number so that the first tokens are a prefix of the nonterminal [own]
pub record IsLongest (n : Form) (ts : List Token) (k : ℕ) : Type 0 where
  pub within : k ≤ length ts
  pub is_prefix : IsPrefix n ts k
  pub longest : (m : ℕ) → k < m → m ≤ length ts → IsPrefix n ts m → ⊥
