-- The grammar of expressions: a relation between tokens, a tree and the tokens behind it, one case for each production.
use Rattle.std.specs.Prelude.{◌≡◌, ℕ, zero, suc, ◌<◌, List, [], ◌∷◌, Option, Some, None}
use Rattle.flame_ops.specs.declared.integers.Op.{Op}
use Rattle.flame_spec.specs.declared.trees.Sign.{Sign}
use Rattle.flame_spec.specs.declared.trees.SignKind.{SignKind}
use Rattle.flame_spec.specs.Trees.{Expression, number, name, field, get, at, field_at, signed, chain, all_of, any_of}
use Rattle.flame_spec.specs.Trees.{Expressions, no_parts, part, Links, no_links, link, Indexed}
use Rattle.flame_lex.specs.declared.token.Token.{Token}
use Rattle.flame_expr.specs.declared.lexemes.Lexeme.TheVariants.{Word, Number, Open, Close, OpenBracket, CloseBracket}
use Rattle.flame_expr.specs.declared.lexemes.Lexeme.TheVariants.{Arrow, AndAnd, OrOr}
use Rattle.flame_expr.specs.Lexemes.{first, text, value, line, behind}
use Rattle.flame_expr.specs.OperatorLevels.{op_of, sign_of}

-- a form without signs is the form itself [own]
abbrev pub with_signs : List Sign → Expression → Expression
with_signs [] e = e
with_signs (s ∷ ss) e = signed (s ∷ ss) e

-- a chain of one part is that part itself [own]
abbrev pub chained : Expression → Links → Expression
chained e no_links = e
chained e (link op n right ls) = chain e (link op n right ls)

-- all of one part is that part itself [own]
abbrev pub all_parts : Expression → Expressions → Expression
all_parts e no_parts = e
all_parts e (part u us) = all_of (part e (part u us))

-- any of one part is that part itself [own]
abbrev pub any_parts : Expression → Expressions → Expression
any_parts e no_parts = e
any_parts e (part u us) = any_of (part e (part u us))

-- a name, or one of its elements [C, 6.5.1, 6.5.2.1]
abbrev pub named : ℕ → List ℕ → Option Indexed → Expression
named line word None = name line word
named line word (Some s) = at line word s.line s.index

-- a field of a message, or one of its elements [FLAME User Manual]
abbrev pub field_of : ℕ → List ℕ → List ℕ → Option Indexed → Expression
field_of line word variable None = field line word variable
field_of line word variable (Some s) = field_at line word variable s.line s.index

mutual
  -- a form of a level: unary is 0, prod 1, sum 2, rel 3, eq 4, and 5, expr 6 [C, 6.5]
  pub data Reads : ℕ → List Token → Expression → List Token → Type 0 where
    -- unary = ("-" | "+" | "!")* primary
    a_unary :
        {ts mid rest : List Token} {ss : List Sign} {e : Expression}
        → Signs ts ss mid → Primary mid e rest → Reads zero ts (with_signs ss e) rest
    -- eq = rel (("==" | "!=") rel)* and so rel, sum and prod
    a_chain :
        {k : ℕ} {ts mid rest : List Token} {e : Expression} {ls : Links}
        → k < 4 → Reads k ts e mid → Tail k mid ls rest → Reads (suc k) ts (chained e ls) rest
    -- and = eq ("&&" eq)*
    a_conjunction :
        {k : ℕ} {ts mid rest : List Token} {e : Expression} {us : Expressions}
        → k ≡ 4 → Reads k ts e mid → Conjuncts mid us rest → Reads (suc k) ts (all_parts e us) rest
    -- expr = and ("||" and)*
    a_disjunction :
        {k : ℕ} {ts mid rest : List Token} {e : Expression} {us : Expressions}
        → k ≡ 5 → Reads k ts e mid → Disjuncts mid us rest → Reads (suc k) ts (any_parts e us) rest

  -- the operators of a level, each with its line and the form behind it [C, 6.5.5 to 6.5.9]
  pub data Tail : ℕ → List Token → Links → List Token → Type 0 where
    no_link : {k : ℕ} {rest : List Token} → Tail k rest no_links rest
    a_link :
        {k : ℕ} {ts mid rest : List Token} {op : Op} {e : Expression} {ls : Links}
        → op_of k (first ts) ≡ Some op → Reads k (behind ts) e mid → Tail k mid ls rest
        → Tail k ts (link op (line ts) e ls) rest

  -- ("&&" eq)* [C, 6.5.13]
  pub data Conjuncts : List Token → Expressions → List Token → Type 0 where
    no_conjunct : {rest : List Token} → Conjuncts rest no_parts rest
    a_conjunct :
        {ts mid rest : List Token} {e : Expression} {us : Expressions}
        → first ts ≡ AndAnd → Reads 4 (behind ts) e mid → Conjuncts mid us rest → Conjuncts ts (part e us) rest

  -- ("||" and)* [C, 6.5.14]
  pub data Disjuncts : List Token → Expressions → List Token → Type 0 where
    no_disjunct : {rest : List Token} → Disjuncts rest no_parts rest
    a_disjunct :
        {ts mid rest : List Token} {e : Expression} {us : Expressions}
        → first ts ≡ OrOr → Reads 5 (behind ts) e mid → Disjuncts mid us rest → Disjuncts ts (part e us) rest

  -- ("-" | "+" | "!")* [C, 6.5.3.3]
  pub data Signs : List Token → List Sign → List Token → Type 0 where
    no_sign : {rest : List Token} → Signs rest [] rest
    a_sign :
        {ts rest : List Token} {kind : SignKind} {ss : List Sign}
        → sign_of (first ts) ≡ Some kind → Signs (behind ts) ss rest
        → Signs ts (record { kind = kind; line = line ts } ∷ ss) rest

  -- primary = NUMBER | WORD ["[" expr "]"] | WORD "->" WORD ["[" expr "]"] | WORD "(" ")" | "(" expr ")"
  -- [C, 6.5.1; FLAME User Manual]
  pub data Primary : List Token → Expression → List Token → Type 0 where
    a_number : {ts : List Token} → first ts ≡ Number → Primary ts (number (value ts)) (behind ts)
    a_name :
        {ts rest : List Token} {s : Option Indexed}
        → first ts ≡ Word → Index (behind ts) s rest → Primary ts (named (line ts) (text ts) s) rest
    a_field :
        {ts rest : List Token} {s : Option Indexed}
        → first ts ≡ Word → first (behind ts) ≡ Arrow → first (behind (behind ts)) ≡ Word
        → Index (behind (behind (behind ts))) s rest
        → Primary ts (field_of (line ts) (text ts) (text (behind (behind ts))) s) rest
    a_get :
        {ts : List Token}
        → first ts ≡ Word → first (behind ts) ≡ Open → first (behind (behind ts)) ≡ Close
        → Primary ts (get (line ts) (text ts)) (behind (behind (behind ts)))
    in_brackets : {ts rest : List Token} {e : Expression} → Bracketed ts e rest → Primary ts e rest

  -- ["[" expr "]"]; its line is that of the bracket [C, 6.5.2.1]
  pub data Index : List Token → Option Indexed → List Token → Type 0 where
    no_index : {rest : List Token} → Index rest None rest
    an_index :
        {ts mid : List Token} {e : Expression}
        → first ts ≡ OpenBracket → Reads 6 (behind ts) e mid → first mid ≡ CloseBracket
        → Index ts (Some (record { line = line ts; index = e })) (behind mid)

  -- "(" expr ")" [C, 6.5.1]
  pub data Bracketed : List Token → Expression → List Token → Type 0 where
    bracketed :
        {ts rest : List Token} {e : Expression} → first ts ≡ Open → Closed (behind ts) e rest → Bracketed ts e rest

  -- expr ")" [C, 6.5.1]
  pub data Closed : List Token → Expression → List Token → Type 0 where
    closed : {ts mid : List Token} {e : Expression} → Reads 6 ts e mid → first mid ≡ Close → Closed ts e (behind mid)
