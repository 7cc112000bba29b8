-- What statements and assignments begin with.
use Rattle.std.proofs.Common.{◌≡◌, ◌⊎◌, inl, inr, ℕ, ◌<◌, List, [], ◌∷◌, length, drop, refl, sym, ap, ◌∙◌, subst, arith, Bool, true, false, Option, Some, None}
use Rattle.std.specs.Prelude.{is_some, not}
use Rattle.std.proofs.lemmas.Bool.{false≢true}
use Rattle.flame_ops.specs.declared.integers.Op.{Op}
use Rattle.flame_lex.specs.declared.token.Token.{Token}
use Rattle.flame_expr.specs.declared.lexemes.Lexeme.{Lexeme}
use Rattle.flame_expr.specs.declared.lexemes.Lexeme.TheVariants.{Word, Start, PlusPlus, MinusMinus, PlusSet, MinusSet, StarSet, SlashSet, PercentSet, Set, Open, Close, OpenBrace, Comma, Semicolon, Int, Void, If, Else, While, For, Do, Return, Break, Continue}
use Rattle.flame_expr.specs.Lexemes.{first, behind, is_real}
use Rattle.flame_expr.specs.OperatorLevels.{joins}
use Rattle.flame_expr.specs.ViablePrefixes.{Symbol, lexeme, form, either, one_of, maybe, many, expr, index, setters, steppers, parameter, more_parameters, parameters, more_args, more_items, else_ifs, else_body, a_def, a_stmt, a_decl, a_simple, an_assign, a_place, a_value, some_args, a_body, End, left, Goes, stay, expand, in_turn, first_part, second_part}
use Rattle.flame_expr.specs.ReadParts.{Ended, Stopped}
use Rattle.flame_expr.proofs.LexemeFacts.{or, among, everywhere, not_among}
use Rattle.flame_expr.proofs.Walk.{at_lexeme}
use Rattle.flame_expr.proofs.Heads.{One}
use Rattle.flame_expr.proofs.Parts.{any_heads, any_all, pasts, clean, none, ends_here, joins_on, go_on, GoesAny}
use Rattle.flame_parse.specs.HeadSymbols.{initial_symbol}
use Rattle.flame_parse.specs.AssignmentOperators.{set_op, step_op, starts, joins_stmts}
use Rattle.flame_expr.proofs.LevelFacts.{or_right}
use Rattle.flame_expr.proofs.Operators.{of_each}

-- what sets and what steps stands in its list
pub setter : (d : Lexeme) (o : Option Op) → set_op d ≡ Some o → among d setters ≡ true
setter d o e =
    or_right (not (is_some (set_op d))) (among d setters)
    (everywhere (λ l. or (not (is_some (set_op l))) (among l setters)) refl d)
    (ap (λ x. not (is_some x)) e)

pub stepper : (d : Lexeme) (o : Op) → step_op d ≡ Some o → among d steppers ≡ true
stepper d o e =
    or_right (not (is_some (step_op d))) (among d steppers)
    (everywhere (λ l. or (not (is_some (step_op l))) (among l steppers)) refl d)
    (ap (λ x. not (is_some x)) e)

-- the rests behind the place of an assignment
abbrev pub operations : List (List Symbol)
operations = (one_of setters ∷ form a_value ∷ []) ∷ (one_of steppers ∷ []) ∷ []

abbrev pub SetsBy : Lexeme → Type 0
SetsBy d =
    (is_real d ≡ true)
    × (clean (any_heads operations d) (joins_on d (joins 6)) ≡ true)
    × (pasts (any_heads operations d) ≡ (form a_value ∷ []) ∷ [])

pub sets_by : (d : Lexeme) (o : Option Op) → set_op d ≡ Some o → SetsBy d
sets_by d o e =
    of_each SetsBy setters d
    ((refl, refl, refl), ((refl, refl, refl), ((refl, refl, refl), ((refl, refl, refl), ((refl, refl, refl), ((refl, refl, refl), tt))))))
    (setter d o e)

abbrev pub StepsBy : Lexeme → Type 0
StepsBy d =
    (is_real d ≡ true)
    × (clean (any_heads operations d) (joins_on d (joins 6)) ≡ true)
    × (pasts (any_heads operations d) ≡ [] ∷ [])

pub steps_by : (d : Lexeme) (o : Op) → step_op d ≡ Some o → StepsBy d
steps_by d o e = of_each StepsBy steppers d ((refl, refl, refl), ((refl, refl, refl), tt)) (stepper d o e)

abbrev pub BeginsStep : Lexeme → Type 0
BeginsStep d =
    (is_real d ≡ true)
    × (clean (any_heads ((form an_assign ∷ []) ∷ []) d) (joins_on d (joins 6)) ≡ true)
    × (pasts (any_heads ((form an_assign ∷ []) ∷ []) d) ≡ (form a_place ∷ []) ∷ [])

pub begins_step : (d : Lexeme) (o : Op) → step_op d ≡ Some o → BeginsStep d
begins_step d o e = of_each BeginsStep steppers d ((refl, refl, refl), ((refl, refl, refl), tt)) (stepper d o e)

pub no_operation : (d : Lexeme) → set_op d ≡ None → step_op d ≡ None → none (any_heads operations d) ≡ true
no_operation Set e f = cc
no_operation PlusSet e f = cc
no_operation MinusSet e f = cc
no_operation StarSet e f = cc
no_operation SlashSet e f = cc
no_operation PercentSet e f = cc
no_operation PlusPlus e f = cc
no_operation MinusMinus e f = cc
no_operation d e f = refl

pub no_assign : (d : Lexeme) → step_op d ≡ None → (d ≡ Word → ⊥) → none (any_heads ((form an_assign ∷ []) ∷ []) d) ≡ true
no_assign Word e f = absurd (f refl)
no_assign PlusPlus e f = cc
no_assign MinusMinus e f = cc
no_assign d e f = refl

abbrev pub StartsStmt : Lexeme → Type 0
StartsStmt d = (joins_on d joins_stmts ≡ true) × (0 < length (pasts (any_heads ((form a_stmt ∷ []) ∷ []) d)))

pub starts_stmt : (d : Lexeme) → starts d ≡ true → StartsStmt d
starts_stmt Int e = (refl, omega arith)
starts_stmt OpenBrace e = (refl, omega arith)
starts_stmt If e = (refl, omega arith)
starts_stmt While e = (refl, omega arith)
starts_stmt For e = (refl, omega arith)
starts_stmt Do e = (refl, omega arith)
starts_stmt Start e = (refl, omega arith)
starts_stmt Semicolon e = (refl, omega arith)
starts_stmt Word e = (refl, omega arith)
starts_stmt PlusPlus e = (refl, omega arith)
starts_stmt MinusMinus e = (refl, omega arith)
starts_stmt Return e = (refl, omega arith)
starts_stmt Break e = (refl, omega arith)
starts_stmt Continue e = (refl, omega arith)
starts_stmt d e = absurd (false≢true e)

abbrev no_more_stmt : Lexeme → Bool
no_more_stmt d = or (starts d) (ends_here (any_heads ((many (form a_stmt) ∷ []) ∷ []) d))

pub stmts_end : (d : Lexeme) → starts d ≡ false → ends_here (any_heads ((many (form a_stmt) ∷ []) ∷ []) d) ≡ true
stmts_end d e = or_right (starts d) (ends_here (any_heads ((many (form a_stmt) ∷ []) ∷ []) d)) (everywhere no_more_stmt refl d) e

-- a rest that ends where a lexeme is not next
abbrev EndsWithout : List Symbol → Lexeme → Type 0
EndsWithout X l = (d : Lexeme) → (d ≡ l → ⊥) → ends_here (any_heads (X ∷ []) d) ≡ true

without_test : (X : List Symbol) (l : Lexeme) → ((d : Lexeme) → or (among d (l ∷ [])) (ends_here (any_heads (X ∷ []) d)) ≡ true) → EndsWithout X l
without_test X l t d n = or_right (among d (l ∷ [])) (ends_here (any_heads (X ∷ []) d)) (t d) (not_among d (l ∷ []) (n, tt))

pub initial_ends : EndsWithout (initial_symbol ∷ []) Set
initial_ends = without_test (initial_symbol ∷ []) Set (everywhere (λ d. or (among d (Set ∷ [])) (ends_here (any_heads ((initial_symbol ∷ []) ∷ []) d))) refl)

pub parameters_end : EndsWithout (more_parameters ∷ []) Comma
parameters_end = without_test (more_parameters ∷ []) Comma (everywhere (λ d. or (among d (Comma ∷ [])) (ends_here (any_heads ((more_parameters ∷ []) ∷ []) d))) refl)

pub items_end : EndsWithout (more_items ∷ []) Comma
items_end = without_test (more_items ∷ []) Comma (everywhere (λ d. or (among d (Comma ∷ [])) (ends_here (any_heads ((more_items ∷ []) ∷ []) d))) refl)

pub args_end : EndsWithout (more_args ∷ []) Comma
args_end = without_test (more_args ∷ []) Comma (everywhere (λ d. or (among d (Comma ∷ [])) (ends_here (any_heads ((more_args ∷ []) ∷ []) d))) refl)

pub elses_end : EndsWithout (else_ifs ∷ else_body ∷ []) Else
elses_end = without_test (else_ifs ∷ else_body ∷ []) Else (everywhere (λ d. or (among d (Else ∷ [])) (ends_here (any_heads ((else_ifs ∷ else_body ∷ []) ∷ []) d))) refl)

pub unit_ends : EndsWithout (many (form a_def) ∷ []) Int
unit_ends = without_test (many (form a_def) ∷ []) Int (everywhere (λ d. or (among d (Int ∷ [])) (ends_here (any_heads ((many (form a_def) ∷ []) ∷ []) d))) refl)

-- rests that begin alike but for one lexeme
abbrev pub AlikeBut : Lexeme → List (List Symbol) → List (List Symbol) → Type 0
AlikeBut l A B = (d : Lexeme) → (d ≡ l → ⊥) → any_heads A d ≡ any_heads B d

pub called_alike : AlikeBut Close ((form some_args ∷ lexeme Close ∷ []) ∷ []) ((maybe (form some_args) ∷ lexeme Close ∷ []) ∷ [])
called_alike Close n = absurd (n refl)
called_alike d n = refl

pub test_alike : AlikeBut Semicolon ((expr ∷ lexeme Semicolon ∷ []) ∷ []) ((maybe expr ∷ lexeme Semicolon ∷ []) ∷ [])
test_alike Semicolon n = absurd (n refl)
test_alike d n = refl

pub step_alike : AlikeBut Close ((form an_assign ∷ lexeme Close ∷ []) ∷ []) ((maybe (form an_assign) ∷ lexeme Close ∷ []) ∷ [])
step_alike Close n = absurd (n refl)
step_alike d n = refl

pub parameters_alike : (d : Lexeme) → (d ≡ Void → ⊥) → (d ≡ Int → ⊥) → any_heads ((lexeme Close ∷ []) ∷ []) d ≡ any_heads ((parameters ∷ lexeme Close ∷ []) ∷ []) d
parameters_alike Void m n = absurd (m refl)
parameters_alike Int m n = absurd (n refl)
parameters_alike d m n = refl

pub int_alike : (d : Lexeme) → d ≡ Int → any_heads ((parameter ∷ more_parameters ∷ lexeme Close ∷ []) ∷ []) d ≡ any_heads ((parameters ∷ lexeme Close ∷ []) ∷ []) d
int_alike d f = ap (any_heads ((parameter ∷ more_parameters ∷ lexeme Close ∷ []) ∷ [])) f ∙ sym (ap (any_heads ((parameters ∷ lexeme Close ∷ []) ∷ [])) f)

pub word_alike : (d : Lexeme) → d ≡ Word → any_heads ((form a_place ∷ one_of setters ∷ form a_value ∷ []) ∷ (form a_place ∷ one_of steppers ∷ []) ∷ []) d ≡ any_heads ((form an_assign ∷ []) ∷ []) d
word_alike d f = ap (any_heads ((form a_place ∷ one_of setters ∷ form a_value ∷ []) ∷ (form a_place ∷ one_of steppers ∷ []) ∷ [])) f ∙ sym (ap (any_heads ((form an_assign ∷ []) ∷ [])) f)

-- the rests behind the word and the bracket that a value begins with
abbrev pub arguments : List (List Symbol)
arguments = pasts (any_heads (pasts (any_heads ((form a_value ∷ []) ∷ []) Word)) Open)

pub arguments_alike : AlikeBut Close ((form some_args ∷ lexeme Close ∷ []) ∷ []) arguments
arguments_alike Close n = absurd (n refl)
arguments_alike d n = refl

pub body_alike : AlikeBut OpenBrace ((form a_simple ∷ []) ∷ []) ((form a_body ∷ []) ∷ [])
body_alike OpenBrace n = absurd (n refl)
body_alike d n = refl

pub else_alike : AlikeBut If ((form a_body ∷ []) ∷ []) ((lexeme If ∷ lexeme Open ∷ expr ∷ lexeme Close ∷ form a_body ∷ else_ifs ∷ else_body ∷ []) ∷ (form a_body ∷ []) ∷ [])
else_alike If n = absurd (n refl)
else_alike d n = refl

pub first_alike : (d : Lexeme) → (d ≡ Semicolon → ⊥) → (d ≡ Int → ⊥) → any_heads ((form an_assign ∷ lexeme Semicolon ∷ []) ∷ []) d ≡ any_heads
    ((maybe (either (form an_assign) (form a_decl)) ∷ lexeme Semicolon ∷ []) ∷ []) d
first_alike Semicolon m n = absurd (m refl)
first_alike Int m n = absurd (n refl)
first_alike d m n = refl

pub simple_alike : (d : Lexeme) → (d ≡ Semicolon → ⊥) → (d ≡ Return → ⊥) → (d ≡ Break → ⊥) → (d ≡ Continue → ⊥) → (d ≡ Word → ⊥) → any_heads
    ((form an_assign ∷ lexeme Semicolon ∷ []) ∷ []) d ≡ any_heads ((form a_simple ∷ []) ∷ []) d
simple_alike Semicolon a b c e f = absurd (a refl)
simple_alike Return a b c e f = absurd (b refl)
simple_alike Break a b c e f = absurd (c refl)
simple_alike Continue a b c e f = absurd (e refl)
simple_alike Word a b c e f = absurd (f refl)
simple_alike d a b c e f = refl

pub stmt_alike : (d : Lexeme) → (d ≡ Int → ⊥) → (d ≡ OpenBrace → ⊥) → (d ≡ If → ⊥) → (d ≡ While → ⊥) → (d ≡ For → ⊥) → (d ≡ Do → ⊥) → (d ≡ Start → ⊥)
    → any_heads ((form a_simple ∷ []) ∷ []) d ≡ any_heads ((form a_stmt ∷ []) ∷ []) d
stmt_alike Int a b c e f g h = absurd (a refl)
stmt_alike OpenBrace a b c e f g h = absurd (b refl)
stmt_alike If a b c e f g h = absurd (c refl)
stmt_alike While a b c e f g h = absurd (e refl)
stmt_alike For a b c e f g h = absurd (f refl)
stmt_alike Do a b c e f g h = absurd (g refl)
stmt_alike Start a b c e f g h = absurd (h refl)
stmt_alike d a b c e f g h = refl

-- a word that no bracket follows begins no call
abbrev Words : List (List Symbol)
Words = (index ∷ one_of setters ∷ form a_value ∷ lexeme Semicolon ∷ []) ∷ (index ∷ one_of steppers ∷ lexeme Semicolon ∷ []) ∷ []

assign_words : (K : List Symbol) (ts : List Token) (e : End) → first ts ≡ Word → GoesAny Words K (behind ts) e → Goes (form an_assign ∷ lexeme Semicolon ∷ K) ts e
assign_words K ts e f h = go_on (form an_assign ∷ lexeme Semicolon ∷ []) K ts e Word f h

word_heads : (K : List Symbol) (ts : List Token) (e : End) → first ts ≡ Word → Goes (form a_simple ∷ K) ts e → (e ≡ left ts) ⊎
    (Goes (index ∷ one_of setters ∷ form a_value ∷ lexeme Semicolon ∷ K) (behind ts) e ⊎
    (Goes (index ∷ one_of steppers ∷ lexeme Semicolon ∷ K) (behind ts) e ⊎
    (Goes (lexeme Open ∷ maybe (form some_args) ∷ lexeme Close ∷ lexeme Semicolon ∷ K) (behind ts) e ⊎ ⊥)))
word_heads K ts e f h = elim (any_all ((form a_simple ∷ []) ∷ []) K ts e (inl h)) [
  | inl i ↦ inl i
  | inr i ↦ inr (subst (λ d. One (any_heads ((form a_simple ∷ []) ∷ []) d) K ts e) f i)
]

word_cases : (K : List Symbol) (ts : List Token) (e : End) → first ts ≡ Word → Goes (form a_simple ∷ K) ts e → (e ≡ left ts) ⊎
    (GoesAny Words K (behind ts) e ⊎ Goes (lexeme Open ∷ maybe (form some_args) ∷ lexeme Close ∷ lexeme Semicolon ∷ K) (behind ts) e)
word_cases K ts e f h = elim (word_heads K ts e f h) [
  | inl i ↦ inl i
  | inr i ↦ elim i [
    | inl j ↦ inr (inl (inl j))
    | inr j ↦ elim j [
      | inl k ↦ inr (inl (inr (inl k)))
      | inr k ↦ elim k [ inl l ↦ inr (inr l) | inr l ↦ absurd l ]
    ]
  ]
]

pub assign_is_simple : (K : List Symbol) (ts : List Token) (e : End) → Goes (form an_assign ∷ lexeme Semicolon ∷ K) ts e → Goes (form a_simple ∷ K) ts e
assign_is_simple K ts e h = expand (second_part (first_part (in_turn h)))

pub simple_is_assign : (K : List Symbol) (ts : List Token) (e : End) → first ts ≡ Word → (first (behind ts) ≡ Open → ⊥) → Goes (form a_simple ∷ K) ts
    e → Goes (form an_assign ∷ lexeme Semicolon ∷ K) ts e
simple_is_assign K ts e f n h = elim (word_cases K ts e f h) [
  | inl i ↦ subst (Goes (form an_assign ∷ lexeme Semicolon ∷ K) ts) (sym i) stay
  | inr i ↦ elim i [
    | inl j ↦ assign_words K ts e f j
    | inr j ↦ elim (at_lexeme j) [
      | inl k ↦ assign_words K ts e f (inl (subst (Goes (index ∷ one_of setters ∷ form a_value ∷ lexeme Semicolon ∷ K) (behind ts)) (sym k) stay))
      | inr k ↦ absurd (n k.1)
    ]
  ]
]

pub word_ended : (tokens : List Token) (at end : ℕ) → first (drop at tokens) ≡ Word → (first (behind (drop at tokens)) ≡ Open → ⊥) → Ended []
    (form an_assign ∷ lexeme Semicolon ∷ []) tokens at end → Ended [] (form a_simple ∷ []) tokens at end
word_ended tokens at end f n p = record {
  ahead = p.ahead;
  within = p.within;
  passes = record {
    shorter = p.passes.shorter;
    goes = λ K e h. assign_is_simple K (drop at tokens) e (p.passes.goes K e h);
    bound = λ K e b h. p.passes.bound K e b (simple_is_assign K (drop at tokens) e f n h);
  };
}

pub word_stopped : (tokens : List Token) (at stop : ℕ) → first (drop at tokens) ≡ Word → (first (behind (drop at tokens)) ≡ Open → ⊥) → Stopped []
    (form an_assign ∷ lexeme Semicolon ∷ []) tokens at stop → Stopped [] (form a_simple ∷ []) tokens at stop
word_stopped tokens at stop f n p = record {
  ahead = p.ahead;
  within = p.within;
  halts = record {
    shorter = p.halts.shorter;
    goes = λ K. assign_is_simple K (drop at tokens) (left (drop stop tokens)) (p.halts.goes K);
    bound = λ K e b h. p.halts.bound K e b (simple_is_assign K (drop at tokens) e f n h);
  };
}
