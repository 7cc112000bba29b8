-- A list of tokens is at most one function file.
use Rattle.std.proofs.Common.{◌≡◌, ℕ, suc, pos, List, [], ◌∷◌, refl, sym, ap, ◌∙◌, subst, true, false, nat_eq, eq-eqb, Option, Some, None}
use Rattle.std.proofs.lemmas.Bool.{false≢true}
use Rattle.std.proofs.lemmas.Option.{same_Some}
use Rattle.flame_ops.specs.declared.integers.Op.{Op}
use Rattle.flame_spec.specs.declared.trees.Parameter.{Parameter}
use Rattle.flame_spec.specs.declared.trees.Sign.{Sign}
use Rattle.flame_spec.specs.declared.trees.SignKind.{SignKind}
use Rattle.flame_spec.specs.Trees.{Expression, number, Expressions, part, Stored, plain, called, Indexed, Declared, Assigned, Statement, declare, assign, call, block, branch, while, for, do_while, loop_over, return, Statements, no_more, also, Arms, arm}
use Rattle.flame_lex.specs.declared.token.Token.{Token}
use Rattle.flame_expr.specs.declared.lexemes.Lexeme.{Lexeme}
use Rattle.flame_expr.specs.declared.lexemes.Lexeme.TheVariants.{Nothing, Word, Number, Start, PlusPlus, MinusMinus, Set, Plus, Minus, Bang, Open, Close, OpenBracket, Arrow, OpenBrace, Comma, Semicolon, Int, Void, If, Else, While, For, Do, Return, Break, Continue}
use Rattle.flame_expr.specs.Lexemes.{first, text, line, behind}
use Rattle.flame_expr.specs.OperatorLevels.{joins, signs, sign_of}
use Rattle.flame_expr.specs.ViablePrefixes.{setters, steppers}
use Rattle.flame_expr.specs.ExpressionGrammar.{Reads, a_unary, a_chain, a_conjunction, a_disjunction, Signs, no_sign, a_sign, Primary, a_number, a_name, a_field, a_get, in_brackets, Index, no_index, an_index, Bracketed, bracketed}
use Rattle.flame_expr.proofs.LexemeFacts.{same, among}
use Rattle.flame_expr.proofs.Operators.{of_each, sign_among}
use Rattle.flame_expr.proofs.Uniqueness.{IsStop, stop_below, tail_stop, conjuncts_stop, disjuncts_stop, unlike_words, one_read, one_index, one_bracketed, or_right_false}
use Rattle.flame_parse.specs.AssignmentOperators.{set_op, step_op, joins_item, joins_items, joins_args}
use Rattle.flame_parse.specs.StatementGrammar.{Stores, an_expression, a_call, Initial, no_initial, an_initial, Place, placed, OneParameter, a_parameter, MoreParameters, no_parameter, parameter_more, SomeParameters, listed, Parameters, none_given, void_given, some_given, Item, an_item, MoreItems, no_item, item_more, Items, items, Declaration, declaration, Assignment, sets, steps_behind, steps_before, MoreArgs, no_arg, arg_more, Args, args, Called, no_args, some_args, AssignedTo, assigned_to, Simple, nothing, assigning, calling, returning, breaking, continuing, First, no_first, first_assign, first_decl, Test, no_test, a_test, Step, no_step, a_step, Heading, heading, Block, braces, Stmts, no_stmt, stmt_more, Stmt, declaring, blocking, branching, whiling, repeating, doing, looping, simply, Elses, no_else, else_if, an_else, Body, in_braces, one_simple, Defined, Definition, definition, Definitions, no_definition, definition_more}
use Rattle.flame_parse.specs.Parsing.{IsUnit}
use Rattle.flame_parse.proofs.Beginnings.{setter, stepper}
use Rattle.flame_parse.proofs.Assigns.{Made}

-- none of these lexemes is next
abbrev IsEnd : List Lexeme → List Token → Type 0
IsEnd J ts = among (first ts) J ≡ false

end_at : (J : List Lexeme) (d : Lexeme) (ts : List Token) → first ts ≡ d → among d J ≡ false → IsEnd J ts
end_at J d ts f h = ap (λ x. among x J) f ∙ h

end_less : (d : Lexeme) (J : List Lexeme) (ts : List Token) → IsEnd (d ∷ J) ts → IsEnd J ts
end_less d J ts h = or_right_false (same d (first ts)) (among (first ts) J) h

joins_no : (J : List Lexeme) (d : Lexeme) (ts : List Token) → among d J ≡ true → IsEnd J ts → first ts ≡ d → ⊥
joins_no J d ts m h f = false≢true (sym h ∙ ap (λ x. among x J) f ∙ m)

unlike_numbers : (m n : ℕ) → nat_eq m n ≡ false → m ≡ n → ⊥
unlike_numbers m n c e = false≢true (sym c ∙ eq-eqb m n e)

-- what begins an expression
abbrev heads : List Lexeme
heads = Number ∷ Word ∷ Open ∷ Minus ∷ Plus ∷ Bang ∷ []

head_at : (d : Lexeme) (ts : List Token) → first ts ≡ d → among d heads ≡ true → among (first ts) heads ≡ true
head_at d ts f h = ap (λ x. among x heads) f ∙ h

primary_begins : (ts r : List Token) (t : Expression) → Primary ts t r → among (first ts) heads ≡ true
primary_begins ts r t (a_number f) = head_at Number ts f refl
primary_begins ts r t (a_name f i) = head_at Word ts f refl
primary_begins ts r t (a_field f g h i) = head_at Word ts f refl
primary_begins ts r t (a_get f g h) = head_at Word ts f refl
primary_begins ts r t (in_brackets (bracketed f a)) = head_at Open ts f refl

sign_begins : (d : Lexeme) (k : SignKind) → sign_of d ≡ Some k → among d heads ≡ true
sign_begins d k e = of_each (λ l. among l heads ≡ true) signs d (refl, (refl, (refl, tt))) (sign_among d k e)

unary_begins : (ts m r : List Token) (ss : List Sign) (t : Expression) → Signs ts ss m → Primary m t r → among (first ts) heads ≡ true
unary_begins ts m r ss t no_sign p = primary_begins ts r t p
unary_begins ts m r ss t (a_sign {kind = k} s a) p = sign_begins (first ts) k s

read_begins : (k : ℕ) (ts r : List Token) (t : Expression) → Reads k ts t r → among (first ts) heads ≡ true
read_begins k ts r t (a_unary {mid = m} {ss = ss} {e = e} a b) = unary_begins ts m r ss e a b
read_begins k ts r t (a_chain {k = n} {mid = m} {e = e} l a b) = read_begins n ts m e a
read_begins k ts r t (a_conjunction {k = n} {mid = m} {e = e} l a b) = read_begins n ts m e a
read_begins k ts r t (a_disjunction {k = n} {mid = m} {e = e} l a b) = read_begins n ts m e a

no_read : (d : Lexeme) (ts r : List Token) (t : Expression) → among d heads ≡ false → first ts ≡ d → Reads 6 ts t r → ⊥
no_read d ts r t n f a = false≢true (sym n ∙ ap (λ x. among x heads) (sym f) ∙ read_begins 6 ts r t a)

args_end : (m r : List Token) (us : Expressions) → MoreArgs m us r → IsEnd joins_args r → IsEnd (joins 6) m
args_end m r us no_arg h = end_less Comma (joins 6) r h
args_end m r us (arg_more f a b) h = end_at (joins 6) Comma m f refl

only_more_args : (ts r r' : List Token) (us us' : Expressions) → MoreArgs ts us r → MoreArgs ts us' r' → IsEnd joins_args r → IsEnd joins_args r' → (us ≡ us') × (r ≡ r')
only_more_args ts r r' us us' no_arg no_arg h h' = (refl, refl)
only_more_args ts r r' us us' no_arg (arg_more f a b) h h' = absurd (joins_no joins_args Comma ts refl h f)
only_more_args ts r r' us us' (arg_more f a b) no_arg h h' = absurd (joins_no joins_args Comma ts refl h' f)
only_more_args ts r r' us us' (arg_more {mid = m} {e = e} {us = x} f a b) (arg_more {mid = m'} {e = e'} {us = x'} f' a' b') h h' =
    let i = one_read 6 (behind ts) m m' e e' a a' (args_end m r x b h) (args_end m' r' x' b' h') in
    let j = only_more_args m' r r' x x' (subst (λ y. MoreArgs y x r) i.1 b) b' h h' in
    (ap (λ z. part z x) i.0 ∙ ap (part e') j.0, j.1)

only_args : (ts r r' : List Token) (us us' : Expressions) → Args ts us r → Args ts us' r' → IsEnd joins_args r → IsEnd joins_args r' → (us ≡ us') × (r ≡ r')
only_args ts r r' us us' (args {mid = m} {e = e} {us = x} a b) (args {mid = m'} {e = e'} {us = x'} a' b') h h' =
    let i = one_read 6 ts m m' e e' a a' (args_end m r x b h) (args_end m' r' x' b' h') in
    let j = only_more_args m' r r' x x' (subst (λ y. MoreArgs y x r) i.1 b) b' h h' in
    (ap (λ z. part z x) i.0 ∙ ap (part e') j.0, j.1)

close_no_args : (ts r : List Token) (us : Expressions) → first ts ≡ Close → Args ts us r → ⊥
close_no_args ts r us f (args {mid = m} {e = e} a b) = no_read Close ts m e refl f a

-- behind a word and a bracket an expression goes on with the other bracket
word_no_sign : (ts : List Token) (s : SignKind) → first ts ≡ Word → sign_of (first ts) ≡ Some s → ⊥
word_no_sign ts s f g = let h : None ≡ Some s = sym (ap sign_of f) ∙ g in cc

index_no_open : (ts r : List Token) (s : Option Indexed) → Index ts s r → IsStop 0 r → first ts ≡ Open → ⊥
index_no_open ts r s no_index h f = joins_no (joins 0) Open ts refl h f
index_no_open ts r s (an_index g a k) h f = unlike_words OpenBracket Open ts refl g f

primary_closes : (ts r : List Token) (t : Expression) → Primary ts t r → IsStop 0 r → first ts ≡ Word → first (behind ts) ≡ Open → first (behind (behind ts)) ≡ Close
primary_closes ts r t (a_number f) h a b = absurd (unlike_words Number Word ts refl f a)
primary_closes ts r t (a_name {s = s} f i) h a b = absurd (index_no_open (behind ts) r s i h b)
primary_closes ts r t (a_field f g k i) h a b = absurd (unlike_words Arrow Open (behind ts) refl g b)
primary_closes ts r t (a_get f g k) h a b = k
primary_closes ts r t (in_brackets (bracketed f i)) h a b = absurd (unlike_words Open Word ts refl f a)

unary_closes : (ts m r : List Token) (ss : List Sign) (t : Expression) → Signs ts ss m → Primary m t r → IsStop 0 r → first ts ≡ Word → first (behind ts) ≡ Open → first (behind (behind ts)) ≡ Close
unary_closes ts m r ss t no_sign p h a b = primary_closes ts r t p h a b
unary_closes ts m r ss t (a_sign {kind = k} s i) p h a b = absurd (word_no_sign ts k a s)

read_closes : (k : ℕ) (ts r : List Token) (t : Expression) → Reads k ts t r → IsStop k r → first ts ≡ Word → first (behind ts) ≡ Open → first (behind (behind ts)) ≡ Close
read_closes k ts r t (a_unary {mid = m} {ss = ss} {e = e} x y) h a b = unary_closes ts m r ss e x y h a b
read_closes k ts r t (a_chain {k = n} {mid = m} {e = e} {ls = ls} l x y) h a b = read_closes n ts m e x (tail_stop n m r ls y h) a b
read_closes k ts r t (a_conjunction {k = n} {mid = m} {e = e} {us = us} l x y) h a b = read_closes n ts m e x
    (subst (λ i. IsStop i m) (sym l) (conjuncts_stop m r us y (subst (λ i. IsStop (suc i) r) l h))) a b
read_closes k ts r t (a_disjunction {k = n} {mid = m} {e = e} {us = us} l x y) h a b = read_closes n ts m e x
    (subst (λ i. IsStop i m) (sym l) (disjuncts_stop m r us y (subst (λ i. IsStop (suc i) r) l h))) a b

no_call : (ts r m : List Token) (t : Expression) (us : Expressions) → Reads 6 ts t r → IsStop 6 r → first ts ≡ Word → first (behind ts) ≡ Open → Args (behind (behind ts)) us m → ⊥
no_call ts r m t us x h a b y = close_no_args (behind (behind ts)) m us (read_closes 6 ts r t x h a b) y

only_stores : (ts r r' : List Token) (v v' : Stored) → Stores ts v r → Stores ts v' r' → IsEnd (joins 6) r → IsEnd (joins 6) r' → (v ≡ v') × (r ≡ r')
only_stores ts r r' v v' (an_expression {e = e} a) (an_expression {e = e'} a') h h' =
    let i = one_read 6 ts r r' e e' a a' h h' in
    (ap (λ z. plain z) i.0, i.1)
only_stores ts r r' v v' (a_call {mid = m} {us = us} f g a c) (a_call {mid = m'} {us = us'} f' g' a' c') h h' =
    let i = only_args (behind (behind ts)) m m' us us' a a' (end_at joins_args Close m c refl) (end_at joins_args Close m' c' refl) in
    (ap (called (line ts) (text ts)) i.0, ap behind i.1)
only_stores ts r r' v v' (an_expression {e = e} a) (a_call {mid = m} {us = us} f g b c) h h' = absurd (no_call ts r m e us a h f g b)
only_stores ts r r' v v' (a_call {mid = m} {us = us} f g b c) (an_expression {e = e} a) h h' = absurd (no_call ts r' m e us a h' f g b)

only_initial : (ts r r' : List Token) (v v' : Option Stored) → Initial ts v r → Initial ts v' r' → IsEnd joins_item r → IsEnd joins_item r' → (v ≡ v') × (r ≡ r')
only_initial ts r r' v v' no_initial no_initial h h' = (refl, refl)
only_initial ts r r' v v' no_initial (an_initial f a) h h' = absurd (joins_no joins_item Set ts refl h f)
only_initial ts r r' v v' (an_initial f a) no_initial h h' = absurd (joins_no joins_item Set ts refl h' f)
only_initial ts r r' v v' (an_initial {v = e} f a) (an_initial {v = e'} f' a') h h' =
    let i = only_stores (behind ts) r r' e e' a a' (end_less Set (joins 6) r h) (end_less Set (joins 6) r' h') in
    (ap (λ z. Some z) i.0, i.1)

only_item : (ts r r' : List Token) (d d' : Declared) → Item ts d r → Item ts d' r' → IsEnd joins_item r → IsEnd joins_item r' → (d ≡ d') × (r ≡ r')
only_item ts r r' d d' (an_item {v = v} f a) (an_item {v = v'} f' a') h h' =
    let i = only_initial (behind ts) r r' v v' a a' h h' in
    (ap (λ z. record { line = line ts; name = text ts; value = z }) i.0, i.1)

items_end : (m r : List Token) (ds : List Declared) → MoreItems m ds r → IsEnd joins_items r → IsEnd joins_item m
items_end m r ds no_item h = end_less Comma joins_item r h
items_end m r ds (item_more f a b) h = end_at joins_item Comma m f refl

only_more_items : (ts r r' : List Token) (ds ds' : List Declared) → MoreItems ts ds r → MoreItems ts ds' r' → IsEnd joins_items r → IsEnd joins_items r' → (ds ≡ ds') × (r ≡ r')
only_more_items ts r r' ds ds' no_item no_item h h' = (refl, refl)
only_more_items ts r r' ds ds' no_item (item_more f a b) h h' = absurd (joins_no joins_items Comma ts refl h f)
only_more_items ts r r' ds ds' (item_more f a b) no_item h h' = absurd (joins_no joins_items Comma ts refl h' f)
only_more_items ts r r' ds ds' (item_more {mid = m} {d = d} {ds = x} f a b) (item_more {mid = m'} {d = d'} {ds = x'} f' a' b') h h' =
    let i = only_item (behind ts) m m' d d' a a' (items_end m r x b h) (items_end m' r' x' b' h') in
    let j = only_more_items m' r r' x x' (subst (λ y. MoreItems y x r) i.1 b) b' h h' in
    (ap (λ z. z ∷ x) i.0 ∙ ap (λ z. d' ∷ z) j.0, j.1)

only_items : (ts r r' : List Token) (ds ds' : List Declared) → Items ts ds r → Items ts ds' r' → IsEnd joins_items r → IsEnd joins_items r' → (ds ≡ ds') × (r ≡ r')
only_items ts r r' ds ds' (items {mid = m} {d = d} {ds = x} a b) (items {mid = m'} {d = d'} {ds = x'} a' b') h h' =
    let i = only_item ts m m' d d' a a' (items_end m r x b h) (items_end m' r' x' b' h') in
    let j = only_more_items m' r r' x x' (subst (λ y. MoreItems y x r) i.1 b) b' h h' in
    (ap (λ z. z ∷ x) i.0 ∙ ap (λ z. d' ∷ z) j.0, j.1)

only_declaration : (ts r r' : List Token) (ds ds' : List Declared) → Declaration ts ds r → Declaration ts ds' r' → IsEnd joins_items r → IsEnd joins_items r' → (ds ≡ ds') × (r ≡ r')
only_declaration ts r r' ds ds' (declaration f a) (declaration f' a') h h' = only_items (behind ts) r r' ds ds' a a' h h'

-- no lexeme both sets and steps, and no word steps
set_no_step : (d : Lexeme) (o : Option Op) (p : Op) → set_op d ≡ Some o → step_op d ≡ Some p → ⊥
set_no_step d o p e f =
    let none = of_each (λ l. step_op l ≡ None) setters d (refl, (refl, (refl, (refl, (refl, (refl, tt)))))) (setter d o e) in
    let h : None ≡ Some p = sym none ∙ f in
    cc

word_no_step : (d : Lexeme) (p : Op) → d ≡ Word → step_op d ≡ Some p → ⊥
word_no_step d p f e = let h : None ≡ Some p = sym (ap step_op f) ∙ e in cc

set_stops : (d : Lexeme) (o : Option Op) → set_op d ≡ Some o → among d (joins 0) ≡ false
set_stops d o e =
    of_each (λ l. among l (joins 0) ≡ false) setters d (refl, (refl, (refl, (refl, (refl, (refl, tt)))))) (setter d o e)

step_stops : (d : Lexeme) (o : Op) → step_op d ≡ Some o → among d (joins 0) ≡ false
step_stops d o e = of_each (λ l. among l (joins 0) ≡ false) steppers d (refl, (refl, tt)) (stepper d o e)

stop_all : (ts : List Token) → IsEnd (joins 6) ts → IsStop 0 ts
stop_all ts h = stop_below 0 ts (stop_below 1 ts (stop_below 2 ts (stop_below 3 ts (stop_below 4 ts (stop_below 5 ts h)))))

only_assignment : (ts r r' : List Token) (a a' : Assigned) → Assignment ts a r → Assignment ts a' r' → IsEnd (joins 6) r → IsEnd (joins 6) r' → (a ≡ a') × (r ≡ r')
only_assignment ts r r' a a' (sets {mid = m} {s = s} {op = o} {v = v} (placed f x) g y) (sets {mid = m'} {s = s'} {op = o'} {v = v'} (placed f' x') g' y') h h' =
    let i = one_index (behind ts) m m' s s' x x' (set_stops (first m) o g) (set_stops (first m') o' g') in
    let j : o ≡ o' = same_Some o o' (sym g ∙ ap (λ z. set_op (first z)) i.1 ∙ g') in
    let k = only_stores (behind m') r r' v v' (subst (λ z. Stores (behind z) v r) i.1 y) y' h h' in (
      ap (λ z. Made (line ts) (text ts) z o (line m) v) i.0 ∙ ap (λ z. Made (line ts) (text ts) s' z (line m) v) j ∙ ap
          (λ z. Made (line ts) (text ts) s' o' (line z) v) i.1 ∙ ap (Made (line ts) (text ts) s' o' (line m')) k.0,
      k.1,
    )
only_assignment ts r r' a a' (steps_behind {mid = m} {s = s} {op = o} (placed f x) g) (steps_behind {mid = m'} {s = s'} {op = o'} (placed f' x') g') h h' =
    let i = one_index (behind ts) m m' s s' x x' (step_stops (first m) o g) (step_stops (first m') o' g') in
    let j : o ≡ o' = same_Some o o' (sym g ∙ ap (λ z. step_op (first z)) i.1 ∙ g') in (
      ap (λ z. Made (line ts) (text ts) z (Some o) (line m) (plain (number (pos 1)))) i.0 ∙ ap
          (λ z. Made (line ts) (text ts) s' (Some z) (line m) (plain (number (pos 1)))) j ∙ ap
          (λ z. Made (line ts) (text ts) s' (Some o') (line z) (plain (number (pos 1)))) i.1,
      ap behind i.1,
    )
only_assignment ts r r' a a' (steps_before {s = s} {op = o} g (placed f x)) (steps_before {s = s'} {op = o'} g' (placed f' x')) h h' =
    let i = one_index (behind (behind ts)) r r' s s' x x' (stop_all r h) (stop_all r' h') in
    let j : o ≡ o' = same_Some o o' (sym g ∙ g') in (
      ap (λ z. Made (line (behind ts)) (text (behind ts)) z (Some o) (line ts) (plain (number (pos 1)))) i.0 ∙ ap
          (λ z. Made (line (behind ts)) (text (behind ts)) s' (Some z) (line ts) (plain (number (pos 1)))) j,
      i.1,
    )
only_assignment ts r r' a a' (sets {mid = m} {s = s} {op = o} (placed f x) g y) (steps_behind {mid = m'} {s = s'} {op = o'} (placed f' x') g') h h' =
    let i = one_index (behind ts) m m' s s' x x' (set_stops (first m) o g) (step_stops (first m') o' g') in
    absurd (set_no_step (first m) o o' g (ap (λ z. step_op (first z)) i.1 ∙ g'))
only_assignment ts r r' a a' (steps_behind {mid = m} {s = s} {op = o} (placed f x) g) (sets {mid = m'} {s = s'} {op = o'} (placed f' x') g' y) h h' =
    let i = one_index (behind ts) m m' s s' x x' (step_stops (first m) o g) (set_stops (first m') o' g') in
    absurd (set_no_step (first m') o' o g' (ap (λ z. step_op (first z)) (sym i.1) ∙ g))
only_assignment ts r r' a a' (sets (placed f x) g y) (steps_before {op = o} s q) h h' = absurd (word_no_step (first ts) o f s)
only_assignment ts r r' a a' (steps_behind (placed f x) g) (steps_before {op = o} s q) h h' = absurd (word_no_step (first ts) o f s)
only_assignment ts r r' a a' (steps_before {op = o} s q) (sets (placed f x) g y) h h' = absurd (word_no_step (first ts) o f s)
only_assignment ts r r' a a' (steps_before {op = o} s q) (steps_behind (placed f x) g) h h' = absurd (word_no_step (first ts) o f s)

only_called : (ts r r' : List Token) (us us' : Expressions) → Called ts us r → Called ts us' r' → (us ≡ us') × (r ≡ r')
only_called ts r r' us us' (no_args f) (no_args f') = (refl, refl)
only_called ts r r' us us' (no_args f) (some_args {mid = m} a g) = absurd (close_no_args ts m us' f a)
only_called ts r r' us us' (some_args {mid = m} a g) (no_args f) = absurd (close_no_args ts m us f a)
only_called ts r r' us us' (some_args {mid = m} a g) (some_args {mid = m'} a' g') =
    let i = only_args ts m m' us us' a a' (end_at joins_args Close m g refl) (end_at joins_args Close m' g' refl) in
    (i.0, ap behind i.1)

only_assigned_to : (ts r r' : List Token) (a a' : Assigned) → AssignedTo ts a r → AssignedTo ts a' r' → (a ≡ a') × (r ≡ r')
only_assigned_to ts r r' a a' (assigned_to {mid = m} x g) (assigned_to {mid = m'} x' g') =
    let i = only_assignment ts m m' a a' x x' (end_at (joins 6) Semicolon m g refl) (end_at (joins 6) Semicolon m' g' refl) in
    (i.0, ap behind i.1)

-- which simple statement two lexemes begin
abbrev simple_kind : Lexeme → Lexeme → ℕ
simple_kind Semicolon d = 0
simple_kind Return d = 2
simple_kind Break d = 3
simple_kind Continue d = 4
simple_kind Int d = 6
simple_kind Close d = 7
simple_kind Word Open = 1
simple_kind Word d = 5
simple_kind l d = 5

set_kind : (d : Lexeme) (o : Option Op) → set_op d ≡ Some o → simple_kind Word d ≡ 5
set_kind d o e = of_each (λ l. simple_kind Word l ≡ 5) setters d (refl, (refl, (refl, (refl, (refl, (refl, tt)))))) (setter d o e)

behind_kind : (d : Lexeme) (o : Op) → step_op d ≡ Some o → simple_kind Word d ≡ 5
behind_kind d o e = of_each (λ l. simple_kind Word l ≡ 5) steppers d (refl, (refl, tt)) (stepper d o e)

before_kind : (l d : Lexeme) (o : Op) → step_op l ≡ Some o → simple_kind l d ≡ 5
before_kind l d o e = of_each (λ x. simple_kind x d ≡ 5) steppers l (refl, (refl, tt)) (stepper l o e)

kind_at : (l : Lexeme) (ts : List Token) → first ts ≡ l → simple_kind (first ts) (first (behind ts)) ≡ simple_kind l (first (behind ts))
kind_at l ts f = ap (λ x. simple_kind x (first (behind ts))) f

place_kind : (ts m : List Token) (w : List ℕ) (s : Option Indexed) → Place ts w s m → simple_kind Word (first m) ≡ 5 → simple_kind (first ts) (first (behind ts)) ≡ 5
place_kind ts m w s (placed f no_index) h = kind_at Word ts f ∙ h
place_kind ts m w s (placed f (an_index g x c)) h = kind_at Word ts f ∙ ap (simple_kind Word) g

assignment_kind : (ts r : List Token) (a : Assigned) → Assignment ts a r → simple_kind (first ts) (first (behind ts)) ≡ 5
assignment_kind ts r a (sets {mid = m} {word = w} {s = s} {op = o} p g y) = place_kind ts m w s p (set_kind (first m) o g)
assignment_kind ts r a (steps_behind {mid = m} {word = w} {s = s} {op = o} p g) = place_kind ts m w s p (behind_kind (first m) o g)
assignment_kind ts r a (steps_before {op = o} s p) = before_kind (first ts) (first (behind ts)) o s

assigned_kind : (ts r : List Token) (a : Assigned) → AssignedTo ts a r → simple_kind (first ts) (first (behind ts)) ≡ 5
assigned_kind ts r a (assigned_to {mid = m} x g) = assignment_kind ts m a x

declaration_kind : (ts r : List Token) (ds : List Declared) → Declaration ts ds r → simple_kind (first ts) (first (behind ts)) ≡ 6
declaration_kind ts r ds (declaration f a) = kind_at Int ts f

abbrev simple_tag : (ts r : List Token) (s : Statement) → Simple ts s r → ℕ
simple_tag ts r s (nothing f) = 0
simple_tag ts r s (assigning a) = 5
simple_tag ts r s (calling f g a h) = 1
simple_tag ts r s (returning f a g) = 2
simple_tag ts r s (breaking f g) = 3
simple_tag ts r s (continuing f g) = 4

simple_tagged : (ts r : List Token) (s : Statement) (a : Simple ts s r) → simple_kind (first ts) (first (behind ts)) ≡ simple_tag ts r s a
simple_tagged ts r s (nothing f) = kind_at Semicolon ts f
simple_tagged ts r s (assigning {a = a} x) = assigned_kind ts r a x
simple_tagged ts r s (calling f g a h) = kind_at Word ts f ∙ ap (simple_kind Word) g
simple_tagged ts r s (returning f a g) = kind_at Return ts f
simple_tagged ts r s (breaking f g) = kind_at Break ts f
simple_tagged ts r s (continuing f g) = kind_at Continue ts f

only_simple : (ts r r' : List Token) (s s' : Statement) → Simple ts s r → Simple ts s' r' → (s ≡ s') × (r ≡ r')
only_simple ts r r' s s' (nothing f) (nothing f') = (refl, refl)
only_simple ts r r' s s' (assigning {a = a} x) (assigning {a = a'} x') =
    let i = only_assigned_to ts r r' a a' x x' in
    (ap (λ z. assign z) i.0, i.1)
only_simple ts r r' s s' (calling {mid = m} {us = us} f g a h) (calling {mid = m'} {us = us'} f' g' a' h') =
    let i = only_called (behind (behind ts)) m m' us us' a a' in
    (ap (call (line ts) (text ts)) i.0, ap behind i.1)
only_simple ts r r' s s' (returning {mid = m} {e = e} f a g) (returning {mid = m'} {e = e'} f' a' g') =
    let i = one_read 6 (behind ts) m m' e e' a a' (end_at (joins 6) Semicolon m g refl) (end_at (joins 6) Semicolon m' g' refl) in
    (ap (λ z. return z) i.0, ap behind i.1)
only_simple ts r r' s s' (breaking f g) (breaking f' g') = (refl, refl)
only_simple ts r r' s s' (continuing f g) (continuing f' g') = (refl, refl)
only_simple ts r r' s s' a b = absurd (unlike_numbers (simple_tag ts r s a) (simple_tag ts r' s' b) refl (sym (simple_tagged ts r s a) ∙ simple_tagged ts r' s' b))

only_first : (ts r r' : List Token) (fs fs' : Statements) → First ts fs r → First ts fs' r' → (fs ≡ fs') × (r ≡ r')
only_first ts r r' fs fs' (no_first f) (no_first f') = (refl, refl)
only_first ts r r' fs fs' (first_assign {a = a} x) (first_assign {a = a'} x') =
    let i = only_assigned_to ts r r' a a' x x' in
    (ap (λ z. also (assign z) no_more) i.0, i.1)
only_first ts r r' fs fs' (first_decl {mid = m} {ds = ds} x g) (first_decl {mid = m'} {ds = ds'} x' g') =
    let i = only_declaration ts m m' ds ds' x x' (end_at joins_items Semicolon m g refl) (end_at joins_items Semicolon m' g' refl) in
    (ap (λ z. also (declare z) no_more) i.0, ap behind i.1)
only_first ts r r' fs fs' (no_first f) (first_assign {a = a} x) = absurd (unlike_numbers 0 5 refl (sym (kind_at Semicolon ts f) ∙ assigned_kind ts r' a x))
only_first ts r r' fs fs' (no_first f) (first_decl {mid = m} {ds = ds} x g) = absurd (unlike_numbers 0 6 refl (sym (kind_at Semicolon ts f) ∙ declaration_kind ts m ds x))
only_first ts r r' fs fs' (first_assign {a = a} x) (no_first f) = absurd (unlike_numbers 0 5 refl (sym (kind_at Semicolon ts f) ∙ assigned_kind ts r a x))
only_first ts r r' fs fs' (first_decl {mid = m} {ds = ds} x g) (no_first f) = absurd (unlike_numbers 0 6 refl (sym (kind_at Semicolon ts f) ∙ declaration_kind ts m ds x))
only_first ts r r' fs fs' (first_assign {a = a} x) (first_decl {mid = m} {ds = ds} y g) = absurd (unlike_numbers 5 6 refl (sym (assigned_kind ts r a x) ∙ declaration_kind ts m ds y))
only_first ts r r' fs fs' (first_decl {mid = m} {ds = ds} y g) (first_assign {a = a} x) = absurd (unlike_numbers 5 6 refl (sym (assigned_kind ts r' a x) ∙ declaration_kind ts m ds y))

only_test : (ts r r' : List Token) (e e' : Option Expression) → Test ts e r → Test ts e' r' → (e ≡ e') × (r ≡ r')
only_test ts r r' e e' (no_test f) (no_test f') = (refl, refl)
only_test ts r r' e e' (no_test f) (a_test {mid = m} {e = u} a g) = absurd (no_read Semicolon ts m u refl f a)
only_test ts r r' e e' (a_test {mid = m} {e = u} a g) (no_test f) = absurd (no_read Semicolon ts m u refl f a)
only_test ts r r' e e' (a_test {mid = m} {e = u} a g) (a_test {mid = m'} {e = u'} a' g') =
    let i = one_read 6 ts m m' u u' a a' (end_at (joins 6) Semicolon m g refl) (end_at (joins 6) Semicolon m' g' refl) in
    (ap (λ z. Some z) i.0, ap behind i.1)

only_step : (ts r r' : List Token) (a a' : Option Assigned) → Step ts a r → Step ts a' r' → (a ≡ a') × (r ≡ r')
only_step ts r r' a a' (no_step f) (no_step f') = (refl, refl)
only_step ts r r' a a' (no_step f) (a_step {mid = m} {a = u} x g) = absurd (unlike_numbers 7 5 refl (sym (kind_at Close ts f) ∙ assignment_kind ts m u x))
only_step ts r r' a a' (a_step {mid = m} {a = u} x g) (no_step f) = absurd (unlike_numbers 7 5 refl (sym (kind_at Close ts f) ∙ assignment_kind ts m u x))
only_step ts r r' a a' (a_step {mid = m} {a = u} x g) (a_step {mid = m'} {a = u'} x' g') =
    let i = only_assignment ts m m' u u' x x' (end_at (joins 6) Close m g refl) (end_at (joins 6) Close m' g' refl) in
    (ap (λ z. Some z) i.0, ap behind i.1)

only_heading : (ts r r' : List Token) (fs fs' : Statements) (e e' : Option Expression) (a a' : Option Assigned) → Heading ts fs e a r → Heading ts fs'
    e' a' r' → (fs ≡ fs') × (e ≡ e') × (a ≡ a') × (r ≡ r')
only_heading ts r r' fs fs' e e' a a' (heading {l = l} {m = m} f x y z) (heading {l = l'} {m = m'} f' x' y' z') =
    let i = only_first (behind ts) l l' fs fs' x x' in
    let j = only_test l' m m' e e' (subst (λ w. Test w e m) i.1 y) y' in
    let k = only_step m' r r' a a' (subst (λ w. Step w a r) j.1 z) z' in
    (i.0, j.0, k.0, k.1)

-- which statement a lexeme begins: 0 stands for none, 8 for a simple one, 9 for `else`
abbrev word_tag : Lexeme → ℕ
word_tag Int = 1
word_tag OpenBrace = 2
word_tag If = 3
word_tag While = 4
word_tag For = 5
word_tag Do = 6
word_tag Start = 7
word_tag Semicolon = 8
word_tag Word = 8
word_tag PlusPlus = 8
word_tag MinusMinus = 8
word_tag Return = 8
word_tag Break = 8
word_tag Continue = 8
word_tag Else = 9
word_tag l = 0

step_word : (l : Lexeme) (o : Op) → step_op l ≡ Some o → word_tag l ≡ 8
step_word PlusPlus o e = refl
step_word MinusMinus o e = refl
step_word l o e = cc

assignment_word : (ts r : List Token) (a : Assigned) → Assignment ts a r → word_tag (first ts) ≡ 8
assignment_word ts r a (sets (placed f x) s y) = ap word_tag f
assignment_word ts r a (steps_behind (placed f x) s) = ap word_tag f
assignment_word ts r a (steps_before {op = o} s p) = step_word (first ts) o s

assigned_word : (ts r : List Token) (a : Assigned) → AssignedTo ts a r → word_tag (first ts) ≡ 8
assigned_word ts r a (assigned_to {mid = m} x g) = assignment_word ts m a x

simple_word : (ts r : List Token) (s : Statement) → Simple ts s r → word_tag (first ts) ≡ 8
simple_word ts r s (nothing f) = ap word_tag f
simple_word ts r s (assigning {a = a} x) = assigned_word ts r a x
simple_word ts r s (calling f g a h) = ap word_tag f
simple_word ts r s (returning f a g) = ap word_tag f
simple_word ts r s (breaking f g) = ap word_tag f
simple_word ts r s (continuing f g) = ap word_tag f

declaration_word : (ts r : List Token) (ds : List Declared) → Declaration ts ds r → word_tag (first ts) ≡ 1
declaration_word ts r ds (declaration f a) = ap word_tag f

block_word : (ts r : List Token) (ss : Statements) → Block ts ss r → word_tag (first ts) ≡ 2
block_word ts r ss (braces f a g) = ap word_tag f

abbrev stmt_tag : (ts r : List Token) (s : Statement) → Stmt ts s r → ℕ
stmt_tag ts r s (declaring a g) = 1
stmt_tag ts r s (blocking a) = 2
stmt_tag ts r s (branching f a b c) = 3
stmt_tag ts r s (whiling f a b) = 4
stmt_tag ts r s (repeating f a b) = 5
stmt_tag ts r s (doing f a g b h) = 6
stmt_tag ts r s (looping f a g) = 7
stmt_tag ts r s (simply a) = 8

stmt_word : (ts r : List Token) (s : Statement) (a : Stmt ts s r) → word_tag (first ts) ≡ stmt_tag ts r s a
stmt_word ts r s (declaring {mid = m} {ds = ds} a g) = declaration_word ts m ds a
stmt_word ts r s (blocking {ss = ss} a) = block_word ts r ss a
stmt_word ts r s (branching f a b c) = ap word_tag f
stmt_word ts r s (whiling f a b) = ap word_tag f
stmt_word ts r s (repeating f a b) = ap word_tag f
stmt_word ts r s (doing f a g b h) = ap word_tag f
stmt_word ts r s (looping f a g) = ap word_tag f
stmt_word ts r s (simply {s = u} a) = simple_word ts r u a

tag_not_none : (ts r : List Token) (s : Statement) (a : Stmt ts s r) → nat_eq (stmt_tag ts r s a) 0 ≡ false
tag_not_none ts r s (declaring a g) = refl
tag_not_none ts r s a = refl

tag_not_else : (ts r : List Token) (s : Statement) (a : Stmt ts s r) → nat_eq (stmt_tag ts r s a) 9 ≡ false
tag_not_else ts r s (declaring a g) = refl
tag_not_else ts r s a = refl

-- no `else` is next, and nothing that begins or goes on with a statement is next
abbrev IsNoElse : List Token → Type 0
IsNoElse ts = nat_eq (word_tag (first ts)) 9 ≡ false

abbrev IsPast : List Token → Type 0
IsPast ts = word_tag (first ts) ≡ 0

stmt_not_past : (ts r : List Token) (s : Statement) → Stmt ts s r → IsPast ts → ⊥
stmt_not_past ts r s a h = unlike_numbers (stmt_tag ts r s a) 0 (tag_not_none ts r s a) (sym (stmt_word ts r s a) ∙ h)

stmts_no_else : (m r : List Token) (ss : Statements) → Stmts m ss r → IsPast r → IsNoElse m
stmts_no_else m r ss no_stmt h = ap (λ n. nat_eq n 9) h
stmts_no_else m r ss (stmt_more {mid = n} {s = s} a b) h = ap (λ n. nat_eq n 9) (stmt_word m n s a) ∙ tag_not_else m n s a

else_next : (ts : List Token) → IsNoElse ts → first ts ≡ Else → ⊥
else_next ts h f = false≢true (sym h ∙ ap (λ l. nat_eq (word_tag l) 9) f)

body_no_if : (ts r : List Token) (ss : Statements) → Body ts ss r → first ts ≡ If → ⊥
body_no_if ts r ss (in_braces a) f = unlike_numbers 3 2 refl (sym (ap word_tag f) ∙ block_word ts r ss a)
body_no_if ts r ss (one_simple {s = s} a) f = unlike_numbers 3 8 refl (sym (ap word_tag f) ∙ simple_word ts r s a)

mutual
  only_block : (ts r r' : List Token) (ss ss' : Statements) → Block ts ss r → Block ts ss' r' → (ss ≡ ss') × (r ≡ r')
  only_block ts r r' ss ss' (braces {mid = m} f a g) (braces {mid = m'} f' a' g') =
      let i = only_stmts (behind ts) m m' ss ss' a a' (ap word_tag g) (ap word_tag g') in
      (i.0, ap behind i.1)

  only_stmts : (ts r r' : List Token) (ss ss' : Statements) → Stmts ts ss r → Stmts ts ss' r' → IsPast r → IsPast r' → (ss ≡ ss') × (r ≡ r')
  only_stmts ts r r' ss ss' no_stmt no_stmt h h' = (refl, refl)
  only_stmts ts r r' ss ss' no_stmt (stmt_more {mid = m} {s = s} a b) h h' = absurd (stmt_not_past ts m s a h)
  only_stmts ts r r' ss ss' (stmt_more {mid = m} {s = s} a b) no_stmt h h' = absurd (stmt_not_past ts m s a h')
  only_stmts ts r r' ss ss' (stmt_more {mid = m} {s = s} {ss = x} a b) (stmt_more {mid = m'} {s = s'} {ss = x'} a' b') h h' =
      let i = only_stmt ts m m' s s' a a' (stmts_no_else m r x b h) (stmts_no_else m' r' x' b' h') in
      let j = only_stmts m' r r' x x' (subst (λ y. Stmts y x r) i.1 b) b' h h' in
      (ap (λ z. also z x) i.0 ∙ ap (also s') j.0, j.1)

  only_stmt : (ts r r' : List Token) (s s' : Statement) → Stmt ts s r → Stmt ts s' r' → IsNoElse r → IsNoElse r' → (s ≡ s') × (r ≡ r')
  only_stmt ts r r' s s' (declaring {mid = m} {ds = ds} a g) (declaring {mid = m'} {ds = ds'} a' g') h h' =
      let i = only_declaration ts m m' ds ds' a a' (end_at joins_items Semicolon m g refl) (end_at joins_items Semicolon m' g' refl) in
      (ap (λ z. declare z) i.0, ap behind i.1)
  only_stmt ts r r' s s' (blocking {ss = x} a) (blocking {ss = x'} a') h h' =
      let i = only_block ts r r' x x' a a' in
      (ap (λ z. block z) i.0, i.1)
  only_stmt ts r r' s s' (branching {m = m} {n = n} {e = e} {ss = x} {os = o} {as' = w} f a b c) (branching {m = m'} {n = n'} {e = e'} {ss = x'} {os = o'} {as' = w'} f' a' b' c') h h' =
      let i = one_bracketed (behind ts) m m' e e' a a' in
      let j = only_body m' n n' x x' (subst (λ y. Body y x n) i.1 b) b' in
      let k = only_elses n' r r' w w' o o' (subst (λ y. Elses y w o r) j.1 c) c' h h' in
      (ap (λ z. branch (arm z x w) o) i.0 ∙ ap (λ z. branch (arm e' z w) o) j.0 ∙ ap (λ z. branch (arm e' x' z) o) k.0 ∙ ap (branch (arm e' x' w')) k.1, k.2)
  only_stmt ts r r' s s' (whiling {m = m} {e = e} {ss = x} f a b) (whiling {m = m'} {e = e'} {ss = x'} f' a' b') h h' =
      let i = one_bracketed (behind ts) m m' e e' a a' in
      let j = only_body m' r r' x x' (subst (λ y. Body y x r) i.1 b) b' in
      (ap (λ z. while (line ts) z x) i.0 ∙ ap (while (line ts) e') j.0, j.1)
  only_stmt ts r r' s s' (repeating {m = m} {fs = fs} {ss = x} {e = e} {a = u} f a b) (repeating {m = m'} {fs = fs'} {ss = x'} {e = e'} {a = u'} f' a' b') h h' =
      let i = only_heading (behind ts) m m' fs fs' e e' u u' a a' in
      let j = only_body m' r r' x x' (subst (λ y. Body y x r) i.3 b) b' in
      (ap (λ z. for (line ts) z e u x) i.0 ∙ ap (λ z. for (line ts) fs' z u x) i.1 ∙ ap (λ z. for (line ts) fs' e' z x) i.2 ∙ ap (for (line ts) fs' e' u') j.0, j.1)
  only_stmt ts r r' s s' (doing {m = m} {n = n} {e = e} {ss = x} f a g b k) (doing {m = m'} {n = n'} {e = e'} {ss = x'} f' a' g' b' k') h h' =
      let i = only_body (behind ts) m m' x x' a a' in
      let j = one_bracketed (behind m') n n' e e' (subst (λ y. Bracketed (behind y) e n) i.1 b) b' in
      (ap (λ z. do_while (line ts) z e) i.0 ∙ ap (do_while (line ts) x') j.0, ap behind j.1)
  only_stmt ts r r' s s' (looping {m = m} {ss = x} f a g) (looping {m = m'} {ss = x'} f' a' g') h h' =
      let i = only_stmts (behind ts) m m' x x' a a' (ap word_tag g) (ap word_tag g') in
      (ap (λ z. loop_over (line ts) (text ts) z (line m) (text m)) i.0 ∙ ap (λ z. loop_over (line ts) (text ts) x' (line z) (text z)) i.1, ap behind i.1)
  only_stmt ts r r' s s' (simply a) (simply a') h h' = only_simple ts r r' s s' a a'
  only_stmt ts r r' s s' a b h h' = absurd (unlike_numbers (stmt_tag ts r s a) (stmt_tag ts r' s' b) refl (sym (stmt_word ts r s a) ∙ stmt_word ts r' s' b))

  only_elses : (ts r r' : List Token) (w w' : Arms) (o o' : Statements) → Elses ts w o r → Elses ts w' o' r' → IsNoElse r → IsNoElse r' → (w ≡ w') × (o ≡ o') × (r ≡ r')
  only_elses ts r r' w w' o o' no_else no_else h h' = (refl, refl, refl)
  only_elses ts r r' w w' o o' no_else (else_if f g a b c) h h' = absurd (else_next ts h f)
  only_elses ts r r' w w' o o' no_else (an_else f a) h h' = absurd (else_next ts h f)
  only_elses ts r r' w w' o o' (else_if f g a b c) no_else h h' = absurd (else_next ts h' f)
  only_elses ts r r' w w' o o' (an_else f a) no_else h h' = absurd (else_next ts h' f)
  only_elses ts r r' w w' o o' (else_if f g a b c) (an_else f' a') h h' = absurd (body_no_if (behind ts) r' o' a' g)
  only_elses ts r r' w w' o o' (an_else f a) (else_if f' g a' b c) h h' = absurd (body_no_if (behind ts) r o a g)
  only_elses ts r r' w w' o o' (an_else f a) (an_else f' a') h h' =
      let i = only_body (behind ts) r r' o o' a a' in
      (refl, i.0, i.1)
  only_elses ts r r' w w' o o' (else_if {m = m} {n = n} {e = e} {ss = x} {as' = u} f g a b c) (else_if {m = m'} {n = n'} {e = e'} {ss = x'} {as' = u'} f' g' a' b' c') h h' =
      let i = one_bracketed (behind (behind ts)) m m' e e' a a' in
      let j = only_body m' n n' x x' (subst (λ y. Body y x n) i.1 b) b' in
      let k = only_elses n' r r' u u' o o' (subst (λ y. Elses y u o r) j.1 c) c' h h' in
      (ap (λ z. arm z x u) i.0 ∙ ap (λ z. arm e' z u) j.0 ∙ ap (arm e' x') k.0, k.1, k.2)

  only_body : (ts r r' : List Token) (ss ss' : Statements) → Body ts ss r → Body ts ss' r' → (ss ≡ ss') × (r ≡ r')
  only_body ts r r' ss ss' (in_braces a) (in_braces a') = only_block ts r r' ss ss' a a'
  only_body ts r r' ss ss' (one_simple {s = s} a) (one_simple {s = s'} a') =
      let i = only_simple ts r r' s s' a a' in
      (ap (λ z. also z no_more) i.0, i.1)
  only_body ts r r' ss ss' (in_braces a) (one_simple {s = s} b) = absurd (unlike_numbers 2 8 refl (sym (block_word ts r ss a) ∙ simple_word ts r' s b))
  only_body ts r r' ss ss' (one_simple {s = s} b) (in_braces a) = absurd (unlike_numbers 2 8 refl (sym (block_word ts r' ss' a) ∙ simple_word ts r s b))

only_parameter : (ts r r' : List Token) (p p' : Parameter) → OneParameter ts p r → OneParameter ts p' r' → (p ≡ p') × (r ≡ r')
only_parameter ts r r' p p' (a_parameter f g) (a_parameter f' g') = (refl, refl)

only_more_parameters : (ts r r' : List Token) (ps ps' : List Parameter) → MoreParameters ts ps r → MoreParameters ts ps' r' → (first r ≡ Comma → ⊥) → (first r' ≡ Comma → ⊥) → (ps ≡ ps') × (r ≡ r')
only_more_parameters ts r r' ps ps' no_parameter no_parameter h h' = (refl, refl)
only_more_parameters ts r r' ps ps' no_parameter (parameter_more f a b) h h' = absurd (h f)
only_more_parameters ts r r' ps ps' (parameter_more f a b) no_parameter h h' = absurd (h' f)
only_more_parameters ts r r' ps ps' (parameter_more {mid = m} {p = p} {ps = x} f a b) (parameter_more {mid = m'} {p = p'} {ps = x'} f' a' b') h h' =
    let i = only_parameter (behind ts) m m' p p' a a' in
    let j = only_more_parameters m' r r' x x' (subst (λ y. MoreParameters y x r) i.1 b) b' h h' in
    (ap (λ z. z ∷ x) i.0 ∙ ap (λ z. p' ∷ z) j.0, j.1)

only_some_parameters : (ts r r' : List Token) (ps ps' : List Parameter) → SomeParameters ts ps r → SomeParameters ts ps' r' → (first r ≡ Comma → ⊥) → (first r' ≡ Comma → ⊥) → (ps ≡ ps') × (r ≡ r')
only_some_parameters ts r r' ps ps' (listed {mid = m} {p = p} {ps = x} a b) (listed {mid = m'} {p = p'} {ps = x'} a' b') h h' =
    let i = only_parameter ts m m' p p' a a' in
    let j = only_more_parameters m' r r' x x' (subst (λ y. MoreParameters y x r) i.1 b) b' h h' in
    (ap (λ z. z ∷ x) i.0 ∙ ap (λ z. p' ∷ z) j.0, j.1)

some_begin : (ts r : List Token) (ps : List Parameter) → SomeParameters ts ps r → first ts ≡ Int
some_begin ts r ps (listed (a_parameter f g) b) = f

close_no_comma : (ts : List Token) → first ts ≡ Close → first ts ≡ Comma → ⊥
close_no_comma ts f g = unlike_words Close Comma ts refl f g

only_parameters : (ts r r' : List Token) (ps ps' : List Parameter) → Parameters ts ps r → Parameters ts ps' r' → (ps ≡ ps') × (r ≡ r')
only_parameters ts r r' ps ps' (none_given f) (none_given f') = (refl, refl)
only_parameters ts r r' ps ps' (void_given f g) (void_given f' g') = (refl, refl)
only_parameters ts r r' ps ps' (some_given {mid = m} a f) (some_given {mid = m'} a' f') =
    let i = only_some_parameters ts m m' ps ps' a a' (close_no_comma m f) (close_no_comma m' f') in
    (i.0, ap behind i.1)
only_parameters ts r r' ps ps' (none_given f) (void_given f' g) = absurd (unlike_words Close Void ts refl f f')
only_parameters ts r r' ps ps' (void_given f g) (none_given f') = absurd (unlike_words Void Close ts refl f f')
only_parameters ts r r' ps ps' (none_given f) (some_given {mid = m} a g) = absurd (unlike_words Close Int ts refl f (some_begin ts m ps' a))
only_parameters ts r r' ps ps' (some_given {mid = m} a g) (none_given f) = absurd (unlike_words Close Int ts refl f (some_begin ts m ps a))
only_parameters ts r r' ps ps' (void_given f k) (some_given {mid = m} a g) = absurd (unlike_words Void Int ts refl f (some_begin ts m ps' a))
only_parameters ts r r' ps ps' (some_given {mid = m} a g) (void_given f k) = absurd (unlike_words Void Int ts refl f (some_begin ts m ps a))

abbrev defined_as : List Token → List Parameter → Statements → Defined
defined_as ts ps ss = record { line = line ts; name = text (behind ts); parameters = ps; body = ss }

only_definition : (ts r r' : List Token) (d d' : Defined) → Definition ts d r → Definition ts d' r' → (d ≡ d') × (r ≡ r')
only_definition ts r r' d d' (definition {mid = m} {ps = ps} {ss = x} f g h a b) (definition {mid = m'} {ps = ps'} {ss = x'} f' g' h' a' b') =
    let i = only_parameters (behind (behind (behind ts))) m m' ps ps' a a' in
    let j = only_block m' r r' x x' (subst (λ y. Block y x r) i.1 b) b' in
    (ap (λ z. defined_as ts z x) i.0 ∙ ap (defined_as ts ps') j.0, j.1)

definition_word : (ts r : List Token) (d : Defined) → Definition ts d r → first ts ≡ Int
definition_word ts r d (definition f g h a b) = f

only_definitions : (ts r r' : List Token) (ds ds' : List Defined) → Definitions ts ds r → Definitions ts ds' r' → (first r ≡ Int → ⊥) → (first r' ≡ Int → ⊥) → (ds ≡ ds') × (r ≡ r')
only_definitions ts r r' ds ds' no_definition no_definition h h' = (refl, refl)
only_definitions ts r r' ds ds' no_definition (definition_more {mid = m} {d = d} a b) h h' = absurd (h (definition_word ts m d a))
only_definitions ts r r' ds ds' (definition_more {mid = m} {d = d} a b) no_definition h h' = absurd (h' (definition_word ts m d a))
only_definitions ts r r' ds ds' (definition_more {mid = m} {d = d} {ds = x} a b) (definition_more {mid = m'} {d = d'} {ds = x'} a' b') h h' =
    let i = only_definition ts m m' d d' a a' in
    let j = only_definitions m' r r' x x' (subst (λ y. Definitions y x r) i.1 b) b' h h' in
    (ap (λ z. z ∷ x) i.0 ∙ ap (λ z. d' ∷ z) j.0, j.1)

no_int : first [] ≡ Int → ⊥
no_int f = unlike_words Nothing Int [] refl refl f

pub at_most_one_unit : (tokens : List Token) (ds es : List Defined) → IsUnit tokens ds → IsUnit tokens es → ds ≡ es
at_most_one_unit tokens ds es a b = (only_definitions tokens [] [] ds es a b no_int no_int).0
