-- What the grammar of statements reads is reached by steps.
use Rattle.std.proofs.Common.{◌≡◌, inl, inr, ℕ, List, [], ◌∷◌, refl, sym, subst, Option}
use Rattle.flame_spec.specs.declared.trees.Parameter.{Parameter}
use Rattle.flame_spec.specs.Trees.{Expression, Expressions, Stored, Indexed, Declared, Assigned, Statement, Statements, Arms}
use Rattle.flame_lex.specs.declared.token.Token.{Token}
use Rattle.flame_expr.specs.declared.lexemes.Lexeme.{Lexeme}
use Rattle.flame_expr.specs.declared.lexemes.Lexeme.TheVariants.{Word, Start, Finish, Set, Open, Close, OpenBrace, CloseBrace, Comma, Semicolon, Int, Void, If, Else, While, For, Do, Return, Break, Continue}
use Rattle.flame_expr.specs.Lexemes.{first, behind}
use Rattle.flame_expr.specs.ViablePrefixes.{Symbol, lexeme, form, both, either, one_of, maybe, many, expr, index, setters, steppers, parameter, more_parameters, parameters, more_args, more_items, else_ifs, else_body, a_unit, a_def, a_block, a_stmt, a_decl, an_item, a_simple, an_assign, a_place, a_value, some_args, a_body, End, Goes, expand, in_turn, first_part, second_part, with_it, without, more, enough}
use Rattle.flame_expr.proofs.Heads.{matched}
use Rattle.flame_expr.proofs.Parts.{any_heads, any_from, pasts, pasts_one, GoesAny, go_on}
use Rattle.flame_expr.proofs.Derivations.{reads_go, index_goes, brackets_go}
use Rattle.flame_parse.specs.StatementGrammar.{Stores, an_expression, a_call, Initial, no_initial, an_initial, Place, placed, OneParameter, a_parameter, MoreParameters, no_parameter, parameter_more, SomeParameters, listed, Parameters, none_given, void_given, some_given, Item, an_item as item_read, MoreItems, no_item, item_more, Items, items, Declaration, declaration, Assignment, sets, steps_behind, steps_before, MoreArgs, no_arg, arg_more, Args, args, Called, no_args, some_args as args_read, AssignedTo, assigned_to, Simple, nothing, assigning, calling, returning, breaking, continuing, First, no_first, first_assign, first_decl, Test, no_test, a_test, Step, no_step, a_step, Heading, heading, Block, braces, Stmts, no_stmt, stmt_more, Stmt, declaring, blocking, branching, whiling, repeating, doing, looping, simply, Elses, no_else, else_if, an_else, Body, in_braces, one_simple, Defined, Definition, definition, Definitions, no_definition, definition_more}
use Rattle.flame_parse.specs.HeadSymbols.{initial_symbol}
use Rattle.flame_parse.proofs.Beginnings.{operations, sets_by, steps_by, begins_step}

any_on : (A : List (List Symbol)) (K : List Symbol) (ts : List Token) (e : End) (a : Lexeme) → first ts ≡ a → GoesAny (pasts (any_heads A a)) K (behind ts) e → GoesAny A K ts e
any_on A K ts e a f h = any_from A K ts e (pasts_one (any_heads A (first ts)) K ts e (subst (λ d. GoesAny (pasts (any_heads A d)) K (behind ts) e) (sym f) h))

more_args_go : (K : List Symbol) (ts mid : List Token) (us : Expressions) (e : End) → MoreArgs ts us mid → Goes K mid e → Goes (more_args ∷ K) ts e
more_args_go K ts mid us e no_arg h = enough h
more_args_go K ts mid us e (arg_more {mid = m} {e = t} {us = vs} f a b) h = more
    (in_turn (matched Comma (expr ∷ more_args ∷ K) ts e refl (sym f) (reads_go 6 (more_args ∷ K) (behind ts) m t e a (more_args_go K m mid vs e b h))))

args_go : (K : List Symbol) (ts mid : List Token) (us : Expressions) (e : End) → Args ts us mid → Goes K mid e → Goes (form some_args ∷ K) ts e
args_go K ts mid us e (args {mid = m} {e = t} {us = vs} a b) h = expand (in_turn (reads_go 6 (more_args ∷ K) ts m t e a (more_args_go K m mid vs e b h)))

value_goes : (K : List Symbol) (ts mid : List Token) (v : Stored) (e : End) → Stores ts v mid → Goes K mid e → Goes (form a_value ∷ K) ts e
value_goes K ts mid v e (an_expression {e = t} a) h = expand (first_part (reads_go 6 K ts mid t e a h))
value_goes K ts mid v e (a_call {mid = m} {us = us} f g a c) h =
    expand (second_part (in_turn (in_turn (in_turn (matched Word (lexeme Open ∷ form some_args ∷ lexeme Close ∷ K) ts e refl (sym f)
    (matched Open (form some_args ∷ lexeme Close ∷ K) (behind ts) e refl (sym g) (args_go (lexeme Close ∷ K) (behind (behind ts)) m us e a (matched Close K m e refl (sym c) h))))))))

initial_goes : (K : List Symbol) (ts mid : List Token) (v : Option Stored) (e : End) → Initial ts v mid → Goes K mid e → Goes (initial_symbol ∷ K) ts e
initial_goes K ts mid v e no_initial h = without h
initial_goes K ts mid v e (an_initial {v = t} f a) h = with_it (in_turn (matched Set (form a_value ∷ K) ts e refl (sym f) (value_goes K (behind ts) mid t e a h)))

item_goes : (K : List Symbol) (ts mid : List Token) (d : Declared) (e : End) → Item ts d mid → Goes K mid e → Goes (form an_item ∷ K) ts e
item_goes K ts mid d e (item_read {v = v} f a) h = expand (in_turn (matched Word (initial_symbol ∷ K) ts e refl (sym f) (initial_goes K (behind ts) mid v e a h)))

more_items_go : (K : List Symbol) (ts mid : List Token) (ds : List Declared) (e : End) → MoreItems ts ds mid → Goes K mid e → Goes (more_items ∷ K) ts e
more_items_go K ts mid ds e no_item h = enough h
more_items_go K ts mid ds e (item_more {mid = m} {d = d} {ds = es} f a b) h = more
    (in_turn
    (matched Comma (form an_item ∷ more_items ∷ K) ts e refl (sym f) (item_goes (more_items ∷ K) (behind ts) m d e a (more_items_go K m mid es e b h))))

items_go : (K : List Symbol) (ts mid : List Token) (ds : List Declared) (e : End) → Items ts ds mid → Goes K mid e → Goes (form an_item ∷ more_items ∷ K) ts e
items_go K ts mid ds e (items {mid = m} {d = d} {ds = es} a b) h = item_goes (more_items ∷ K) ts m d e a (more_items_go K m mid es e b h)

declaration_goes : (K : List Symbol) (ts mid : List Token) (ds : List Declared) (e : End) → Declaration ts ds mid → Goes K mid e → Goes (form a_decl ∷ K) ts e
declaration_goes K ts mid ds e (declaration f a) h = expand (in_turn (in_turn (matched Int (form an_item ∷ more_items ∷ K) ts e refl (sym f) (items_go K (behind ts) mid ds e a h))))

place_goes : (K : List Symbol) (ts mid : List Token) (w : List ℕ) (s : Option Indexed) (e : End) → Place ts w s mid → Goes K mid e → Goes (form a_place ∷ K) ts e
place_goes K ts mid w s e (placed f a) h = expand (in_turn (matched Word (index ∷ K) ts e refl (sym f) (index_goes K (behind ts) mid s e a h)))

operation_goes : (K : List Symbol) (ts mid : List Token) (w : List ℕ) (s : Option Indexed) (e : End) → Place ts w s mid → GoesAny operations K mid e → Goes (form an_assign ∷ K) ts e
operation_goes K ts mid w s e p h = elim h [
  | inl i ↦ expand (first_part (in_turn (in_turn (place_goes (one_of setters ∷ form a_value ∷ K) ts mid w s e p i))))
  | inr i ↦ elim i [
    | inl j ↦ expand (second_part (first_part (in_turn (place_goes (one_of steppers ∷ K) ts mid w s e p j))))
    | inr j ↦ absurd j
  ]
]

assignment_goes : (K : List Symbol) (ts mid : List Token) (a : Assigned) (e : End) → Assignment ts a mid → Goes K mid e → Goes (form an_assign ∷ K) ts e
assignment_goes K ts mid a e (sets {mid = m} {word = w} {s = s} {op = o} {v = v} p g r) h =
    let b = sets_by (first m) o g in
    operation_goes K ts m w s e p (any_on operations K m e (first m) refl (subst (λ B. GoesAny B K (behind m) e) (sym b.2) (inl (value_goes K (behind m) mid v e r h))))
assignment_goes K ts mid a e (steps_behind {mid = m} {word = w} {s = s} {op = o} p g) h =
    let b = steps_by (first m) o g in
    operation_goes K ts m w s e p (any_on operations K m e (first m) refl (subst (λ B. GoesAny B K (behind m) e) (sym b.2) (inl h)))
assignment_goes K ts mid a e (steps_before {word = w} {s = s} {op = o} f p) h =
    let b = begins_step (first ts) o f in
    go_on (form an_assign ∷ []) K ts e (first ts) refl (subst (λ B. GoesAny B K (behind ts) e) (sym b.2) (inl (place_goes K (behind ts) mid w s e p h)))

assigned_goes : (K : List Symbol) (ts mid : List Token) (a : Assigned) (e : End) → AssignedTo ts a mid → Goes K mid e → Goes (form an_assign ∷ lexeme Semicolon ∷ K) ts e
assigned_goes K ts mid a e (assigned_to {mid = m} x f) h = assignment_goes (lexeme Semicolon ∷ K) ts m a e x (matched Semicolon K m e refl (sym f) h)

called_goes : (K : List Symbol) (ts mid : List Token) (us : Expressions) (e : End) → Called ts us mid → Goes K mid e → Goes (maybe (form some_args) ∷ lexeme Close ∷ K) ts e
called_goes K ts mid us e (no_args f) h = without (matched Close K ts e refl (sym f) h)
called_goes K ts mid us e (args_read {mid = m} a f) h = with_it (args_go (lexeme Close ∷ K) ts m us e a (matched Close K m e refl (sym f) h))

simple_goes : (K : List Symbol) (ts mid : List Token) (s : Statement) (e : End) → Simple ts s mid → Goes K mid e → Goes (form a_simple ∷ K) ts e
simple_goes K ts mid s e (nothing f) h = go_on (form a_simple ∷ []) K ts e Semicolon f (inl h)
simple_goes K ts mid s e (assigning {a = a} x) h = expand (second_part (first_part (in_turn (assigned_goes K ts mid a e x h))))
simple_goes K ts mid s e (calling {mid = m} {us = us} f g a i) h = go_on (form a_simple ∷ []) K ts e Word f
    (inr
    (inr
    (inl
    (matched Open (maybe (form some_args) ∷ lexeme Close ∷ lexeme Semicolon ∷ K) (behind ts) e refl (sym g)
    (called_goes (lexeme Semicolon ∷ K) (behind (behind ts)) m us e a (matched Semicolon K m e refl (sym i) h))))))
simple_goes K ts mid s e (returning {mid = m} {e = t} f a i) h = go_on (form a_simple ∷ []) K ts e Return f
    (inl (reads_go 6 (lexeme Semicolon ∷ K) (behind ts) m t e a (matched Semicolon K m e refl (sym i) h)))
simple_goes K ts mid s e (breaking f g) h = go_on (form a_simple ∷ []) K ts e Break f (inl (matched Semicolon K (behind ts) e refl (sym g) h))
simple_goes K ts mid s e (continuing f g) h = go_on (form a_simple ∷ []) K ts e Continue f (inl (matched Semicolon K (behind ts) e refl (sym g) h))

abbrev Firsts : Symbol
Firsts = maybe (either (form an_assign) (form a_decl))

first_goes : (K : List Symbol) (ts mid : List Token) (ss : Statements) (e : End) → First ts ss mid → Goes K mid e → Goes (Firsts ∷ lexeme Semicolon ∷ K) ts e
first_goes K ts mid ss e (no_first f) h = without (matched Semicolon K ts e refl (sym f) h)
first_goes K ts mid ss e (first_assign {a = a} x) h = with_it (first_part (assigned_goes K ts mid a e x h))
first_goes K ts mid ss e (first_decl {mid = m} {ds = ds} x f) h = with_it (second_part (declaration_goes (lexeme Semicolon ∷ K) ts m ds e x (matched Semicolon K m e refl (sym f) h)))

test_goes : (K : List Symbol) (ts mid : List Token) (v : Option Expression) (e : End) → Test ts v mid → Goes K mid e → Goes (maybe expr ∷ lexeme Semicolon ∷ K) ts e
test_goes K ts mid v e (no_test f) h = without (matched Semicolon K ts e refl (sym f) h)
test_goes K ts mid v e (a_test {mid = m} {e = t} x f) h = with_it (reads_go 6 (lexeme Semicolon ∷ K) ts m t e x (matched Semicolon K m e refl (sym f) h))

step_goes : (K : List Symbol) (ts mid : List Token) (v : Option Assigned) (e : End) → Step ts v mid → Goes K mid e → Goes (maybe (form an_assign) ∷ lexeme Close ∷ K) ts e
step_goes K ts mid v e (no_step f) h = without (matched Close K ts e refl (sym f) h)
step_goes K ts mid v e (a_step {mid = m} {a = a} x f) h = with_it (assignment_goes (lexeme Close ∷ K) ts m a e x (matched Close K m e refl (sym f) h))

heading_goes : (K : List Symbol) (ts mid : List Token) (fs : Statements) (t : Option Expression) (a : Option Assigned) (e : End) → Heading ts fs t a
    mid → Goes K mid e → Goes (lexeme Open ∷ Firsts ∷ lexeme Semicolon ∷ maybe expr ∷ lexeme Semicolon ∷ maybe (form an_assign) ∷ lexeme Close ∷ K) ts e
heading_goes K ts mid fs t a e (heading {l = l} {m = m} f x y z) h =
    matched Open (Firsts ∷ lexeme Semicolon ∷ maybe expr ∷ lexeme Semicolon ∷ maybe (form an_assign) ∷ lexeme Close ∷ K) ts e refl (sym f)
    (first_goes (maybe expr ∷ lexeme Semicolon ∷ maybe (form an_assign) ∷ lexeme Close ∷ K) (behind ts) l fs e x
    (test_goes (maybe (form an_assign) ∷ lexeme Close ∷ K) l m t e y (step_goes K m mid a e z h)))

mutual
  pub block_goes : (K : List Symbol) (ts mid : List Token) (ss : Statements) (e : End) → Block ts ss mid → Goes K mid e → Goes (form a_block ∷ K) ts e
  block_goes K ts mid ss e (braces {mid = m} f a g) h = expand
      (in_turn
      (in_turn
      (matched OpenBrace (many (form a_stmt) ∷ lexeme CloseBrace ∷ K) ts e refl (sym f)
      (stmts_go (lexeme CloseBrace ∷ K) (behind ts) m ss e a (matched CloseBrace K m e refl (sym g) h)))))

  stmts_go : (K : List Symbol) (ts mid : List Token) (ss : Statements) (e : End) → Stmts ts ss mid → Goes K mid e → Goes (many (form a_stmt) ∷ K) ts e
  stmts_go K ts mid ss e no_stmt h = enough h
  stmts_go K ts mid ss e (stmt_more {mid = m} {s = s} {ss = rs} a b) h = more (stmt_goes (many (form a_stmt) ∷ K) ts m s e a (stmts_go K m mid rs e b h))

  stmt_goes : (K : List Symbol) (ts mid : List Token) (s : Statement) (e : End) → Stmt ts s mid → Goes K mid e → Goes (form a_stmt ∷ K) ts e
  stmt_goes K ts mid s e (declaring {mid = m} {ds = ds} a f) h = expand (first_part (in_turn (declaration_goes (lexeme Semicolon ∷ K) ts m ds e a (matched Semicolon K m e refl (sym f) h))))
  stmt_goes K ts mid s e (blocking {ss = ss} a) h = expand (second_part (first_part (block_goes K ts mid ss e a h)))
  stmt_goes K ts mid s e (branching {m = m} {n = n} {e = t} {ss = ss} {os = os} {as' = rs} f a b c) h = go_on (form a_stmt ∷ []) K ts e If f
      (inl
      (brackets_go (form a_body ∷ else_ifs ∷ else_body ∷ K) (behind ts) m t e a
      (body_goes (else_ifs ∷ else_body ∷ K) m n ss e b (elses_go K n mid rs os e c h))))
  stmt_goes K ts mid s e (whiling {m = m} {e = t} {ss = ss} f a b) h = go_on (form a_stmt ∷ []) K ts e While f (inl (brackets_go (form a_body ∷ K) (behind ts) m t e a (body_goes K m mid ss e b h)))
  stmt_goes K ts mid s e (repeating {m = m} {fs = fs} {ss = ss} {e = t} {a = v} f a b) h = go_on (form a_stmt ∷ []) K ts e For f
      (inl (heading_goes (form a_body ∷ K) (behind ts) m fs t v e a (body_goes K m mid ss e b h)))
  stmt_goes K ts mid s e (doing {m = m} {n = n} {e = t} {ss = ss} f a g b i) h = go_on (form a_stmt ∷ []) K ts e Do f
      (inl
      (body_goes (lexeme While ∷ lexeme Open ∷ expr ∷ lexeme Close ∷ lexeme Semicolon ∷ K) (behind ts) m ss e a
      (matched While (lexeme Open ∷ expr ∷ lexeme Close ∷ lexeme Semicolon ∷ K) m e refl (sym g)
      (brackets_go (lexeme Semicolon ∷ K) (behind m) n t e b (matched Semicolon K n e refl (sym i) h)))))
  stmt_goes K ts mid s e (looping {m = m} {ss = ss} f a g) h = go_on (form a_stmt ∷ []) K ts e Start f (inl (stmts_go (lexeme Finish ∷ K) (behind ts) m ss e a (matched Finish K m e refl (sym g) h)))
  stmt_goes K ts mid s e (simply {s = x} a) h = expand (second_part (second_part (second_part (second_part (second_part (second_part (second_part (simple_goes K ts mid x e a h))))))))

  elses_go : (K : List Symbol) (ts mid : List Token) (rs : Arms) (os : Statements) (e : End) → Elses ts rs os mid → Goes K mid e → Goes (else_ifs ∷ else_body ∷ K) ts e
  elses_go K ts mid rs os e no_else h = enough (without h)
  elses_go K ts mid rs os e (else_if {m = m} {n = n} {e = t} {ss = ss} {os = ps} {as' = qs} f g a b c) h = go_on (else_ifs ∷ else_body ∷ []) K ts e
      Else f
      (inl
      (matched If (lexeme Open ∷ expr ∷ lexeme Close ∷ form a_body ∷ else_ifs ∷ else_body ∷ K) (behind ts) e refl (sym g)
      (brackets_go (form a_body ∷ else_ifs ∷ else_body ∷ K) (behind (behind ts)) m t e a
      (body_goes (else_ifs ∷ else_body ∷ K) m n ss e b (elses_go K n mid qs ps e c h)))))
  elses_go K ts mid rs os e (an_else {ss = ss} f a) h = go_on (else_ifs ∷ else_body ∷ []) K ts e Else f (inr (inl (body_goes K (behind ts) mid ss e a h)))

  body_goes : (K : List Symbol) (ts mid : List Token) (ss : Statements) (e : End) → Body ts ss mid → Goes K mid e → Goes (form a_body ∷ K) ts e
  body_goes K ts mid ss e (in_braces a) h = expand (first_part (block_goes K ts mid ss e a h))
  body_goes K ts mid ss e (one_simple {s = s} a) h = expand (second_part (simple_goes K ts mid s e a h))

parameter_goes : (K : List Symbol) (ts mid : List Token) (p : Parameter) (e : End) → OneParameter ts p mid → Goes K mid e → Goes (parameter ∷ K) ts e
parameter_goes K ts mid p e (a_parameter f g) h = in_turn (matched Int (lexeme Word ∷ K) ts e refl (sym f) (matched Word K (behind ts) e refl (sym g) h))

more_parameters_go : (K : List Symbol) (ts mid : List Token) (ps : List Parameter) (e : End) → MoreParameters ts ps mid → Goes K mid e → Goes (more_parameters ∷ K) ts e
more_parameters_go K ts mid ps e no_parameter h = enough h
more_parameters_go K ts mid ps e (parameter_more {mid = m} {p = p} {ps = qs} f a b) h = more
    (in_turn
    (matched Comma (parameter ∷ more_parameters ∷ K) ts e refl (sym f)
    (parameter_goes (more_parameters ∷ K) (behind ts) m p e a (more_parameters_go K m mid qs e b h))))

some_parameters_go : (K : List Symbol) (ts mid : List Token) (ps : List Parameter) (e : End) → SomeParameters ts ps mid → Goes K mid e → Goes (both parameter more_parameters ∷ K) ts e
some_parameters_go K ts mid ps e (listed {mid = m} {p = p} {ps = qs} a b) h = in_turn (parameter_goes (more_parameters ∷ K) ts m p e a (more_parameters_go K m mid qs e b h))

parameters_go : (K : List Symbol) (ts mid : List Token) (ps : List Parameter) (e : End) → Parameters ts ps mid → Goes K mid e → Goes (parameters ∷ lexeme Close ∷ K) ts e
parameters_go K ts mid ps e (none_given f) h = without (matched Close K ts e refl (sym f) h)
parameters_go K ts mid ps e (void_given f g) h = with_it (first_part (matched Void (lexeme Close ∷ K) ts e refl (sym f) (matched Close K (behind ts) e refl (sym g) h)))
parameters_go K ts mid ps e (some_given {mid = m} a f) h = with_it (second_part (some_parameters_go (lexeme Close ∷ K) ts m ps e a (matched Close K m e refl (sym f) h)))

definition_goes : (K : List Symbol) (ts mid : List Token) (d : Defined) (e : End) → Definition ts d mid → Goes K mid e → Goes (form a_def ∷ K) ts e
definition_goes K ts mid d e (definition {mid = m} {ps = ps} {ss = ss} f g i a b) h = go_on (form a_def ∷ []) K ts e Int f (inl
    (matched Word (lexeme Open ∷ parameters ∷ lexeme Close ∷ form a_block ∷ K) (behind ts) e refl (sym g)
    (matched Open (parameters ∷ lexeme Close ∷ form a_block ∷ K) (behind (behind ts)) e refl (sym i)
    (parameters_go (form a_block ∷ K) (behind (behind (behind ts))) m ps e a (block_goes K m mid ss e b h)))))

definitions_go : (K : List Symbol) (ts mid : List Token) (ds : List Defined) (e : End) → Definitions ts ds mid → Goes K mid e → Goes (many (form a_def) ∷ K) ts e
definitions_go K ts mid ds e no_definition h = enough h
definitions_go K ts mid ds e (definition_more {mid = m} {d = d} {ds = es} a b) h = more (definition_goes (many (form a_def) ∷ K) ts m d e a (definitions_go K m mid es e b h))

pub unit_goes : (ts mid : List Token) (ds : List Defined) (e : End) → Definitions ts ds mid → Goes [] mid e → Goes (form a_unit ∷ []) ts e
unit_goes ts mid ds e a h = expand (definitions_go [] ts mid ds e a h)
