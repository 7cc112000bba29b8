-- The trees of what symbols of statements and function files stand for.
use Rattle.std.proofs.Common.{◌≡◌, ℕ, pos, List, [], ◌∷◌, refl, sym, subst, arith, true, Option, Some, None}
use Rattle.flame_ops.specs.declared.integers.Op.{Op}
use Rattle.flame_ops.specs.declared.integers.Op.TheVariants.{Add, Sub, Mul, Div, Rem}
use Rattle.flame_spec.specs.declared.trees.Parameter.{Parameter}
use Rattle.flame_spec.specs.Trees.{Expression, number, Expressions, no_parts, part, Stored, plain, called, Indexed, Declared, Assigned, Statement, empty, declare, assign, call, block, branch, while, for, do_while, loop_over, return, break, continue, Statements, no_more, also, Arms, no_arms, arm}
use Rattle.flame_lex.specs.declared.token.Token.{Token}
use Rattle.flame_expr.specs.declared.lexemes.Lexeme.{Lexeme}
use Rattle.flame_expr.specs.declared.lexemes.Lexeme.TheVariants.{Open, Close, Semicolon}
use Rattle.flame_expr.specs.Lexemes.{first, text, line, behind}
use Rattle.flame_expr.specs.ViablePrefixes.{form, either, maybe, many, expr, setters, steppers, more_parameters, parameters, more_args, more_items, else_ifs, else_body, a_unit, a_def, a_block, a_stmt, a_decl, an_item, a_simple, an_assign, a_place, a_value, some_args, a_body}
use Rattle.flame_expr.specs.ExpressionGrammar.{Reads, Bracketed, bracketed, closed}
use Rattle.flame_expr.proofs.LexemeFacts.{among}
use Rattle.flame_expr.proofs.Operators.{of_each}
use Rattle.flame_expr.proofs.Meanings.{Means, one, side, pair, former, latter, some, none, again, stop, means_one, means_level, means_index}
use Rattle.flame_parse.specs.AssignmentOperators.{set_op, step_op}
use Rattle.flame_parse.specs.HeadSymbols.{initial_symbol}
use Rattle.flame_parse.specs.StatementGrammar as grammar
use Rattle.flame_parse.specs.StatementGrammar.{MoreArgs, Args, Stores, Initial, Item, MoreItems, Items, Declaration, Place, Assignment, Called, AssignedTo, Simple, First, Test, Step, Heading, Block, Stmts, Stmt, Elses, Body, Defined, OneParameter, MoreParameters, SomeParameters, Parameters, Definition, Definitions}

means_expr : (ts rest : List Token) → Means expr ts rest → (e : Expression) × Reads 6 ts e rest
means_expr ts rest h = means_level 6 ts rest (omega arith) h

set_among : (d : Lexeme) → among d setters ≡ true → (o : Option Op) × (set_op d ≡ Some o)
set_among d h =
    of_each (λ l. (o : Option Op) × (set_op l ≡ Some o)) setters d
    ((None, refl), ((Some Add, refl), ((Some Sub, refl), ((Some Mul, refl), ((Some Div, refl), ((Some Rem, refl), tt))))))
    h

step_among : (d : Lexeme) → among d steppers ≡ true → (o : Op) × (step_op d ≡ Some o)
step_among d h =
    of_each (λ l. (o : Op) × (step_op l ≡ Some o)) steppers d ((Add, refl), ((Sub, refl), tt)) h

means_more_args : (ts rest : List Token) → Means more_args ts rest → (us : Expressions) × MoreArgs ts us rest
means_more_args ts rest stop = (no_parts, grammar.no_arg)
means_more_args ts rest (again {mid = m} (pair (one {ts = us} f) a) b) =
    let e = means_expr us m a in
    let t = means_more_args m rest b in
    (part e.0 t.0, grammar.arg_more f e.1 t.1)

means_args : (ts rest : List Token) → Means (form some_args) ts rest → (us : Expressions) × Args ts us rest
means_args ts rest (side (pair {mid = m} a b)) =
    let e = means_expr ts m a in
    let t = means_more_args m rest b in
    (part e.0 t.0, grammar.args e.1 t.1)

means_value : (ts rest : List Token) → Means (form a_value) ts rest → (v : Stored) × Stores ts v rest
means_value ts rest (side (former a)) = let e = means_expr ts rest a in (plain e.0, grammar.an_expression e.1)
means_value ts rest (side (latter (pair {mid = m} (pair (pair (one f) (one {ts = us} g)) a) (one h)))) =
    let u = means_args us m a in
    (called (line ts) (text ts) u.0, grammar.a_call f g u.1 h)

means_initial : (ts rest : List Token) → Means initial_symbol ts rest → (v : Option Stored) × Initial ts v rest
means_initial ts rest none = (None, grammar.no_initial)
means_initial ts rest (some (pair (one {ts = us} f) a)) = let v = means_value us rest a in (Some v.0, grammar.an_initial f v.1)

means_item : (ts rest : List Token) → Means (form an_item) ts rest → (d : Declared) × Item ts d rest
means_item ts rest (side (pair (one {ts = us} f) a)) =
    let v = means_initial us rest a in
    (record { line = line ts; name = text ts; value = v.0 }, grammar.an_item f v.1)

means_more_items : (ts rest : List Token) → Means more_items ts rest → (ds : List Declared) × MoreItems ts ds rest
means_more_items ts rest stop = ([], grammar.no_item)
means_more_items ts rest (again {mid = m} (pair (one {ts = us} f) a) b) =
    let d = means_item us m a in
    let t = means_more_items m rest b in
    (d.0 ∷ t.0, grammar.item_more f d.1 t.1)

means_declaration : (ts rest : List Token) → Means (form a_decl) ts rest → (ds : List Declared) × Declaration ts ds rest
means_declaration ts rest (side (pair {mid = m} (pair (one {ts = us} f) a) b)) =
    let d = means_item us m a in
    let t = means_more_items m rest b in
    (d.0 ∷ t.0, grammar.declaration f (grammar.items d.1 t.1))

-- a place, with its word and its index
record Placed (ts rest : List Token) : Type 0 where
  word : List ℕ
  which : Option Indexed
  read : Place ts word which rest

means_place : (ts rest : List Token) → Means (form a_place) ts rest → Placed ts rest
means_place ts rest (side (pair (one {ts = us} f) a)) =
    let s = means_index us rest a in
    record { word = text ts; which = s.0; read = grammar.placed f s.1 }

abbrev behind_made : List Token → List Token → List ℕ → Option Indexed → Op → Assigned
behind_made ts mid word s op = record { line = line ts; name = word; subscript = s; op = Some op; op_line = line mid; value = plain (number (pos 1)) }

abbrev before_made : List Token → List ℕ → Option Indexed → Op → Assigned
before_made ts word s op = record { line = line (behind ts); name = word; subscript = s; op = Some op; op_line = line ts; value = plain (number (pos 1)) }

means_assign : (ts rest : List Token) → Means (form an_assign) ts rest → (a : Assigned) × Assignment ts a rest
means_assign ts rest (side (former (pair {mid = n} (pair {mid = m} p o) b))) =
    let q = means_place ts m p in
    let i = means_one setters m n o in
    let s = set_among (first m) i.0 in
    let v = means_value n rest b in
    (record { line = line ts; name = q.word; subscript = q.which; op = s.0; op_line = line m; value = v.0 }, grammar.sets q.read s.1 (subst (λ us. Stores us v.0 rest) i.1 v.1))
means_assign ts rest (side (latter (former (pair {mid = m} p o)))) =
    let q = means_place ts m p in
    let i = means_one steppers m rest o in
    let s = step_among (first m) i.0 in
    (behind_made ts m q.word q.which s.0, subst (Assignment ts (behind_made ts m q.word q.which s.0)) (sym i.1) (grammar.steps_behind q.read s.1))
means_assign ts rest (side (latter (latter (pair {mid = m} o p)))) =
    let q = means_place m rest p in
    let i = means_one steppers ts m o in
    let s = step_among (first ts) i.0 in
    (before_made ts q.word q.which s.0, grammar.steps_before s.1 (subst (λ us. Place us q.word q.which rest) i.1 q.read))

means_assigned : (ts mid rest : List Token) → Means (form an_assign) ts mid → first mid ≡ Semicolon → rest ≡ behind mid → (a : Assigned) × AssignedTo ts a rest
means_assigned ts mid rest a f g = let b = means_assign ts mid a in (b.0, subst (AssignedTo ts b.0) (sym g) (grammar.assigned_to b.1 f))

means_called : (ts rest : List Token) → Means (maybe (form some_args)) ts rest → first rest ≡ Close → (us : Expressions) × Called ts us (behind rest)
means_called ts rest none f = (no_parts, grammar.no_args f)
means_called ts rest (some a) f = let u = means_args ts rest a in (u.0, grammar.some_args u.1 f)

means_simple : (ts rest : List Token) → Means (form a_simple) ts rest → (s : Statement) × Simple ts s rest
means_simple ts rest (side (former (one f))) = (empty, grammar.nothing f)
means_simple ts rest (side (latter (former (pair {mid = m} a (one f))))) =
    let b = means_assigned ts m rest a f refl in
    (assign b.0, grammar.assigning b.1)
means_simple ts rest (side (latter (latter (former (pair (pair (pair (pair (one f) (one {ts = us} g)) a) (one {token = t} {ts = vs} h)) (one i)))))) =
    let u = means_called us (t ∷ vs) a h in
    (call (line ts) (text ts) u.0, grammar.calling f g u.1 i)
means_simple ts rest (side (latter (latter (latter (former (pair {mid = m} (pair (one {ts = us} f) a) (one g))))))) =
    let e = means_expr us m a in
    (return e.0, grammar.returning f e.1 g)
means_simple ts rest (side (latter (latter (latter (latter (former (pair (one f) (one g)))))))) = (break (line ts), grammar.breaking f g)
means_simple ts rest (side (latter (latter (latter (latter (latter (pair (one f) (one g)))))))) = (continue (line ts), grammar.continuing f g)

means_first : (ts mid : List Token) → Means (maybe (either (form an_assign) (form a_decl))) ts mid → first mid ≡ Semicolon → (ss : Statements) × First ts ss (behind mid)
means_first ts mid none f = (no_more, grammar.no_first f)
means_first ts mid (some (former a)) f = let b = means_assigned ts mid (behind mid) a f refl in (also (assign b.0) no_more, grammar.first_assign b.1)
means_first ts mid (some (latter a)) f = let d = means_declaration ts mid a in (also (declare d.0) no_more, grammar.first_decl d.1 f)

means_test : (ts mid : List Token) → Means (maybe expr) ts mid → first mid ≡ Semicolon → (e : Option Expression) × Test ts e (behind mid)
means_test ts mid none f = (None, grammar.no_test f)
means_test ts mid (some a) f = let e = means_expr ts mid a in (Some e.0, grammar.a_test e.1 f)

means_step : (ts mid : List Token) → Means (maybe (form an_assign)) ts mid → first mid ≡ Close → (a : Option Assigned) × Step ts a (behind mid)
means_step ts mid none f = (None, grammar.no_step f)
means_step ts mid (some a) f = let b = means_assign ts mid a in (Some b.0, grammar.a_step b.1 f)

-- an expression in brackets
means_bracketed : (ts us mid : List Token) → us ≡ behind ts → first ts ≡ Open → Means expr us mid → first mid ≡ Close → (e : Expression) × Bracketed ts e (behind mid)
means_bracketed ts us mid g f a h = let e = means_expr us mid a in (e.0, bracketed f (closed (subst (λ vs. Reads 6 vs e.0 mid) g e.1) h))

-- the tests behind an `if`, whatever stands behind them
record Tests (ts mid : List Token) : Type 0 where
  others : Arms
  read : (os : Statements) (rest : List Token) → Elses mid no_arms os rest → Elses ts others os rest

mutual
  means_block : (ts rest : List Token) → Means (form a_block) ts rest → (ss : Statements) × Block ts ss rest
  means_block ts rest (side (pair {mid = m} (pair (one {ts = us} f) a) (one g))) =
      let b = means_stmts us m a in
      (b.0, grammar.braces f b.1 g)

  means_stmts : (ts rest : List Token) → Means (many (form a_stmt)) ts rest → (ss : Statements) × Stmts ts ss rest
  means_stmts ts rest stop = (no_more, grammar.no_stmt)
  means_stmts ts rest (again {mid = m} a b) =
      let s = means_stmt ts m a in
      let t = means_stmts m rest b in
      (also s.0 t.0, grammar.stmt_more s.1 t.1)

  means_stmt : (ts rest : List Token) → Means (form a_stmt) ts rest → (s : Statement) × Stmt ts s rest
  means_stmt ts rest (side (former (pair {mid = m} a (one f)))) = let d = means_declaration ts m a in (declare d.0, grammar.declaring d.1 f)
  means_stmt ts rest (side (latter (former a))) = let b = means_block ts rest a in (block b.0, grammar.blocking b.1)
  means_stmt ts rest (side (latter (latter (former (side (pair {mid = l} (pair {mid = k} (pair {mid = j} (pair {mid = n} (pair (pair (one f) (one {ts = us} g)) a) (one h)) b) c) d)))))) =
      let e = means_bracketed (behind ts) us n refl g a h in
      let s = means_body j k b in
      let m = means_tests k l c in
      let o = means_last l rest d in
      (branch (arm e.0 s.0 m.others) o.0, grammar.branching f e.1 s.1 (m.read o.0 rest o.1))
  means_stmt ts rest (side (latter (latter (latter (former (side (pair {mid = j} (pair {mid = n} (pair (pair (one f) (one {ts = us} g)) a) (one h)) b))))))) =
      let e = means_bracketed (behind ts) us n refl g a h in
      let s = means_body j rest b in
      (while (line ts) e.0 s.0, grammar.whiling f e.1 s.1)
  means_stmt ts rest
      (side
      (latter
      (latter
      (latter
      (latter
      (former
      (side
      (pair {mid = q}
      (pair {mid = p}
      (pair {mid = o} (pair {mid = n} (pair {mid = m} (pair {mid = l} (pair (pair (one f) (one {ts = us} g)) a) (one h)) b) (one i)) c)
      (one j))
      d))))))))
      =
      let x = means_first us l a h in
      let y = means_test m n b i in
      let z = means_step o p c j in
      let s = means_body q rest d in
      (for (line ts) x.0 y.0 z.0 s.0, grammar.repeating f (grammar.heading g x.1 y.1 z.1) s.1)
  means_stmt ts rest
      (side
      (latter
      (latter
      (latter
      (latter
      (latter
      (former
      (side
      (pair {mid = p}
      (pair {mid = o} (pair {mid = n} (pair {mid = m} (pair {mid = l} (pair (one {ts = us} f) a) (one g)) (one {ts = vs} h)) b)
      (one i))
      (one j))))))))))
      =
      let s = means_body us l a in
      let e = means_bracketed m vs o refl h b i in
      (do_while (line ts) s.0 e.0, grammar.doing f s.1 g e.1 j)
  means_stmt ts rest (side (latter (latter (latter (latter (latter (latter (former (side (pair {mid = m} (pair (one {ts = us} f) a) (one g))))))))))) =
      let s = means_stmts us m a in
      (loop_over (line ts) (text ts) s.0 (line m) (text m), grammar.looping f s.1 g)
  means_stmt ts rest (side (latter (latter (latter (latter (latter (latter (latter a)))))))) = let s = means_simple ts rest a in (s.0, grammar.simply s.1)

  means_tests : (ts rest : List Token) → Means else_ifs ts rest → Tests ts rest
  means_tests ts rest stop = record { others = no_arms; read = λ os more h. h }
  means_tests ts rest (again {mid = k} (pair {mid = j} (pair {mid = n} (pair (pair (pair (one f) (one g)) (one {ts = us} h)) a) (one i)) b) c) =
      let e = means_bracketed (behind (behind ts)) us n refl h a i in
      let s = means_body j k b in
      let m = means_tests k rest c in
      record { others = arm e.0 s.0 m.others; read = λ os more r. grammar.else_if f g e.1 s.1 (m.read os more r) }

  means_last : (ts rest : List Token) → Means else_body ts rest → (os : Statements) × Elses ts no_arms os rest
  means_last ts rest none = (no_more, grammar.no_else)
  means_last ts rest (some (pair (one {ts = us} f) a)) = let s = means_body us rest a in (s.0, grammar.an_else f s.1)

  means_body : (ts rest : List Token) → Means (form a_body) ts rest → (ss : Statements) × Body ts ss rest
  means_body ts rest (side (former a)) = let b = means_block ts rest a in (b.0, grammar.in_braces b.1)
  means_body ts rest (side (latter a)) = let s = means_simple ts rest a in (also s.0 no_more, grammar.one_simple s.1)

means_more_parameters : (ts rest : List Token) → Means more_parameters ts rest → (ps : List Parameter) × MoreParameters ts ps rest
means_more_parameters ts rest stop = ([], grammar.no_parameter)
means_more_parameters ts rest (again {mid = m} (pair (one {ts = us} f) (pair (one g) (one h))) b) =
    let t = means_more_parameters m rest b in
    (record { line = line us; name = text (behind us) } ∷ t.0, grammar.parameter_more f (grammar.a_parameter g h) t.1)

means_parameters : (ts mid : List Token) → Means parameters ts mid → first mid ≡ Close → (ps : List Parameter) × Parameters ts ps (behind mid)
means_parameters ts mid none f = ([], grammar.none_given f)
means_parameters ts mid (some (former (one g))) f = ([], grammar.void_given g f)
means_parameters ts mid (some (latter (pair {mid = n} (pair (one g) (one h)) b))) f =
    let t = means_more_parameters n mid b in
    (record { line = line ts; name = text (behind ts) } ∷ t.0, grammar.some_given (grammar.listed (grammar.a_parameter g h) t.1) f)

means_definition : (ts rest : List Token) → Means (form a_def) ts rest → (d : Defined) × Definition ts d rest
means_definition ts rest (side (pair {mid = k} (pair {mid = n} (pair (pair (pair (one f) (one g)) (one {ts = us} h)) a) (one i)) b)) =
    let p = means_parameters us n a i in
    let s = means_block k rest b in
    (record { line = line ts; name = text (behind ts); parameters = p.0; body = s.0 }, grammar.definition f g h p.1 s.1)

means_definitions : (ts rest : List Token) → Means (many (form a_def)) ts rest → (ds : List Defined) × Definitions ts ds rest
means_definitions ts rest stop = ([], grammar.no_definition)
means_definitions ts rest (again {mid = m} a b) =
    let d = means_definition ts m a in
    let t = means_definitions m rest b in
    (d.0 ∷ t.0, grammar.definition_more d.1 t.1)

pub means_unit : (ts rest : List Token) → Means (form a_unit) ts rest → (ds : List Defined) × Definitions ts ds rest
means_unit ts rest (side a) = means_definitions ts rest a
