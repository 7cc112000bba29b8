-- Trees write the numbers of their tokens, and those behind them stay.
use Rattle.std.proofs.Common.{ℕ, List, [], ◌∷◌, Option, Some, None, refl}
use Rattle.flame_spec.specs.declared.trees.Parameter.{Parameter}
use Rattle.flame_spec.specs.declared.trees.Sign.{Sign}
use Rattle.flame_spec.specs.Trees.{Expression, Expressions, no_parts, part, Links, no_links, link, Stored, Indexed, Declared, Assigned, Statement, Statements, Arms}
use Rattle.flame_lex.specs.declared.token.Token.{Token}
use Rattle.flame_expr.specs.Lexemes.{text, value, line, behind}
use Rattle.flame_expr.specs.ExpressionGrammar.{named, field_of, with_signs, chained, all_parts, any_parts, Reads, a_unary, a_chain, a_conjunction, a_disjunction, Tail, no_link, a_link, Conjuncts, no_conjunct, a_conjunct, Disjuncts, no_disjunct, a_disjunct, Signs, no_sign, a_sign, Primary, a_number, a_name, a_field, a_get, in_brackets, Index, no_index, an_index, Bracketed, bracketed, Closed, closed}
use Rattle.flame_parse.specs.StatementGrammar.{Stores, an_expression, a_call, Initial, no_initial, an_initial, Place, placed, OneParameter, a_parameter, MoreParameters, no_parameter, parameter_more, SomeParameters, listed, Parameters, none_given, void_given, some_given, Item, an_item, MoreItems, no_item, item_more, Items, items, Declaration, declaration, Assignment, sets, steps_behind, steps_before, MoreArgs, no_arg, arg_more, Args, args, Called, no_args, some_args, AssignedTo, assigned_to, Simple, nothing, assigning, calling, returning, breaking, continuing, First, no_first, first_assign, first_decl, Test, no_test, a_test, Step, no_step, a_step, Heading, heading, Block, braces, Stmts, no_stmt, stmt_more, Stmt, declaring, blocking, branching, whiling, repeating, doing, looping, simply, Elses, no_else, else_if, an_else, Body, in_braces, one_simple, Defined, Definition, definition, Definitions, no_definition, definition_more}
use Rattle.flame_parse.specs.Parsing.{IsUnit}
use Rattle.flame_meaning.specs.RangeLaws.{IsInt, Each, IfAny, WritesInts, PartsWriteInts, LinksWriteInts, StoredWritesInts, AssignedWritesInts, StatementWritesInts, BodyWritesInts, ArmsWriteInts}
use Rattle.flame_load.proofs.WrittenTokens.{AreIntTokens}

-- ---- tokens

value_int : (ts : List Token) → AreIntTokens ts → IsInt (value ts)
value_int [] are = refl
value_int (token ∷ ts) are = are.0

behind_ints : (ts : List Token) → AreIntTokens ts → AreIntTokens (behind ts)
behind_ints [] are = tt
behind_ints (token ∷ ts) are = are.1

two_behind : (ts : List Token) → AreIntTokens ts → AreIntTokens (behind (behind ts))
two_behind ts are = behind_ints (behind ts) (behind_ints ts are)

three_behind : (ts : List Token) → AreIntTokens ts → AreIntTokens (behind (behind (behind ts)))
three_behind ts are = behind_ints (behind (behind ts)) (two_behind ts are)

-- ---- expressions

-- what stands in the brackets, where there are some
abbrev IndexWritesInts : Option Indexed → Type 0
IndexWritesInts s = IfAny (λ (subscript : Indexed). WritesInts subscript.index) s

signs_int : (ss : List Sign) (e : Expression) → WritesInts e → WritesInts (with_signs ss e)
signs_int [] e is = is
signs_int (s ∷ ss) e is = is

chained_int : (e : Expression) (ls : Links) → WritesInts e → LinksWriteInts ls → WritesInts (chained e ls)
chained_int e no_links is are = is
chained_int e (link op n right ls) is are = (is, are)

all_int : (e : Expression) (us : Expressions) → WritesInts e → PartsWriteInts us → WritesInts (all_parts e us)
all_int e no_parts is are = is
all_int e (part u us) is are = (is, are)

any_int : (e : Expression) (us : Expressions) → WritesInts e → PartsWriteInts us → WritesInts (any_parts e us)
any_int e no_parts is are = is
any_int e (part u us) is are = (is, are)

named_int : (n : ℕ) (word : List ℕ) (s : Option Indexed) → IndexWritesInts s → WritesInts (named n word s)
named_int n word None is = tt
named_int n word (Some s) is = is

field_int : (n : ℕ) (word variable : List ℕ) (s : Option Indexed) → IndexWritesInts s → WritesInts (field_of n word variable s)
field_int n word variable None is = tt
field_int n word variable (Some s) is = is

signs_leave : (ts rest : List Token) (ss : List Sign) → Signs ts ss rest → AreIntTokens ts → AreIntTokens rest
signs_leave ts rest ss no_sign are = are
signs_leave ts rest ss (a_sign {ss = more} s a) are = signs_leave (behind ts) rest more a (behind_ints ts are)

mutual
  pub read_ints : (k : ℕ) (ts rest : List Token) (e : Expression) → Reads k ts e rest → AreIntTokens ts → WritesInts e × AreIntTokens rest
  read_ints k ts rest e (a_unary {mid = m} {ss = ss} {e = u} a b) are =
      let i = primary_ints m rest u b (signs_leave ts m ss a are) in
      (signs_int ss u i.0, i.1)
  read_ints k ts rest e (a_chain {k = n} {mid = m} {e = u} {ls = ls} l a b) are =
      let i = read_ints n ts m u a are in
      let j = tail_ints n m rest ls b i.1 in
      (chained_int u ls i.0 j.0, j.1)
  read_ints k ts rest e (a_conjunction {k = n} {mid = m} {e = u} {us = us} l a b) are =
      let i = read_ints n ts m u a are in
      let j = conjuncts_ints m rest us b i.1 in
      (all_int u us i.0 j.0, j.1)
  read_ints k ts rest e (a_disjunction {k = n} {mid = m} {e = u} {us = us} l a b) are =
      let i = read_ints n ts m u a are in
      let j = disjuncts_ints m rest us b i.1 in
      (any_int u us i.0 j.0, j.1)

  tail_ints : (k : ℕ) (ts rest : List Token) (ls : Links) → Tail k ts ls rest → AreIntTokens ts → LinksWriteInts ls × AreIntTokens rest
  tail_ints k ts rest ls no_link are = (tt, are)
  tail_ints k ts rest ls (a_link {mid = m} {e = u} {ls = more} s a b) are =
      let i = read_ints k (behind ts) m u a (behind_ints ts are) in
      let j = tail_ints k m rest more b i.1 in
      ((i.0, j.0), j.1)

  conjuncts_ints : (ts rest : List Token) (us : Expressions) → Conjuncts ts us rest → AreIntTokens ts → PartsWriteInts us × AreIntTokens rest
  conjuncts_ints ts rest us no_conjunct are = (tt, are)
  conjuncts_ints ts rest us (a_conjunct {mid = m} {e = u} {us = more} s a b) are =
      let i = read_ints 4 (behind ts) m u a (behind_ints ts are) in
      let j = conjuncts_ints m rest more b i.1 in
      ((i.0, j.0), j.1)

  disjuncts_ints : (ts rest : List Token) (us : Expressions) → Disjuncts ts us rest → AreIntTokens ts → PartsWriteInts us × AreIntTokens rest
  disjuncts_ints ts rest us no_disjunct are = (tt, are)
  disjuncts_ints ts rest us (a_disjunct {mid = m} {e = u} {us = more} s a b) are =
      let i = read_ints 5 (behind ts) m u a (behind_ints ts are) in
      let j = disjuncts_ints m rest more b i.1 in
      ((i.0, j.0), j.1)

  primary_ints : (ts rest : List Token) (e : Expression) → Primary ts e rest → AreIntTokens ts → WritesInts e × AreIntTokens rest
  primary_ints ts rest e (a_number f) are = (value_int ts are, behind_ints ts are)
  primary_ints ts rest e (a_name {s = s} f a) are =
      let i = index_ints (behind ts) rest s a (behind_ints ts are) in
      (named_int (line ts) (text ts) s i.0, i.1)
  primary_ints ts rest e (a_field {s = s} f g h a) are =
      let i = index_ints (behind (behind (behind ts))) rest s a (three_behind ts are) in
      (field_int (line ts) (text ts) (text (behind (behind ts))) s i.0, i.1)
  primary_ints ts rest e (a_get f g h) are = (tt, three_behind ts are)
  primary_ints ts rest e (in_brackets a) are = bracketed_ints ts rest e a are

  pub index_ints : (ts rest : List Token) (s : Option Indexed) → Index ts s rest → AreIntTokens ts → IndexWritesInts s × AreIntTokens rest
  index_ints ts rest s no_index are = (tt, are)
  index_ints ts rest s (an_index {mid = m} {e = u} f a g) are =
      let i = read_ints 6 (behind ts) m u a (behind_ints ts are) in
      (i.0, behind_ints m i.1)

  pub bracketed_ints : (ts rest : List Token) (e : Expression) → Bracketed ts e rest → AreIntTokens ts → WritesInts e × AreIntTokens rest
  bracketed_ints ts rest e (bracketed f a) are = closed_ints (behind ts) rest e a (behind_ints ts are)

  closed_ints : (ts rest : List Token) (e : Expression) → Closed ts e rest → AreIntTokens ts → WritesInts e × AreIntTokens rest
  closed_ints ts rest e (closed {mid = m} a f) are =
      let i = read_ints 6 ts m e a are in
      (i.0, behind_ints m i.1)

-- ---- values and places

more_args_ints : (ts rest : List Token) (us : Expressions) → MoreArgs ts us rest → AreIntTokens ts → PartsWriteInts us × AreIntTokens rest
more_args_ints ts rest us no_arg are = (tt, are)
more_args_ints ts rest us (arg_more {mid = m} {e = u} {us = more} f a b) are =
    let i = read_ints 6 (behind ts) m u a (behind_ints ts are) in
    let j = more_args_ints m rest more b i.1 in
    ((i.0, j.0), j.1)

args_ints : (ts rest : List Token) (us : Expressions) → Args ts us rest → AreIntTokens ts → PartsWriteInts us × AreIntTokens rest
args_ints ts rest us (args {mid = m} {e = u} {us = more} a b) are =
    let i = read_ints 6 ts m u a are in
    let j = more_args_ints m rest more b i.1 in
    ((i.0, j.0), j.1)

stores_ints : (ts rest : List Token) (v : Stored) → Stores ts v rest → AreIntTokens ts → StoredWritesInts v × AreIntTokens rest
stores_ints ts rest v (an_expression {e = u} a) are = read_ints 6 ts rest u a are
stores_ints ts rest v (a_call {mid = m} {us = us} f g a c) are =
    let i = args_ints (behind (behind ts)) m us a (two_behind ts are) in
    (i.0, behind_ints m i.1)

initial_ints : (ts rest : List Token) (v : Option Stored) → Initial ts v rest → AreIntTokens ts → IfAny StoredWritesInts v × AreIntTokens rest
initial_ints ts rest v no_initial are = (tt, are)
initial_ints ts rest v (an_initial {v = u} f a) are = stores_ints (behind ts) rest u a (behind_ints ts are)

-- what a declared local begins with
abbrev DeclaredWritesInts : Declared → Type 0
DeclaredWritesInts item = IfAny StoredWritesInts item.value

item_ints : (ts rest : List Token) (d : Declared) → Item ts d rest → AreIntTokens ts → DeclaredWritesInts d × AreIntTokens rest
item_ints ts rest d (an_item {v = v} f a) are = initial_ints (behind ts) rest v a (behind_ints ts are)

more_items_ints : (ts rest : List Token) (ds : List Declared) → MoreItems ts ds rest → AreIntTokens ts → Each DeclaredWritesInts ds × AreIntTokens rest
more_items_ints ts rest ds no_item are = (tt, are)
more_items_ints ts rest ds (item_more {mid = m} {d = d} {ds = more} f a b) are =
    let i = item_ints (behind ts) m d a (behind_ints ts are) in
    let j = more_items_ints m rest more b i.1 in
    ((i.0, j.0), j.1)

items_ints : (ts rest : List Token) (ds : List Declared) → Items ts ds rest → AreIntTokens ts → Each DeclaredWritesInts ds × AreIntTokens rest
items_ints ts rest ds (items {mid = m} {d = d} {ds = more} a b) are =
    let i = item_ints ts m d a are in
    let j = more_items_ints m rest more b i.1 in
    ((i.0, j.0), j.1)

declaration_ints : (ts rest : List Token) (ds : List Declared) → Declaration ts ds rest → AreIntTokens ts → Each DeclaredWritesInts ds × AreIntTokens rest
declaration_ints ts rest ds (declaration f a) are = items_ints (behind ts) rest ds a (behind_ints ts are)

place_ints : (ts rest : List Token) (word : List ℕ) (s : Option Indexed) → Place ts word s rest → AreIntTokens ts → IndexWritesInts s × AreIntTokens rest
place_ints ts rest word s (placed f a) are = index_ints (behind ts) rest s a (behind_ints ts are)

assignment_ints : (ts rest : List Token) (a : Assigned) → Assignment ts a rest → AreIntTokens ts → AssignedWritesInts a × AreIntTokens rest
assignment_ints ts rest a (sets {mid = m} {word = word} {s = s} {v = v} p g r) are =
    let i = place_ints ts m word s p are in
    let j = stores_ints (behind m) rest v r (behind_ints m i.1) in
    ((i.0, j.0), j.1)
assignment_ints ts rest a (steps_behind {mid = m} {word = word} {s = s} p g) are =
    let i = place_ints ts m word s p are in
    ((i.0, refl), behind_ints m i.1)
assignment_ints ts rest a (steps_before {word = word} {s = s} g p) are =
    let i = place_ints (behind ts) rest word s p (behind_ints ts are) in
    ((i.0, refl), i.1)

called_ints : (ts rest : List Token) (us : Expressions) → Called ts us rest → AreIntTokens ts → PartsWriteInts us × AreIntTokens rest
called_ints ts rest us (no_args f) are = (tt, behind_ints ts are)
called_ints ts rest us (some_args {mid = m} a f) are =
    let i = args_ints ts m us a are in
    (i.0, behind_ints m i.1)

assigned_ints : (ts rest : List Token) (a : Assigned) → AssignedTo ts a rest → AreIntTokens ts → AssignedWritesInts a × AreIntTokens rest
assigned_ints ts rest a (assigned_to {mid = m} x f) are =
    let i = assignment_ints ts m a x are in
    (i.0, behind_ints m i.1)

-- ---- statements

simple_ints : (ts rest : List Token) (s : Statement) → Simple ts s rest → AreIntTokens ts → StatementWritesInts s × AreIntTokens rest
simple_ints ts rest s (nothing f) are = (tt, behind_ints ts are)
simple_ints ts rest s (assigning {a = a} x) are = assigned_ints ts rest a x are
simple_ints ts rest s (calling {mid = m} {us = us} f g a h) are =
    let i = called_ints (behind (behind ts)) m us a (two_behind ts are) in
    (i.0, behind_ints m i.1)
simple_ints ts rest s (returning {mid = m} {e = u} f a h) are =
    let i = read_ints 6 (behind ts) m u a (behind_ints ts are) in
    (i.0, behind_ints m i.1)
simple_ints ts rest s (breaking f g) are = (tt, two_behind ts are)
simple_ints ts rest s (continuing f g) are = (tt, two_behind ts are)

first_ints : (ts rest : List Token) (ss : Statements) → First ts ss rest → AreIntTokens ts → BodyWritesInts ss × AreIntTokens rest
first_ints ts rest ss (no_first f) are = (tt, behind_ints ts are)
first_ints ts rest ss (first_assign {a = a} x) are =
    let i = assigned_ints ts rest a x are in
    ((i.0, tt), i.1)
first_ints ts rest ss (first_decl {mid = m} {ds = ds} x f) are =
    let i = declaration_ints ts m ds x are in
    ((i.0, tt), behind_ints m i.1)

test_ints : (ts rest : List Token) (e : Option Expression) → Test ts e rest → AreIntTokens ts → IfAny WritesInts e × AreIntTokens rest
test_ints ts rest e (no_test f) are = (tt, behind_ints ts are)
test_ints ts rest e (a_test {mid = m} {e = u} x f) are =
    let i = read_ints 6 ts m u x are in
    (i.0, behind_ints m i.1)

step_ints : (ts rest : List Token) (a : Option Assigned) → Step ts a rest → AreIntTokens ts → IfAny AssignedWritesInts a × AreIntTokens rest
step_ints ts rest a (no_step f) are = (tt, behind_ints ts are)
step_ints ts rest a (a_step {mid = m} {a = b} x f) are =
    let i = assignment_ints ts m b x are in
    (i.0, behind_ints m i.1)

-- the head of a loop, and what is behind it
record HeadInts (fs : Statements) (e : Option Expression) (a : Option Assigned) (rest : List Token) : Type 0 where
  starts : BodyWritesInts fs
  tests : IfAny WritesInts e
  steps : IfAny AssignedWritesInts a
  leaves : AreIntTokens rest

heading_ints : (ts rest : List Token) (fs : Statements) (e : Option Expression) (a : Option Assigned) → Heading ts fs e a rest → AreIntTokens ts → HeadInts fs e a rest
heading_ints ts rest fs e a (heading {l = l} {m = m} f x y z) are =
    let i = first_ints (behind ts) l fs x (behind_ints ts are) in
    let j = test_ints l m e y i.1 in
    let k = step_ints m rest a z j.1 in
    record { starts = i.0; tests = j.0; steps = k.0; leaves = k.1 }

-- tests with their bodies, and the last body
record ArmsInts (tests : Arms) (otherwise : Statements) (rest : List Token) : Type 0 where
  arms : ArmsWriteInts tests
  last : BodyWritesInts otherwise
  leaves : AreIntTokens rest

mutual
  pub block_ints : (ts rest : List Token) (ss : Statements) → Block ts ss rest → AreIntTokens ts → BodyWritesInts ss × AreIntTokens rest
  block_ints ts rest ss (braces {mid = m} f a g) are =
      let i = statements_ints (behind ts) m ss a (behind_ints ts are) in
      (i.0, behind_ints m i.1)

  statements_ints : (ts rest : List Token) (ss : Statements) → Stmts ts ss rest → AreIntTokens ts → BodyWritesInts ss × AreIntTokens rest
  statements_ints ts rest ss no_stmt are = (tt, are)
  statements_ints ts rest ss (stmt_more {mid = m} {s = s} {ss = more} a b) are =
      let i = statement_ints ts m s a are in
      let j = statements_ints m rest more b i.1 in
      ((i.0, j.0), j.1)

  statement_ints : (ts rest : List Token) (s : Statement) → Stmt ts s rest → AreIntTokens ts → StatementWritesInts s × AreIntTokens rest
  statement_ints ts rest s (declaring {mid = m} {ds = ds} a f) are =
      let i = declaration_ints ts m ds a are in
      (i.0, behind_ints m i.1)
  statement_ints ts rest s (blocking {ss = ss} a) are = block_ints ts rest ss a are
  statement_ints ts rest s (branching {m = m} {n = n} {e = e} {ss = ss} {os = os} {as' = more} f a b c) are =
      let i = bracketed_ints (behind ts) m e a (behind_ints ts are) in
      let j = body_ints m n ss b i.1 in
      let k = elses_ints n rest more os c j.1 in
      (((i.0, j.0, k.arms), k.last), k.leaves)
  statement_ints ts rest s (whiling {m = m} {e = e} {ss = ss} f a b) are =
      let i = bracketed_ints (behind ts) m e a (behind_ints ts are) in
      let j = body_ints m rest ss b i.1 in
      ((i.0, j.0), j.1)
  statement_ints ts rest s (repeating {m = m} {fs = fs} {ss = ss} {e = e} {a = a} f x b) are =
      let i = heading_ints (behind ts) m fs e a x (behind_ints ts are) in
      let j = body_ints m rest ss b i.leaves in
      ((i.starts, i.tests, i.steps, j.0), j.1)
  statement_ints ts rest s (doing {m = m} {n = n} {e = e} {ss = ss} f a g b h) are =
      let i = body_ints (behind ts) m ss a (behind_ints ts are) in
      let j = bracketed_ints (behind m) n e b (behind_ints m i.1) in
      ((i.0, j.0), behind_ints n j.1)
  statement_ints ts rest s (looping {m = m} {ss = ss} f a g) are =
      let i = statements_ints (behind ts) m ss a (behind_ints ts are) in
      (i.0, behind_ints m i.1)
  statement_ints ts rest s (simply {s = x} a) are = simple_ints ts rest x a are

  elses_ints : (ts rest : List Token) (tests : Arms) (otherwise : Statements) → Elses ts tests otherwise rest → AreIntTokens ts → ArmsInts tests otherwise rest
  elses_ints ts rest tests otherwise no_else are = record { arms = tt; last = tt; leaves = are }
  elses_ints ts rest tests otherwise (else_if {m = m} {n = n} {e = e} {ss = ss} {os = os} {as' = more} f g a b c) are =
      let i = bracketed_ints (behind (behind ts)) m e a (two_behind ts are) in
      let j = body_ints m n ss b i.1 in
      let k = elses_ints n rest more os c j.1 in
      record { arms = (i.0, j.0, k.arms); last = k.last; leaves = k.leaves }
  elses_ints ts rest tests otherwise (an_else {ss = ss} f a) are =
      let i = body_ints (behind ts) rest ss a (behind_ints ts are) in
      record { arms = tt; last = i.0; leaves = i.1 }

  body_ints : (ts rest : List Token) (ss : Statements) → Body ts ss rest → AreIntTokens ts → BodyWritesInts ss × AreIntTokens rest
  body_ints ts rest ss (in_braces a) are = block_ints ts rest ss a are
  body_ints ts rest ss (one_simple {s = s} a) are =
      let i = simple_ints ts rest s a are in
      ((i.0, tt), i.1)

-- ---- function files

parameter_leaves : (ts rest : List Token) (p : Parameter) → OneParameter ts p rest → AreIntTokens ts → AreIntTokens rest
parameter_leaves ts rest p (a_parameter f g) are = two_behind ts are

more_parameters_leave : (ts rest : List Token) (ps : List Parameter) → MoreParameters ts ps rest → AreIntTokens ts → AreIntTokens rest
more_parameters_leave ts rest ps no_parameter are = are
more_parameters_leave ts rest ps (parameter_more {mid = m} {p = p} {ps = more} f a b) are =
    more_parameters_leave m rest more b (parameter_leaves (behind ts) m p a (behind_ints ts are))

some_parameters_leave : (ts rest : List Token) (ps : List Parameter) → SomeParameters ts ps rest → AreIntTokens ts → AreIntTokens rest
some_parameters_leave ts rest ps (listed {mid = m} {p = p} {ps = more} a b) are =
    more_parameters_leave m rest more b (parameter_leaves ts m p a are)

parameters_leave : (ts rest : List Token) (ps : List Parameter) → Parameters ts ps rest → AreIntTokens ts → AreIntTokens rest
parameters_leave ts rest ps (none_given f) are = behind_ints ts are
parameters_leave ts rest ps (void_given f g) are = two_behind ts are
parameters_leave ts rest ps (some_given {mid = m} a f) are = behind_ints m (some_parameters_leave ts m ps a are)

definition_ints : (ts rest : List Token) (d : Defined) → Definition ts d rest → AreIntTokens ts → BodyWritesInts d.body × AreIntTokens rest
definition_ints ts rest d (definition {mid = m} {ps = ps} {ss = ss} f g h a b) are =
    block_ints m rest ss b (parameters_leave (behind (behind (behind ts))) m ps a (three_behind ts are))

definitions_ints : (ts rest : List Token) (ds : List Defined) → Definitions ts ds rest → AreIntTokens ts → Each (λ (d : Defined). BodyWritesInts d.body) ds
definitions_ints ts rest ds no_definition are = tt
definitions_ints ts rest ds (definition_more {mid = m} {d = d} {ds = more} a b) are =
    let i = definition_ints ts m d a are in
    (i.0, definitions_ints m rest more b i.1)

-- function files write the numbers of their tokens
pub unit_ints : (tokens : List Token) (ds : List Defined) → AreIntTokens tokens → IsUnit tokens ds → Each (λ (d : Defined). BodyWritesInts d.body) ds
unit_ints tokens ds are unit = definitions_ints tokens [] ds unit are
