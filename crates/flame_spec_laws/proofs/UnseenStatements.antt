-- Statements that are seen as the same are the same.
use Rattle.std.proofs.Common.{◌≡◌, refl, sym, ap, ◌∙◌, List, [], ◌∷◌, map, subst, Option, Some, None}
use Rattle.std.specs.Prelude.{option_map}
use Rattle.flame_spec.specs.declared.trees.Subscript.{Subscript}
use Rattle.flame_spec.specs.declared.trees.Value.{Value}
use Rattle.flame_spec.specs.declared.trees.Value.TheVariants.{Plain, Call}
use Rattle.flame_spec.specs.declared.trees.Item.{Item}
use Rattle.flame_spec.specs.declared.trees.Assign as assignment
use Rattle.flame_spec.specs.declared.trees.Arm.{Arm}
use Rattle.flame_spec.specs.declared.trees.Head.{Head}
use Rattle.flame_spec.specs.declared.trees.Stmt as form
use Rattle.flame_spec.specs.declared.trees.Stmt.{Stmt, roll-Stmt, ind-Stmt, map-Stmt}
use Rattle.flame_spec.specs.declared.trees.Stmt.TheVariants.{rolls-Empty, rolls-Declare, rolls-Assign, rolls-Call}
use Rattle.flame_spec.specs.declared.trees.Stmt.TheVariants.{rolls-Block, rolls-If, rolls-While, rolls-For, rolls-Do}
use Rattle.flame_spec.specs.declared.trees.Stmt.TheVariants.{rolls-Loop, rolls-Return, rolls-Break, rolls-Continue}
use Rattle.flame_spec.specs.declared.trees.Stmt.TheOpen.{Stmt-F}
use Rattle.flame_spec.specs.Trees.{Stored, plain, called, Indexed, Declared, Assigned}
use Rattle.flame_spec.specs.Trees.{Statement, empty, declare, assign, call, block, branch, while, for, do_while}
use Rattle.flame_spec.specs.Trees.{loop_over, return}
use Rattle.flame_spec.specs.Trees.{break, continue, Statements, no_more, also, Arms, no_arms, arm}
use Rattle.flame_spec.specs.Seen.{expression, indexed, stored, declared, assigned, statement, statements, tested}
use Rattle.flame_spec.specs.Seen.{statements_of, arms_of}
use Rattle.flame_spec.proofs.SeenForms.{statement-Empty, statement-Declare, statement-Assign, statement-Call}
use Rattle.flame_spec.proofs.SeenForms.{statement-Block}
use Rattle.flame_spec.proofs.SeenForms.{statement-If, statement-While, statement-For, statement-Do, statement-Loop}
use Rattle.flame_spec.proofs.SeenForms.{statement-Return, statement-Break, statement-Continue}
use Rattle.flame_spec_laws.proofs.Unseen.{data_of, parts_data, all_parts_back, expression_back, expression_forth, parts_forth}

-- ---- what stands in statements

stored_data : Stored → Value
stored_data (plain e) = Plain (data_of e)
stored_data (called line word arguments) = Call line word (parts_data arguments)

stored_back : (v : Value) → stored_data (stored v) ≡ v
unfolding stored_data
stored_back (Plain e) = ap Plain (expression_back e)
stored_back (Call line word arguments) = ap (Call line word) (all_parts_back arguments)

option_back : {X Y : Type 0} (there : X → Y) (back : Y → X) → ((x : X) → back (there x) ≡ x) → (o : Option X)
    → option_map back (option_map there o) ≡ o
option_back there back same None = refl
option_back there back same (Some x) = ap Some (same x)

item_data : Declared → Item
item_data d = record { line = d.line; name = d.name; value = option_map stored_data d.value }

items_back : (items : List Item) → map item_data (map declared items) ≡ items
unfolding item_data
items_back [] = refl
items_back (item ∷ items) =
    λ i. record {
      line = item.line;
      name = item.name;
      value = option_back stored stored_data stored_back item.value i;
    } ∷ items_back items i

index_data : Indexed → Subscript
index_data s = record { line = s.line; index = data_of s.index }

index_back : (s : Subscript) → index_data (indexed s) ≡ s
unfolding index_data
index_back s = λ i. record { line = s.line; index = expression_back s.index i }

assign_data : Assigned → assignment.Assign
assign_data a = record {
  line = a.line;
  name = a.name;
  subscript = option_map index_data a.subscript;
  op = a.op;
  op_line = a.op_line;
  value = stored_data a.value;
}

assign_back : (a : assignment.Assign) → assign_data (assigned a) ≡ a
unfolding assign_data
assign_back a = λ i. record {
  line = a.line;
  name = a.name;
  subscript = option_back indexed index_data index_back a.subscript i;
  op = a.op;
  op_line = a.op_line;
  value = stored_back a.value i;
}

-- ---- statements

mutual
  pub stmt_of : Statement → Stmt
  stmt_of empty = form.Empty
  stmt_of (declare items) = form.Declare (map item_data items)
  stmt_of (assign a) = form.Assign (assign_data a)
  stmt_of (call line word arguments) = form.Call line word (parts_data arguments)
  stmt_of (block body) = form.Block (stmts_of body)
  stmt_of (branch tests otherwise) = form.If (arms_data tests) (stmts_of otherwise)
  stmt_of (while line test body) = form.While line (data_of test) (stmts_of body)
  stmt_of (for line first test step body) =
      form.For line
      (record { first = stmts_of first; test = option_map data_of test; step = option_map assign_data step })
      (stmts_of body)
  stmt_of (do_while line body test) = form.Do line (stmts_of body) (data_of test)
  stmt_of (loop_over line word body end_line end_word) = form.Loop line word (stmts_of body) end_line end_word
  stmt_of (return e) = form.Return (data_of e)
  stmt_of (break line) = form.Break line
  stmt_of (continue line) = form.Continue line

  pub stmts_of : Statements → List Stmt
  stmts_of no_more = []
  stmts_of (also s more) = stmt_of s ∷ stmts_of more

  pub arms_data : Arms → List Arm
  arms_data no_arms = []
  arms_data (arm test body more) = record { test = data_of test; body = stmts_of body } ∷ arms_data more

abbrev Back : Stmt → Type 0
Back s = stmt_of (statement s) ≡ s

abbrev BackArm : Arm → Type 0
BackArm a = stmts_of (statements a.body) ≡ a.body

abbrev BackHead : Head → Type 0
BackHead h = stmts_of (statements h.first) ≡ h.first

stmts_back :
    (ps : List ((s : Stmt) × Back s))
    → stmts_of (statements_of (map statement (map (λ p. p.0) ps))) ≡ map (λ p. p.0) ps
unfolding stmt_of
stmts_back [] = refl
stmts_back (p ∷ ps) = λ i. p.1 i ∷ stmts_back ps i

arms_back :
    (ps : List ((a : Arm) × BackArm a))
    → arms_data (arms_of (map tested (map (λ p. p.0) ps))) ≡ map (λ p. p.0) ps
unfolding stmt_of
arms_back [] = refl
arms_back (p ∷ ps) = λ i. record { test = expression_back p.0.test i; body = p.1 i } ∷ arms_back ps i

abbrev firsts :
    Stmt-F ((s : Stmt) × Back s) ((a : Arm) × BackArm a) ((h : Head) × BackHead h)
    → Stmt-F Stmt Arm Head
firsts =
    map-Stmt ((s : Stmt) × Back s) ((a : Arm) × BackArm a) ((h : Head) × BackHead h) Stmt Arm Head
    (λ p. p.0) (λ a. a.0) (λ h. h.0)

layer_back :
    (y : Stmt-F ((s : Stmt) × Back s) ((a : Arm) × BackArm a) ((h : Head) × BackHead h))
    → Back (roll-Stmt (firsts y))
unfolding stmt_of
layer_back Stmt-F.Empty = subst Back (sym rolls-Empty) (ap stmt_of statement-Empty)
layer_back (Stmt-F.Declare items) =
    subst Back (sym (rolls-Declare items)) (ap stmt_of (statement-Declare items) ∙ ap form.Declare (items_back items))
layer_back (Stmt-F.Assign a) =
    subst Back (sym (rolls-Assign a)) (ap stmt_of (statement-Assign a) ∙ ap form.Assign (assign_back a))
layer_back (Stmt-F.Call line word arguments) =
    subst Back (sym (rolls-Call line word arguments))
    (ap stmt_of (statement-Call line word arguments) ∙ ap (form.Call line word) (all_parts_back arguments))
layer_back (Stmt-F.Block body) =
    subst Back (sym (rolls-Block (map (λ p. p.0) body)))
    (ap stmt_of (statement-Block (map (λ p. p.0) body)) ∙ ap form.Block (stmts_back body))
layer_back (Stmt-F.If tests otherwise) =
    subst Back (sym (rolls-If (map (λ p. p.0) tests) (map (λ p. p.0) otherwise)))
    (ap stmt_of (statement-If (map (λ p. p.0) tests) (map (λ p. p.0) otherwise))
    ∙ λ i. form.If (arms_back tests i) (stmts_back otherwise i))
layer_back (Stmt-F.While line test body) =
    subst Back (sym (rolls-While line test (map (λ p. p.0) body)))
    (ap stmt_of (statement-While line test (map (λ p. p.0) body))
    ∙ λ i. form.While line (expression_back test i) (stmts_back body i))
layer_back (Stmt-F.For line head body) =
    subst Back (sym (rolls-For line head.0 (map (λ p. p.0) body)))
    (ap stmt_of (statement-For line head.0 (map (λ p. p.0) body))
    ∙ λ i. form.For line (record {
      first = head.1 i;
      test = option_back expression data_of expression_back head.0.test i;
      step = option_back assigned assign_data assign_back head.0.step i;
    }) (stmts_back body i))
layer_back (Stmt-F.Do line body test) =
    subst Back (sym (rolls-Do line (map (λ p. p.0) body) test))
    (ap stmt_of (statement-Do line (map (λ p. p.0) body) test)
    ∙ λ i. form.Do line (stmts_back body i) (expression_back test i))
layer_back (Stmt-F.Loop line word body end_line end_word) =
    subst Back (sym (rolls-Loop line word (map (λ p. p.0) body) end_line end_word))
    (ap stmt_of (statement-Loop line word (map (λ p. p.0) body) end_line end_word)
    ∙ λ i. form.Loop line word (stmts_back body i) end_line end_word)
layer_back (Stmt-F.Return e) =
    subst Back (sym (rolls-Return e)) (ap stmt_of (statement-Return e) ∙ ap form.Return (expression_back e))
layer_back (Stmt-F.Break line) = subst Back (sym (rolls-Break line)) (ap stmt_of (statement-Break line))
layer_back (Stmt-F.Continue line) = subst Back (sym (rolls-Continue line)) (ap stmt_of (statement-Continue line))

-- a statement is what its tree stands for
pub statement_back : (s : Stmt) → stmt_of (statement s) ≡ s
statement_back =
    ind-Stmt Back BackArm BackHead
    (λ x y e. subst (λ z. Back (roll-Stmt z)) e (layer_back y))
    (λ x y e. subst (λ body. stmts_of (statements body) ≡ body) (λ i. (e i).body) (stmts_back y.body))
    (λ x y e. subst (λ first. stmts_of (statements first) ≡ first) (λ i. (e i).first) (stmts_back y.first))

-- statements that are seen as the same are the same
pub statement_tells : (a b : Stmt) → statement a ≡ statement b → a ≡ b
statement_tells a b e = sym (statement_back a) ∙ (ap stmt_of e ∙ statement_back b)

-- ---- trees are what their statements are seen as

stored_forth : (v : Stored) → stored (stored_data v) ≡ v
unfolding stored_data
stored_forth (plain e) = ap plain (expression_forth e)
stored_forth (called line word arguments) = ap (called line word) (parts_forth arguments)

items_forth : (items : List Declared) → map declared (map item_data items) ≡ items
unfolding item_data
items_forth [] = refl
items_forth (item ∷ items) =
    λ i. record {
      line = item.line;
      name = item.name;
      value = option_back stored_data stored stored_forth item.value i;
    } ∷ items_forth items i

index_forth : (s : Indexed) → indexed (index_data s) ≡ s
unfolding index_data
index_forth s = λ i. record { line = s.line; index = expression_forth s.index i }

assign_forth : (a : Assigned) → assigned (assign_data a) ≡ a
unfolding assign_data
assign_forth a = λ i. record {
  line = a.line;
  name = a.name;
  subscript = option_back index_data indexed index_forth a.subscript i;
  op = a.op;
  op_line = a.op_line;
  value = stored_forth a.value i;
}

mutual
  unfolding stmt_of

  statement_forth : (x : Statement) → statement (stmt_of x) ≡ x
  statement_forth empty = statement-Empty
  statement_forth (declare items) = statement-Declare (map item_data items) ∙ ap declare (items_forth items)
  statement_forth (assign a) = statement-Assign (assign_data a) ∙ ap assign (assign_forth a)
  statement_forth (call line word arguments) =
      statement-Call line word (parts_data arguments) ∙ ap (call line word) (parts_forth arguments)
  statement_forth (block body) = statement-Block (stmts_of body) ∙ ap block (statements_forth body)
  statement_forth (branch tests otherwise) =
      statement-If (arms_data tests) (stmts_of otherwise)
      ∙ λ i. branch (arms_forth tests i) (statements_forth otherwise i)
  statement_forth (while line test body) =
      statement-While line (data_of test) (stmts_of body)
      ∙ λ i. while line (expression_forth test i) (statements_forth body i)
  statement_forth (for line first test step body) =
      statement-For line
      (record { first = stmts_of first; test = option_map data_of test; step = option_map assign_data step })
      (stmts_of body)
      ∙ λ i. for line (statements_forth first i)
      (option_back data_of expression expression_forth test i)
      (option_back assign_data assigned assign_forth step i)
      (statements_forth body i)
  statement_forth (do_while line body test) =
      statement-Do line (stmts_of body) (data_of test)
      ∙ λ i. do_while line (statements_forth body i) (expression_forth test i)
  statement_forth (loop_over line word body end_line end_word) =
      statement-Loop line word (stmts_of body) end_line end_word
      ∙ λ i. loop_over line word (statements_forth body i) end_line end_word
  statement_forth (return e) = statement-Return (data_of e) ∙ ap return (expression_forth e)
  statement_forth (break line) = statement-Break line
  statement_forth (continue line) = statement-Continue line

  pub statements_forth : (x : Statements) → statements (stmts_of x) ≡ x
  statements_forth no_more = refl
  statements_forth (also s more) = λ i. also (statement_forth s i) (statements_forth more i)

  arms_forth : (x : Arms) → arms_of (map tested (arms_data x)) ≡ x
  arms_forth no_arms = refl
  arms_forth (arm test body more) = λ i. arm (expression_forth test i) (statements_forth body i) (arms_forth more i)
