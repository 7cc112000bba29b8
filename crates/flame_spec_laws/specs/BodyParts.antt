-- Where the parts of a function's body stand, and what each of them sees.
use Rattle.std.specs.Prelude.{◌≡◌, ℕ, List, [], ◌∷◌, Option, Some, None}
use Rattle.flame_ops.specs.declared.integers.Op.{Op}
use Rattle.flame_spec.specs.declared.models.Variable.{Variable}
use Rattle.flame_spec.specs.declared.trees.Parameter.{Parameter}
use Rattle.flame_spec.specs.declared.trees.Sign.{Sign}
use Rattle.flame_spec.specs.Trees.{Expression, field_at, signed, chain, all_of, any_of, Expressions, part, Links, link}
use Rattle.flame_spec.specs.Trees.{Stored, plain, called, Indexed, Declared, Assigned}
use Rattle.flame_spec.specs.Trees.{at as element}
use Rattle.flame_spec.specs.Trees.{Statement, declare, assign, call, block, branch, while, for, do_while, loop_over}
use Rattle.flame_spec.specs.Trees.{return}
use Rattle.flame_spec.specs.Trees.{Statements, also, Arms, arm}
use Rattle.flame_spec.specs.LookUps.{message_looped}
use Rattle.flame_spec.specs.Scopes.{Context, over_none, Sight, in_scope, in_loop, in_value_of, after_name, after}
use Rattle.flame_spec.specs.Scopes.{after_all}
use Rattle.flame_spec.specs.Scopes.{messages_at}
use Rattle.flame_spec.specs.CallFaults.{Deed, deed_of, places_of}
use Rattle.flame_spec.specs.StatementFaults.{opened}

-- a part of a C function: an expression, expressions, the operands of a chain; the arguments of the call of a word on a
-- line, each for its variable, and an argument for an array of a length; what is stored, an assignment, items of a
-- declaration; a statement, statements, tests with their bodies; parameters with the body behind them [own]
pub data Part : Type 0 where
  value : Expression → Part
  values : Expressions → Part
  operands : Links → Part
  giving : ℕ → List ℕ → List Variable → Expressions → Part
  whole : ℕ → List ℕ → ℕ → Expression → Part
  storing : Stored → Part
  assigning : Assigned → Part
  declaring : List Declared → Part
  doing : Statement → Part
  sequence : Statements → Part
  tests : Arms → Part
  defining : List Parameter → Statements → Part

-- the part stands in another part, or is it: it sees `there` where the other one sees `here`. Of two places no part is
-- told, since files without check faults have none there: inside an argument for an array, which is a name or
-- `word->variable`, and in the arguments of a call statement that does nothing [own]
pub data StandsIn (at : Context) (inner : Part) (there : Sight) : Part → Sight → Type 0 where
  itself : StandsIn at inner there inner there
  -- expressions
  element_index :
      {here : Sight} (line : ℕ) (word : List ℕ) (index_line : ℕ) (index : Expression)
      → StandsIn at inner there (value index) here
      → StandsIn at inner there (value (element line word index_line index)) here
  field_index :
      {here : Sight} (line : ℕ) (word variable : List ℕ) (index_line : ℕ) (index : Expression)
      → StandsIn at inner there (value index) here
      → StandsIn at inner there (value (field_at line word variable index_line index)) here
  under_signs :
      {here : Sight} (signs : List Sign) (e : Expression)
      → StandsIn at inner there (value e) here
      → StandsIn at inner there (value (signed signs e)) here
  chain_begin :
      {here : Sight} (e : Expression) (more : Links)
      → StandsIn at inner there (value e) here
      → StandsIn at inner there (value (chain e more)) here
  chain_more :
      {here : Sight} (e : Expression) (more : Links)
      → StandsIn at inner there (operands more) here
      → StandsIn at inner there (value (chain e more)) here
  all_part :
      {here : Sight} (parts : Expressions)
      → StandsIn at inner there (values parts) here
      → StandsIn at inner there (value (all_of parts)) here
  any_part :
      {here : Sight} (parts : Expressions)
      → StandsIn at inner there (values parts) here
      → StandsIn at inner there (value (any_of parts)) here
  first_value :
      {here : Sight} (e : Expression) (more : Expressions)
      → StandsIn at inner there (value e) here
      → StandsIn at inner there (values (part e more)) here
  later_value :
      {here : Sight} (e : Expression) (more : Expressions)
      → StandsIn at inner there (values more) here
      → StandsIn at inner there (values (part e more)) here
  first_operand :
      {here : Sight} (op : Op) (line : ℕ) (e : Expression) (more : Links)
      → StandsIn at inner there (value e) here
      → StandsIn at inner there (operands (link op line e more)) here
  later_operand :
      {here : Sight} (op : Op) (line : ℕ) (e : Expression) (more : Links)
      → StandsIn at inner there (operands more) here
      → StandsIn at inner there (operands (link op line e more)) here
  -- arguments
  single_argument :
      {here : Sight} (line : ℕ) (word : List ℕ) (variable : Variable) (variables : List Variable) (e : Expression)
      (more : Expressions)
      → variable.length ≡ None
      → StandsIn at inner there (value e) here
      → StandsIn at inner there (giving line word (variable ∷ variables) (part e more)) here
  array_argument :
      {here : Sight} (line : ℕ) (word : List ℕ) (variable : Variable) (variables : List Variable) (e : Expression)
      (more : Expressions) (length : ℕ)
      → variable.length ≡ Some length
      → StandsIn at inner there (whole line word length e) here
      → StandsIn at inner there (giving line word (variable ∷ variables) (part e more)) here
  later_argument :
      {here : Sight} (line : ℕ) (word : List ℕ) (variable : Variable) (variables : List Variable) (e : Expression)
      (more : Expressions)
      → StandsIn at inner there (giving line word variables more) here
      → StandsIn at inner there (giving line word (variable ∷ variables) (part e more)) here
  plain_argument :
      {here : Sight} (line : ℕ) (word : List ℕ) (arguments : Expressions)
      → StandsIn at inner there (values arguments) here
      → StandsIn at inner there (giving line word [] arguments) here
  -- what is stored
  plain_value :
      {here : Sight} (e : Expression)
      → StandsIn at inner there (value e) here
      → StandsIn at inner there (storing (plain e)) here
  called_argument :
      {here : Sight} (line : ℕ) (word : List ℕ) (arguments : Expressions)
      → StandsIn at inner there (values arguments) here
      → StandsIn at inner there (storing (called line word arguments)) here
  -- assignments and declarations
  assigned_index :
      {here : Sight} (a : Assigned) (subscript : Indexed)
      → a.subscript ≡ Some subscript
      → StandsIn at inner there (value subscript.index) here
      → StandsIn at inner there (assigning a) here
  assigned_value :
      {here : Sight} (a : Assigned)
      → StandsIn at inner there (storing a.value) here
      → StandsIn at inner there (assigning a) here
  item_value :
      {here : Sight} (item : Declared) (items : List Declared) (stored : Stored)
      → item.value ≡ Some stored
      → StandsIn at inner there (storing stored) (in_value_of item.name here)
      → StandsIn at inner there (declaring (item ∷ items)) here
  later_item :
      {here : Sight} (item : Declared) (items : List Declared)
      → StandsIn at inner there (declaring items) (after_name here item.name)
      → StandsIn at inner there (declaring (item ∷ items)) here
  -- statements
  declaration :
      {here : Sight} (items : List Declared)
      → StandsIn at inner there (declaring items) here
      → StandsIn at inner there (doing (declare items)) here
  assignment :
      {here : Sight} (a : Assigned)
      → StandsIn at inner there (assigning a) here
      → StandsIn at inner there (doing (assign a)) here
  call_argument :
      {here : Sight} (line : ℕ) (word : List ℕ) (arguments : Expressions) (deed : Deed)
      → deed_of at word ≡ Some deed
      → StandsIn at inner there (giving line word (places_of deed) arguments) here
      → StandsIn at inner there (doing (call line word arguments)) here
  block_body :
      {here : Sight} (body : Statements)
      → StandsIn at inner there (sequence body) (in_scope here)
      → StandsIn at inner there (doing (block body)) here
  branch_arm :
      {here : Sight} (arms : Arms) (otherwise : Statements)
      → StandsIn at inner there (tests arms) here
      → StandsIn at inner there (doing (branch arms otherwise)) here
  branch_otherwise :
      {here : Sight} (arms : Arms) (otherwise : Statements)
      → StandsIn at inner there (sequence otherwise) (in_scope here)
      → StandsIn at inner there (doing (branch arms otherwise)) here
  while_test :
      {here : Sight} (line : ℕ) (test : Expression) (body : Statements)
      → StandsIn at inner there (value test) here
      → StandsIn at inner there (doing (while line test body)) here
  while_body :
      {here : Sight} (line : ℕ) (test : Expression) (body : Statements)
      → StandsIn at inner there (sequence body) (in_loop over_none here)
      → StandsIn at inner there (doing (while line test body)) here
  for_first :
      {here : Sight} (line : ℕ) (first : Statements) (test : Option Expression) (step : Option Assigned)
      (body : Statements)
      → StandsIn at inner there (sequence first) (in_scope here)
      → StandsIn at inner there (doing (for line first test step body)) here
  for_test :
      {here : Sight} (line : ℕ) (first : Statements) (test : Expression) (step : Option Assigned) (body : Statements)
      → StandsIn at inner there (value test) (after_all (in_scope here) first)
      → StandsIn at inner there (doing (for line first (Some test) step body)) here
  for_step :
      {here : Sight} (line : ℕ) (first : Statements) (test : Option Expression) (step : Assigned) (body : Statements)
      → StandsIn at inner there (assigning step) (after_all (in_scope here) first)
      → StandsIn at inner there (doing (for line first test (Some step) body)) here
  for_body :
      {here : Sight} (line : ℕ) (first : Statements) (test : Option Expression) (step : Option Assigned)
      (body : Statements)
      → StandsIn at inner there (sequence body) (in_loop over_none (after_all (in_scope here) first))
      → StandsIn at inner there (doing (for line first test step body)) here
  do_body :
      {here : Sight} (line : ℕ) (body : Statements) (test : Expression)
      → StandsIn at inner there (sequence body) (in_loop over_none here)
      → StandsIn at inner there (doing (do_while line body test)) here
  do_test :
      {here : Sight} (line : ℕ) (body : Statements) (test : Expression)
      → StandsIn at inner there (value test) here
      → StandsIn at inner there (doing (do_while line body test)) here
  loop_body :
      {here : Sight} (line : ℕ) (word : List ℕ) (body : Statements) (end_line : ℕ) (end_word : List ℕ)
      → StandsIn at inner there (sequence body) (in_loop (opened (message_looped (messages_at at) word)) here)
      → StandsIn at inner there (doing (loop_over line word body end_line end_word)) here
  returned :
      {here : Sight} (e : Expression)
      → StandsIn at inner there (value e) here
      → StandsIn at inner there (doing (return e)) here
  -- statements in order
  first_statement :
      {here : Sight} (statement : Statement) (more : Statements)
      → StandsIn at inner there (doing statement) here
      → StandsIn at inner there (sequence (also statement more)) here
  later_statement :
      {here : Sight} (statement : Statement) (more : Statements)
      → StandsIn at inner there (sequence more) (after here statement)
      → StandsIn at inner there (sequence (also statement more)) here
  -- the tests of an `if` with their bodies
  arm_test :
      {here : Sight} (test : Expression) (body : Statements) (more : Arms)
      → StandsIn at inner there (value test) here
      → StandsIn at inner there (tests (arm test body more)) here
  arm_body :
      {here : Sight} (test : Expression) (body : Statements) (more : Arms)
      → StandsIn at inner there (sequence body) (in_scope here)
      → StandsIn at inner there (tests (arm test body more)) here
  later_arm :
      {here : Sight} (test : Expression) (body : Statements) (more : Arms)
      → StandsIn at inner there (tests more) here
      → StandsIn at inner there (tests (arm test body more)) here
  -- parameters
  later_parameter :
      {here : Sight} (parameter : Parameter) (parameters : List Parameter) (body : Statements)
      → StandsIn at inner there (defining parameters body) (after_name here parameter.name)
      → StandsIn at inner there (defining (parameter ∷ parameters) body) here
  function_body :
      {here : Sight} (body : Statements)
      → StandsIn at inner there (sequence body) here
      → StandsIn at inner there (defining [] body) here
