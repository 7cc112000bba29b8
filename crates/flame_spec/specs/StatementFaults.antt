-- The faults of the statements in a function's body, in source order.
use Rattle.std.specs.Prelude.{ℕ, List, [], ◌∷◌, ◌++◌, codes, Bool, true, false, not, ◌||◌, ◌&&◌}
use Rattle.std.specs.Prelude.{Option, Some, None, is_some}
use Rattle.std.specs.Str.{bytes_eq}
use Rattle.flame_spec.specs.declared.models.MessageType.{MessageType}
use Rattle.flame_spec.specs.declared.trees.Parameter.{Parameter}
use Rattle.flame_spec.specs.declared.faults.CheckFault.{CheckFault}
use Rattle.flame_spec.specs.declared.faults.CheckKind.TheVariants.{UnknownName, Redeclared, NotInput, NestedSame}
use Rattle.flame_spec.specs.declared.faults.CheckKind.TheVariants.{LoopMismatch, StrayBreak, ReadOnly}
use Rattle.flame_spec.specs.Functions.{Place}
use Rattle.flame_spec.specs.KnownNames.{is_among}
use Rattle.flame_spec.specs.LookUps.{Given, in_memory, constant, iteration, message_looped, input_of}
use Rattle.flame_spec.specs.Trees.{Stored, plain, called, Indexed, Declared, Assigned}
use Rattle.flame_spec.specs.Trees.{Statement, empty, declare, assign, call, block, branch, while, for, do_while, loop_over, return, break, continue}
use Rattle.flame_spec.specs.Trees.{Statements, no_more, also, Arms, no_arms, arm}
use Rattle.flame_spec.specs.Scopes.{Context, Loop, over_message, over_none, Sight, in_scope, in_loop, in_value_of}
use Rattle.flame_spec.specs.Scopes.{after_name, after, after_all, messages_at, given_at, is_open_over, is_outside}
use Rattle.flame_spec.specs.ExpressionFaults.{fault_where, unknown_faults, bare_faults, indexed_faults}
use Rattle.flame_spec.specs.ExpressionFaults.{expression_faults, optional_faults}
use Rattle.flame_spec.specs.CallFaults.{call_faults, called_faults}

-- ---- what is stored

-- what an assignment or a declaration stores [own]
abbrev pub stored_faults : Context → Sight → Stored → List CheckFault
stored_faults context sight (plain e) = expression_faults context sight e
stored_faults context sight (called line word arguments) = called_faults context sight line word arguments

-- ---- assignments

-- what the model gives can only be read: a constant, or the number of the iteration [own]
abbrev pub is_only_read : Option Given → Bool
is_only_read None = false
is_only_read (Some (in_memory column variable)) = false
is_only_read (Some (constant number)) = true
is_only_read (Some iteration) = true

-- the word is only read: a constant in capitals, or `iteration_loop` [own]
abbrev pub is_read_only : Context → List ℕ → Bool
is_read_only context word = is_only_read (given_at context word)

-- the index of the name that is assigned to, or that it has none [own]
abbrev pub subscript_faults : Context → Sight → ℕ → List ℕ → Option Indexed → List CheckFault
subscript_faults context sight line word None = bare_faults context line word
subscript_faults context sight line word (Some subscript) =
    indexed_faults context line word ++ expression_faults context sight subscript.index

-- an assignment: its name, then the index, then its value [own]
abbrev pub assignment_faults : Context → Sight → Assigned → List CheckFault
assignment_faults context sight a =
    unknown_faults context sight a.line a.name
    ++ fault_where (is_read_only context a.name) context ReadOnly a.line a.name
    ++ subscript_faults context sight a.line a.name a.subscript
    ++ stored_faults context sight a.value

-- an assignment that may be missing [own]
abbrev pub optional_assignment_faults : Context → Sight → Option Assigned → List CheckFault
optional_assignment_faults context sight None = []
optional_assignment_faults context sight (Some a) = assignment_faults context sight a

-- ---- declarations

-- the name cannot be declared: its scope declares it already, or the model gives it a meaning
-- [C, 6.7; names of the model: own]
abbrev pub is_taken : Context → Sight → List ℕ → Bool
is_taken context sight word = is_among word sight.scope || is_some (given_at context word)

-- a name that is declared [own]
abbrev pub declared_faults : Context → Sight → ℕ → List ℕ → List CheckFault
declared_faults context sight line word = fault_where (is_taken context sight word) context Redeclared line word

-- what an item stores, if it does [own]
abbrev pub optional_stored_faults : Context → Sight → Option Stored → List CheckFault
optional_stored_faults context sight None = []
optional_stored_faults context sight (Some value) = stored_faults context sight value

-- an item: its name, then its value [own]
abbrev pub item_faults : Context → Sight → Declared → List CheckFault
item_faults context sight item =
    declared_faults context sight item.line item.name
    ++ optional_stored_faults context (in_value_of item.name sight) item.value

-- the items of a declaration, each of which sees those before it [own]
abbrev pub items_faults : Context → Sight → List Declared → List CheckFault
items_faults context sight [] = []
items_faults context sight (item ∷ items) =
    item_faults context sight item ++ items_faults context (after_name sight item.name) items

-- the parameters of a function, each of which sees those before it [C, 6.9.1]
abbrev pub parameters_faults : Context → Sight → List Parameter → List CheckFault
parameters_faults context sight [] = []
parameters_faults context sight (parameter ∷ parameters) =
    declared_faults context sight parameter.line parameter.name
    ++ parameters_faults context (after_name sight parameter.name) parameters

-- ---- message loops

-- the function of this place reads the message [XMML]
abbrev pub is_input : Option Place → MessageType → Bool
is_input None message = false
is_input (Some place) message = is_some (input_of place.function message)

-- START of a loop over this message, or over none [FLAME User Manual]
abbrev pub start_faults : Context → Sight → Option (ℕ × MessageType) → ℕ → List ℕ → List CheckFault
start_faults context sight None line word = fault_where true context UnknownName line word
start_faults context sight (Some found) line word =
    fault_where (not (is_input context.runs found.1)) context NotInput line word
    ++ fault_where (is_open_over sight found.1) context NestedSame line word

-- the loop that START opens: over the message, and where there is none a loop that is over no message [own]
abbrev pub opened : Option (ℕ × MessageType) → Loop
opened None = over_none
opened (Some found) = over_message found.1.name

-- FINISH of a loop with this name, after START with that name [FLAME User Manual]
abbrev pub finish_faults : Context → List ℕ → ℕ → List ℕ → List CheckFault
finish_faults context start line word = fault_where (not (bytes_eq start word)) context LoopMismatch line word

-- ---- statements

-- `break` or `continue` [C, 6.8.6]
abbrev pub jump_faults : Context → Sight → ℕ → List ℕ → List CheckFault
jump_faults context sight line keyword = fault_where (is_outside sight.loops) context StrayBreak line keyword

abbrev mutual
  -- a statement; a `for` is a scope with its first statement, test, step and body [own]
  pub statement_faults : Context → Sight → Statement → List CheckFault
  statement_faults context sight empty = []
  statement_faults context sight (declare items) = items_faults context sight items
  statement_faults context sight (assign a) = assignment_faults context sight a
  statement_faults context sight (call line word arguments) = call_faults context sight line word arguments
  statement_faults context sight (block body) = statements_faults context (in_scope sight) body
  statement_faults context sight (branch arms otherwise) =
      arms_faults context sight arms
      ++ statements_faults context (in_scope sight) otherwise
  statement_faults context sight (while line test body) =
      expression_faults context sight test
      ++ statements_faults context (in_loop over_none sight) body
  statement_faults context sight (for line first test step body) =
      statements_faults context (in_scope sight) first
      ++ optional_faults context (after_all (in_scope sight) first) test
      ++ optional_assignment_faults context (after_all (in_scope sight) first) step
      ++ statements_faults context (in_loop over_none (after_all (in_scope sight) first)) body
  statement_faults context sight (do_while line body test) =
      statements_faults context (in_loop over_none sight) body
      ++ expression_faults context sight test
  statement_faults context sight (loop_over line word body end_line end_word) =
      start_faults context sight (message_looped (messages_at context) word) line word
      ++ statements_faults context (in_loop (opened (message_looped (messages_at context) word)) sight) body
      ++ finish_faults context word end_line end_word
  statement_faults context sight (return e) = expression_faults context sight e
  statement_faults context sight (break line) = jump_faults context sight line (codes "break")
  statement_faults context sight (continue line) = jump_faults context sight line (codes "continue")

  -- statements, each of which sees what those before it declare [own]
  pub statements_faults : Context → Sight → Statements → List CheckFault
  statements_faults context sight no_more = []
  statements_faults context sight (also statement statements) =
      statement_faults context sight statement ++ statements_faults context (after sight statement) statements

  -- the tests of an `if` with their bodies, each of which is a scope [own]
  pub arms_faults : Context → Sight → Arms → List CheckFault
  arms_faults context sight no_arms = []
  arms_faults context sight (arm test body arms) =
      expression_faults context sight test
      ++ statements_faults context (in_scope sight) body
      ++ arms_faults context sight arms
