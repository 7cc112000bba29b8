-- The numbered tree that stands for a named one: the same forms, with numbers in place of names. Scopes and what they
-- declare are those by which the check faults go.
use Rattle.std.specs.Prelude.{ℕ, List, [], ◌∷◌, length, Option, Some, None, option_map}
use Rattle.flame_spec.specs.Scopes.{Context, Sight, names_seen, over_none, in_scope, in_loop, in_value_of}
use Rattle.flame_spec.specs.Scopes.{after_name, after, after_all, messages_at}
use Rattle.flame_spec.specs.LookUps.{message_looped}
use Rattle.flame_spec.specs.StatementFaults.{opened}
use Rattle.flame_spec.specs.Trees.{Expression, number, name, field, get, at, field_at, signed, chain, all_of, any_of}
use Rattle.flame_spec.specs.Trees.{Expressions, no_parts, part, Links, no_links, link}
use Rattle.flame_spec.specs.Trees.{Stored, plain, called, Indexed, Declared, Assigned}
use Rattle.flame_spec.specs.Trees.{Statement, empty, declare, assign, call, block, branch, while, for, do_while}
use Rattle.flame_spec.specs.Trees.{loop_over}
use Rattle.flame_spec.specs.Trees.{return, break, continue, Statements, no_more, also, Arms, no_arms, arm}
use Rattle.flame_body.specs.declared.slots.SlotExpr.{SlotExpr, Number, Name, Field, Get, At, FieldAt, Unary, Chain, All}
use Rattle.flame_body.specs.declared.slots.SlotExpr.{Any}
use Rattle.flame_body.specs.declared.slots.SlotLink.{SlotLink}
use Rattle.flame_body.specs.declared.slots.SlotSubscript.{SlotSubscript}
use Rattle.flame_body.specs.declared.slots.SlotValue.{SlotValue}
use Rattle.flame_body.specs.declared.slots.SlotValue.TheVariants as value
use Rattle.flame_body.specs.declared.slots.SlotTarget.{SlotTarget}
use Rattle.flame_body.specs.declared.slots.SlotTarget.TheVariants.{Element}
use Rattle.flame_body.specs.declared.slots.SlotItem.{SlotItem}
use Rattle.flame_body.specs.declared.slots.SlotAssign.{SlotAssign}
use Rattle.flame_body.specs.declared.slots.SlotStmt.{SlotStmt, Empty, Declare, Assign, Call, Block, If, While, For, Do}
use Rattle.flame_body.specs.declared.slots.SlotStmt.{Loop, Return, Break, Continue}
use Rattle.flame_body.specs.declared.slots.SlotArm.{SlotArm}
use Rattle.flame_body.specs.WordSlots.{slot_at, target_at, cells_at, field_span, field_cells, got_column}
use Rattle.flame_body.specs.WordSlots.{input_read, input_looped, deed_at, helper_at}

-- ---- expressions

abbrev mutual
  -- an expression [own]
  pub numbered : Context → Sight → Expression → SlotExpr
  numbered context sight (number n) = Number n
  numbered context sight (name line word) = Name (slot_at context sight word)
  numbered context sight (field line word variable) = Field (input_read context word) (field_span context word variable)
  numbered context sight (get line word) = Get (got_column context word)
  numbered context sight (at line word index_line index) =
      At (cells_at context word) (record { line = index_line; index = numbered context sight index })
  numbered context sight (field_at line word variable index_line index) =
      FieldAt (input_read context word) (field_cells context word variable)
      (record { line = index_line; index = numbered context sight index })
  numbered context sight (signed signs e) = Unary signs (numbered context sight e)
  numbered context sight (chain e more) = Chain (numbered context sight e) (numbered_links context sight more)
  numbered context sight (all_of parts) = All (numbered_parts context sight parts)
  numbered context sight (any_of parts) = Any (numbered_parts context sight parts)

  -- expressions in order [own]
  pub numbered_parts : Context → Sight → Expressions → List SlotExpr
  numbered_parts context sight no_parts = []
  numbered_parts context sight (part e parts) = numbered context sight e ∷ numbered_parts context sight parts

  -- operators with their operands, in order [own]
  pub numbered_links : Context → Sight → Links → List SlotLink
  numbered_links context sight no_links = []
  numbered_links context sight (link op line e links) =
      record { op = op; line = line; right = numbered context sight e } ∷ numbered_links context sight links

-- which element of an array [own]
abbrev pub numbered_index : Context → Sight → Indexed → SlotSubscript
numbered_index context sight place = record { line = place.line; index = numbered context sight place.index }

-- ---- what is stored

-- what an assignment or a declaration stores [own]
abbrev pub numbered_stored : Context → Sight → Stored → SlotValue
numbered_stored context sight (plain e) = value.Plain (numbered context sight e)
numbered_stored context sight (called line word arguments) =
    value.Call line (helper_at context word) (numbered_parts context sight arguments)

-- what is assigned to: a name, or with an index an element of an array [C, 6.5.16]
abbrev pub numbered_target : Context → Sight → List ℕ → Option Indexed → SlotTarget
numbered_target context sight word None = target_at context sight word
numbered_target context sight word (Some place) = Element (cells_at context word) (numbered_index context sight place)

-- an assignment [own]
abbrev pub numbered_assignment : Context → Sight → Assigned → SlotAssign
numbered_assignment context sight a = record {
  target = numbered_target context sight a.name a.subscript;
  op = a.op;
  op_line = a.op_line;
  value = numbered_stored context sight a.value;
}

-- a local that a declaration declares: its number is how many names are seen before it. Its value sees no more names,
-- and no fewer [C, 6.2.1; own]
abbrev pub numbered_item : Context → Sight → Declared → SlotItem
numbered_item context sight item = record {
  local = length (names_seen sight);
  value = option_map (numbered_stored context (in_value_of item.name sight)) item.value;
}

-- the locals of a declaration, each of which sees those before it [C, 6.2.1]
abbrev pub numbered_items : Context → Sight → List Declared → List SlotItem
numbered_items context sight [] = []
numbered_items context sight (item ∷ items) =
    numbered_item context sight item ∷ numbered_items context (after_name sight item.name) items

-- ---- statements

-- what is seen in the body of a message loop that is named so [FLAME User Manual]
abbrev pub in_loop_named : Context → Sight → List ℕ → Sight
in_loop_named context sight word = in_loop (opened (message_looped (messages_at context) word)) sight

abbrev mutual
  -- a statement; a `for` is a scope with its first statement, test, step and body [own]
  pub numbered_statement : Context → Sight → Statement → SlotStmt
  numbered_statement context sight empty = Empty
  numbered_statement context sight (declare items) = Declare (numbered_items context sight items)
  numbered_statement context sight (assign a) = Assign (numbered_assignment context sight a)
  numbered_statement context sight (call line word arguments) =
      Call (deed_at context line word) (numbered_parts context sight arguments)
  numbered_statement context sight (block body) = Block (numbered_statements context (in_scope sight) body)
  numbered_statement context sight (branch arms otherwise) =
      If (numbered_arms context sight arms) (numbered_statements context (in_scope sight) otherwise)
  numbered_statement context sight (while line test body) =
      While line (numbered context sight test) (numbered_statements context (in_loop over_none sight) body)
  numbered_statement context sight (for line first test step body) =
      For line
      (record {
        first = numbered_statements context (in_scope sight) first;
        test = option_map (numbered context (after_all (in_scope sight) first)) test;
        step = option_map (numbered_assignment context (after_all (in_scope sight) first)) step;
      })
      (numbered_statements context (in_loop over_none (after_all (in_scope sight) first)) body)
  numbered_statement context sight (do_while line body test) =
      Do line (numbered_statements context (in_loop over_none sight) body) (numbered context sight test)
  numbered_statement context sight (loop_over line word body end_line end_word) =
      Loop line (input_looped context word) (numbered_statements context (in_loop_named context sight word) body)
  numbered_statement context sight (return e) = Return (numbered context sight e)
  numbered_statement context sight (break line) = Break
  numbered_statement context sight (continue line) = Continue

  -- statements, each of which sees what those before it declare [own]
  pub numbered_statements : Context → Sight → Statements → List SlotStmt
  numbered_statements context sight no_more = []
  numbered_statements context sight (also statement statements) =
      numbered_statement context sight statement ∷ numbered_statements context (after sight statement) statements

  -- the tests of an `if` with their bodies, each of which is a scope [own]
  pub numbered_arms : Context → Sight → Arms → List SlotArm
  numbered_arms context sight no_arms = []
  numbered_arms context sight (arm test body arms) =
      record { test = numbered context sight test; body = numbered_statements context (in_scope sight) body }
      ∷ numbered_arms context sight arms
