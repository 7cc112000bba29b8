-- What statements do.
use Rattle.std.specs.Prelude.{ℕ, zero, suc, ℤ, pos, List, [], ◌∷◌, ◌++◌, Option, Some, None, Result, Ok, is_some, map}
use Rattle.std.specs.Prelude.{slice_set, slice_index_or, if◌then◌else◌}
use Rattle.std.specs.Str.{bytes_eq}
use Rattle.flame_ops.specs.declared.integers.Op.{Op}
use Rattle.flame_ops.specs.Integers.{applied}
use Rattle.flame_spec.specs.declared.faults.Fault.{Fault}
use Rattle.flame_spec.specs.declared.models.AgentType.{AgentType}
use Rattle.flame_spec.specs.declared.models.Input.{Input}
use Rattle.flame_spec.specs.declared.models.MessageType.{MessageType}
use Rattle.flame_spec.specs.declared.models.Variable.{Variable}
use Rattle.flame_spec.specs.CallFaults.{Deed, sets, sends, bears, calls, deed_of}
use Rattle.flame_spec.specs.Columns.{width}
use Rattle.flame_spec.specs.Conditions.{number_at}
use Rattle.flame_spec.specs.Definitions.{Definition, helper_named}
use Rattle.flame_spec.specs.LookUps.{memory_named, message_looped}
use Rattle.flame_spec.specs.Scopes.{memory_at, messages_at, input_found}
use Rattle.flame_spec.specs.Trees.{Expression, Stored, plain, called, Indexed, Declared, Assigned}
use Rattle.flame_spec.specs.Trees.{Statement, empty, declare, assign, call, block, branch, while, for, do_while, loop_over, return, break, continue}
use Rattle.flame_spec.specs.Trees.{Statements, no_more, also, Arms, no_arms, arm}
use Rattle.flame_meaning.specs.Scenes.{Scene, Progress, Local, Current, local_value, named, array_named, element_column}
use Rattle.flame_meaning.specs.Expressions.{at_line, holds, bad_index, value_of, values_of}
use Rattle.flame_meaning.specs.Ends.{End, went_on, broke, continued, returned, faulted}
use Rattle.flame_meaning.specs.Ends.{with_value, with_values, after_call, on_to, as_scope}
use Rattle.flame_meaning.specs.Loops.{turn, loop, each_row}

-- ---- values, which may be those of helpers

-- a helper is called with these values; a word that names no helper gives 0 [C, 6.5.2.2; without one: own]
abbrev pub helped :
    Option (ℕ × Definition) → ℕ → List ℤ → Scene → Progress → (ℤ → Progress → End) → End
helped None line values scene s go = go (pos 0) s
helped (Some found) line values scene s go = after_call (scene.answers line found.1 values s.fuel) s go

-- what is stored: the value of an expression, or what a helper returns for the values of its arguments
-- [C, 6.5.16; C, 6.5.2.2]
abbrev pub by_value : Stored → Scene → Progress → (ℤ → Progress → End) → End
by_value (plain e) scene s go = with_value (value_of e scene s) (λ v. go v s)
by_value (called line word arguments) scene s go =
    with_values (values_of arguments scene s) (λ values.
    helped (helper_named scene.context.helpers word) line values scene s go)

-- ---- declarations

-- the initial value of a local; without one it is 0 [C, 6.7.9; without one: own]
abbrev pub by_initial : Option Stored → Scene → Progress → (ℤ → Progress → End) → End
by_initial None scene s go = go (pos 0) s
by_initial (Some value) scene s go = by_value value scene s go

-- the local is visible from here on [C, 6.2.1]
abbrev pub with_local : List ℕ → ℤ → Progress → Progress
with_local name v s = record s { locals = record { name = name; value = v } ∷ s.locals }

-- the items in order; an item's value does not see the item, which begins behind it; an accepted source never reads the
-- item's own name there [C, 6.7; an item in its own value: own]
abbrev pub declarations : List Declared → Scene → Progress → End
declarations [] scene s = went_on s
declarations (item ∷ items) scene s =
    by_initial item.value scene s (λ v t. declarations items scene (with_local item.name v t))

-- ---- what assignments store

-- the newest local of this name has the value [C, 6.5.16]
abbrev pub set_local : List ℕ → ℤ → List Local → List Local
set_local word v [] = []
set_local word v (local ∷ locals) =
    if bytes_eq local.name word then record { name = local.name; value = v } ∷ locals
    else local ∷ set_local word v locals

-- the memory has the value in this column [FLAME User Manual]
abbrev pub set_column : ℕ → ℤ → Progress → Progress
set_column column v s = record s { memory = slice_set s.memory column v }

-- the memory has the value in the column of the variable that was found; without one all is as it was
-- [FLAME User Manual; without one: own]
abbrev pub set_found : Option (ℕ × Variable) → ℤ → Progress → Progress
set_found None v s = s
set_found (Some found) v s = set_column found.0 v s

-- the newest local of this name has the value, or else the memory variable that it is in capitals
-- [C, 6.5.16; FLAME User Manual]
abbrev pub set_name : List ℕ → ℤ → Scene → Progress → Progress
set_name word v scene s =
    if is_some (local_value word s.locals) then record s { locals = set_local word v s.locals }
    else set_found (memory_named (memory_at scene.context) word) v s

-- ---- assignments

-- the column of an element goes on; where there is no such element, the fault has the line of the bracket [own]
abbrev pub with_column : ℕ → Option ℕ → (ℕ → End) → End
with_column line None go = faulted (bad_index line)
with_column line (Some column) go = go column

-- `x = v`: the value, then the store [C, 6.5.16.1]
abbrev pub name_set : Assigned → Scene → Progress → End
name_set a scene s = by_value a.value scene s (λ v t. went_on (set_name a.name v scene t))

-- `x op= v`: the left side is read first, then comes the value, then the operator, then the store
-- [C, 6.5.16.2; order: own]
abbrev pub name_changed : Op → Assigned → Scene → Progress → End
name_changed op a scene s =
    by_value a.value scene s (λ v t.
    with_value (at_line a.op_line (applied op (named a.name scene s) v)) (λ w.
    went_on (set_name a.name w scene t)))

-- `x[e] = v`: the index, then the value, then the test of the index, then the store [C, 6.5.16.1; order: own]
abbrev pub element_set : Indexed → Assigned → Scene → Progress → End
element_set place a scene s =
    with_value (value_of place.index scene s) (λ i.
    by_value a.value scene s (λ v t.
    with_column place.line (element_column (array_named a.name scene s) i) (λ column.
    went_on (set_column column v t))))

-- `x[e] op= v`: the index, then its test, then the element, then the value, then the operator, then the store
-- [C, 6.5.16.2; order: own]
abbrev pub element_changed : Indexed → Op → Assigned → Scene → Progress → End
element_changed place op a scene s =
    with_value (value_of place.index scene s) (λ i.
    with_column place.line (element_column (array_named a.name scene s) i) (λ column.
    by_value a.value scene s (λ v t.
    with_value (at_line a.op_line (applied op (number_at s.memory column) v)) (λ w.
    went_on (set_column column w t)))))

-- an assignment by its form [own]
abbrev pub assigned_by : Option Indexed → Option Op → Assigned → Scene → Progress → End
assigned_by None None a scene s = name_set a scene s
assigned_by None (Some op) a scene s = name_changed op a scene s
assigned_by (Some place) None a scene s = element_set place a scene s
assigned_by (Some place) (Some op) a scene s = element_changed place op a scene s

-- an assignment [C, 6.5.16]
abbrev pub assignment : Assigned → Scene → Progress → End
assignment a scene s = assigned_by a.subscript a.op a scene s

-- ---- calls

-- a row of this width: the values in order. An accepted source gives as many as the row is wide; further ones are cut
-- off, and missing ones are 0 [own]
abbrev pub fitted : ℕ → List ℤ → List ℤ
fitted zero values = []
fitted (suc n) [] = pos 0 ∷ fitted n []
fitted (suc n) (v ∷ values) = v ∷ fitted n values

-- the message stands behind those that were added before [FLAME User Manual]
abbrev pub with_message : ℕ → MessageType → List ℤ → Progress → Progress
with_message number message values s =
    record s { sent = s.sent ++ record { message = number; row = fitted (width message.variables) values } ∷ [] }

-- the agent stands behind those that were added before [FLAME User Manual]
abbrev pub with_birth : ℕ → AgentType → List ℤ → Progress → Progress
with_birth number type values s =
    record s { born = s.born ++ record { agent = number; row = fitted (width type.memory) values } ∷ [] }

-- what a call statement on this line does with the values of its arguments: it sets a memory variable to the first,
-- sends a message, bears an agent, or calls a helper, whose value counts for nothing; a word that is none of these does
-- nothing more [FLAME User Manual; C, 6.8.3; nothing: own]
abbrev pub done : Option Deed → ℕ → List ℤ → Scene → Progress → End
done None line values scene s = went_on s
done (Some (sets column variable)) line values scene s = went_on (set_column column (number_at values 0) s)
done (Some (sends number message)) line values scene s = went_on (with_message number message values s)
done (Some (bears number type)) line values scene s = went_on (with_birth number type values s)
done (Some (calls number helper)) line values scene s =
    after_call (scene.answers line helper values s.fuel) s (λ v t. went_on t)

-- ---- loops

-- the test of a loop; a `for` without one always goes on [C, 6.8.5.3]
abbrev pub test_value : Option Expression → Scene → Progress → Result ℤ Fault
test_value None scene s = Ok (pos 1)
test_value (Some e) scene s = value_of e scene s

-- the step of a loop, which only a `for` may have [C, 6.8.5.3]
abbrev pub step_of : Option Assigned → Scene → Progress → End
step_of None scene s = went_on s
step_of (Some a) scene s = assignment a scene s

-- the rows of this input; of none there are none [own]
abbrev pub rows_of : Option (ℕ × Input) → Scene → List (List ℤ)
rows_of None scene = []
rows_of (Some input) scene = slice_index_or scene.readings input.0 []

-- where a loop over the message that was found stands, turn by turn [FLAME User Manual]
abbrev pub currents_of : Option (ℕ × MessageType) → List (List ℤ) → List Current
currents_of None rows = []
currents_of (Some message) rows = map (λ row. record { message = message.0; row = row }) rows

-- the turns of a loop over this message: the rows of the input by which the function reads it [FLAME User Manual]
abbrev pub currents_over : Option (ℕ × MessageType) → Scene → List Current
currents_over message scene = currents_of message (rows_of (input_found scene.context.runs message) scene)

-- the turns of a loop that is named so [FLAME User Manual]
abbrev pub loop_currents : List ℕ → Scene → List Current
loop_currents word scene = currents_over (message_looped (messages_at scene.context) word) scene

-- inside a loop that stands at this row [FLAME User Manual]
abbrev pub inside : Current → Scene → Scene
inside current scene = record scene { open_loops = current ∷ scene.open_loops }

-- ---- statements

abbrev mutual
  -- a statement; each body is a scope [C, 6.8; `loop_over`: FLAME User Manual]
  pub meaning : Statement → Scene → Progress → End
  meaning empty scene s = went_on s
  meaning (declare items) scene s = declarations items scene s
  meaning (assign a) scene s = assignment a scene s
  meaning (call line word arguments) scene s =
      with_values (values_of arguments scene s) (λ values. done (deed_of scene.context word) line values scene s)
  meaning (block body) scene s = as_scope (meanings body scene) s
  meaning (branch tests otherwise) scene s = first_arm tests (as_scope (meanings otherwise scene)) scene s
  meaning (while line test body) scene s =
      loop line (test_value (Some test) scene) (as_scope (meanings body scene)) (step_of None scene) s
  meaning (for line first test step body) scene s =
      as_scope (λ t.
      on_to (meanings first scene t)
      (loop line (test_value test scene) (as_scope (meanings body scene)) (step_of step scene))) s
  meaning (do_while line body test) scene s =
      turn line (as_scope (meanings body scene))
      (loop line (test_value (Some test) scene) (as_scope (meanings body scene)) (step_of None scene)) s
  meaning (loop_over line word body end_line end_word) scene s =
      each_row line (λ current. as_scope (meanings body (inside current scene))) (loop_currents word scene) s
  meaning (return e) scene s = with_value (value_of e scene s) (λ v. returned v s)
  meaning (break line) scene s = broke s
  meaning (continue line) scene s = continued s

  -- one after another [C, 6.8.2]
  pub meanings : Statements → Scene → Progress → End
  meanings no_more scene s = went_on s
  meanings (also statement more) scene s = on_to (meaning statement scene s) (meanings more scene)

  -- the body of the first test that holds, and where none does what stands behind `else` [C, 6.8.4.1]
  pub first_arm : Arms → (Progress → End) → Scene → Progress → End
  first_arm no_arms otherwise scene s = otherwise s
  first_arm (arm test body more) otherwise scene s =
      with_value (value_of test scene s) (λ v.
      if holds v then as_scope (meanings body scene) s else first_arm more otherwise scene s)
