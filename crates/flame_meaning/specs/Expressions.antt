-- What an expression gives: a value, or a fault with its line.
use Rattle.std.specs.Prelude.{ℕ, ℤ, pos, List, [], ◌∷◌, ◌++◌, Bool, not, Option, Some, None, Result, Ok, Err, if◌then◌else◌}
use Rattle.std.specs.Ordering.{int_eq}
use Rattle.flame_ops.specs.declared.integers.Cause.{Cause}
use Rattle.flame_ops.specs.declared.integers.Cause.TheVariants.{BadIndex}
use Rattle.flame_ops.specs.Integers.{applied, negated, truth}
use Rattle.flame_spec.specs.declared.faults.Fault.{Fault}
use Rattle.flame_spec.specs.declared.trees.Sign.{Sign}
use Rattle.flame_spec.specs.declared.trees.SignKind.{SignKind}
use Rattle.flame_spec.specs.declared.trees.SignKind.TheVariants.{Minus, Plus, Bang}
use Rattle.flame_spec.specs.Conditions.{number_at}
use Rattle.flame_spec.specs.ExpressionFaults.{member_read}
use Rattle.flame_spec.specs.Trees.{Expression, number, name, field, get, at, field_at, signed, chain, all_of, any_of}
use Rattle.flame_spec.specs.Trees.{Expressions, no_parts, part, Links, no_links, link}
use Rattle.flame_meaning.specs.Scenes.{Scene, Progress, named, array_named, got, row_read, field_value}
use Rattle.flame_meaning.specs.Scenes.{element_column, numbers_of}

-- the value goes on, a fault ends it [own]
abbrev pub on_value : Result ℤ Fault → (ℤ → Result ℤ Fault) → Result ℤ Fault
on_value (Ok v) go = go v
on_value (Err fault) go = Err fault

-- a fault of an operator has the operator's line [own]
abbrev pub at_line : ℕ → Result ℤ Cause → Result ℤ Fault
at_line line (Ok v) = Ok v
at_line line (Err cause) = Err (record { cause = cause; line = line })

-- a test holds where its value is not 0 [C, 6.8.4.1]
abbrev pub holds : ℤ → Bool
holds v = not (int_eq v (pos 0))

-- ---- signs

-- a sign before a value [C, 6.5.3.3]
abbrev pub signed_by : SignKind → ℕ → ℤ → Result ℤ Fault
signed_by Minus line v = at_line line (negated v)
signed_by Plus line v = Ok v
signed_by Bang line v = Ok (truth (not (holds v)))

-- the signs before a value, from the innermost outwards [C, 6.5.3]
abbrev pub signs_value : List Sign → ℤ → Result ℤ Fault
signs_value [] v = Ok v
signs_value (sign ∷ signs) v = on_value (signs_value signs v) (signed_by sign.kind sign.line)

-- ---- elements

-- there is no such element: the fault has the line of the bracket [own]
abbrev pub bad_index : ℕ → Fault
bad_index line = record { cause = BadIndex; line = line }

-- the number of a row in this column, where there is such an element [C, 6.5.2.1; without one: own]
abbrev pub element_value : ℕ → Option ℕ → List ℤ → Result ℤ Fault
element_value line None row = Err (bad_index line)
element_value line (Some column) row = Ok (number_at row column)

-- ---- expressions

abbrev mutual
  -- the value of an expression; parts are evaluated from left to right, an index before its element
  -- [C, 6.5; order: own]
  pub value_of : Expression → Scene → Progress → Result ℤ Fault
  value_of (number n) scene s = Ok n
  value_of (name line word) scene s = Ok (named word scene s)
  value_of (field line word variable) scene s = Ok (field_value word variable scene)
  value_of (get line word) scene s = Ok (got word scene s)
  value_of (at line word index_line index) scene s =
      on_value (value_of index scene s) (λ i.
      element_value index_line (element_column (array_named word scene s) i) s.memory)
  value_of (field_at line word variable index_line index) scene s =
      on_value (value_of index scene s) (λ i.
      element_value index_line (element_column (member_read scene.context word variable) i) (row_read word scene))
  value_of (signed signs e) scene s = on_value (value_of e scene s) (signs_value signs)
  value_of (chain e links) scene s = on_value (value_of e scene s) (chain_value links scene s)
  value_of (all_of parts) scene s = all_value parts scene s
  value_of (any_of parts) scene s = any_value parts scene s

  -- operators of one level group from the left [C, 6.5]
  pub chain_value : Links → Scene → Progress → ℤ → Result ℤ Fault
  chain_value no_links scene s v = Ok v
  chain_value (link op line e links) scene s v =
      on_value (value_of e scene s) (λ w. on_value (at_line line (applied op v w)) (chain_value links scene s))

  -- `&&` gives 1 where each part holds, and stops with 0 at the first part that does not [C, 6.5.13]
  pub all_value : Expressions → Scene → Progress → Result ℤ Fault
  all_value no_parts scene s = Ok (pos 1)
  all_value (part e parts) scene s =
      on_value (value_of e scene s) (λ v. if holds v then all_value parts scene s else Ok (pos 0))

  -- `||` gives 0 where no part holds, and stops with 1 at the first part that does [C, 6.5.14]
  pub any_value : Expressions → Scene → Progress → Result ℤ Fault
  any_value no_parts scene s = Ok (pos 0)
  any_value (part e parts) scene s =
      on_value (value_of e scene s) (λ v. if holds v then Ok (pos 1) else any_value parts scene s)

-- ---- arguments

-- the one number of a value [own]
abbrev pub one_of : Result ℤ Fault → Result (List ℤ) Fault
one_of (Ok v) = Ok (v ∷ [])
one_of (Err fault) = Err fault

-- the numbers that an argument stands for: one that names an array stands for the numbers of the array in order, and
-- else for its value [C, 6.5.2.2; arrays: own]
abbrev pub argument_values : Expression → Scene → Progress → Result (List ℤ) Fault
argument_values (name line word) scene s = Ok (numbers_of (array_named word scene s) s.memory (named word scene s))
argument_values (field line word variable) scene s =
    Ok (numbers_of (member_read scene.context word variable) (row_read word scene) (field_value word variable scene))
argument_values e scene s = one_of (value_of e scene s)

-- the numbers of an argument and those of the arguments behind it, or the first fault [own]
abbrev pub values_and : Result (List ℤ) Fault → Result (List ℤ) Fault → Result (List ℤ) Fault
values_and (Err fault) more = Err fault
values_and (Ok values) (Err fault) = Err fault
values_and (Ok values) (Ok more) = Ok (values ++ more)

-- the values of the arguments, from left to right [C, 6.5.2.2; order: own]
abbrev pub values_of : Expressions → Scene → Progress → Result (List ℤ) Fault
values_of no_parts scene s = Ok []
values_of (part e parts) scene s = values_and (argument_values e scene s) (values_of parts scene s)
