-- Values of expressions never fault for want of fuel.
use Rattle.std.proofs.Common.{◌≢◌, ℕ, Bool, true, false, cond, List, [], ◌∷◌, Option, Some, None}
use Rattle.std.specs.Prelude.{ℤ, pos, neg_ℤ, Result, Ok, Err, ◌&&◌}
use Rattle.std.specs.Ordering.{int_eq}
use Rattle.flame_ops.specs.declared.integers.Cause.TheVariants.{Overflow, DivideByZero, BadIndex, Fuel}
use Rattle.flame_ops.specs.declared.integers.Op.{Op}
use Rattle.flame_ops.specs.Integers.{is_int, value, divides, bounded, applied}
use Rattle.flame_spec.specs.declared.faults.Fault.{Fault}
use Rattle.flame_spec.specs.declared.trees.Sign.{Sign}
use Rattle.flame_spec.specs.declared.trees.SignKind.{SignKind}
use Rattle.flame_spec.specs.declared.trees.SignKind.TheVariants.{Minus, Plus, Bang}
use Rattle.flame_spec.specs.ExpressionFaults.{member_read}
use Rattle.flame_spec.specs.Trees.{Expression, number, name, field, get, at, field_at, signed, chain, all_of, any_of}
use Rattle.flame_spec.specs.Trees.{Expressions, no_parts, part, Links, no_links, link}
use Rattle.flame_meaning.specs.Scenes.{Scene, Progress, array_named, row_read, element_column}
use Rattle.flame_meaning.specs.Expressions.{on_value, at_line, holds, signed_by, signs_value, element_value, value_of}
use Rattle.flame_meaning.specs.Expressions.{chain_value, all_value, any_value, one_of, argument_values, values_and}
use Rattle.flame_meaning.specs.Expressions.{values_of}

-- where it faults, it is not for want of fuel
abbrev pub IsPaid : {X : Type 0} → Result X Fault → Type 0
IsPaid (Ok x) = Unit {0}
IsPaid (Err fault) = fault.cause ≢ Fuel

other_division : DivideByZero ≢ Fuel
other_division = λ e. cc

other_overflow : Overflow ≢ Fuel
other_overflow = λ e. cc

pub other_index : BadIndex ≢ Fuel
other_index = λ e. cc

chosen_paid :
    (line : ℕ) (b c : Bool) (v : ℤ)
    → IsPaid (at_line line (cond b (Err DivideByZero) (cond c (Ok v) (Err Overflow))))
chosen_paid line true c v = other_division
chosen_paid line false true v = tt
chosen_paid line false false v = other_overflow

pub applied_paid : (line : ℕ) (op : Op) (a b : ℤ) → IsPaid (at_line line (applied op a b))
applied_paid line op a b =
    chosen_paid line (divides op && int_eq b (pos 0)) (is_int (bounded op a b)) (value op a b)

on_paid :
    (r : Result ℤ Fault) (go : ℤ → Result ℤ Fault)
    → IsPaid r
    → ((v : ℤ) → IsPaid (go v))
    → IsPaid (on_value r go)
on_paid (Ok v) go h k = k v
on_paid (Err fault) go h k = h

by_bool : (b : Bool) (r q : Result ℤ Fault) → IsPaid r → IsPaid q → IsPaid (cond b r q)
by_bool true r q h g = h
by_bool false r q h g = g

signed_paid : (kind : SignKind) (line : ℕ) (v : ℤ) → IsPaid (signed_by kind line v)
signed_paid Minus line v = chosen_paid line false (is_int (neg_ℤ v)) (neg_ℤ v)
signed_paid Plus line v = tt
signed_paid Bang line v = tt

signs_paid : (signs : List Sign) (v : ℤ) → IsPaid (signs_value signs v)
signs_paid [] v = tt
signs_paid (sign ∷ signs) v =
    on_paid (signs_value signs v) (signed_by sign.kind sign.line) (signs_paid signs v) (signed_paid sign.kind sign.line)

element_paid : (line : ℕ) (o : Option ℕ) (row : List ℤ) → IsPaid (element_value line o row)
element_paid line None row = other_index
element_paid line (Some column) row = tt

mutual
  pub value_paid : (e : Expression) (scene : Scene) (s : Progress) → IsPaid (value_of e scene s)
  value_paid (number n) scene s = tt
  value_paid (name line word) scene s = tt
  value_paid (field line word variable) scene s = tt
  value_paid (get line word) scene s = tt
  value_paid (at line word index_line index) scene s =
      on_paid (value_of index scene s) _ (value_paid index scene s)
      (λ i. element_paid index_line (element_column (array_named word scene s) i) s.memory)
  value_paid (field_at line word variable index_line index) scene s =
      on_paid (value_of index scene s) _ (value_paid index scene s)
      (λ i.
      element_paid index_line (element_column (member_read scene.context word variable) i) (row_read word scene))
  value_paid (signed signs e) scene s =
      on_paid (value_of e scene s) (signs_value signs) (value_paid e scene s) (signs_paid signs)
  value_paid (chain e links) scene s =
      on_paid (value_of e scene s) (chain_value links scene s) (value_paid e scene s) (chain_paid links scene s)
  value_paid (all_of parts) scene s = all_paid parts scene s
  value_paid (any_of parts) scene s = any_paid parts scene s

  chain_paid : (links : Links) (scene : Scene) (s : Progress) (v : ℤ) → IsPaid (chain_value links scene s v)
  chain_paid no_links scene s v = tt
  chain_paid (link op line e links) scene s v =
      on_paid (value_of e scene s) _ (value_paid e scene s)
      (λ w.
      on_paid (at_line line (applied op v w)) (chain_value links scene s) (applied_paid line op v w)
      (chain_paid links scene s))

  all_paid : (parts : Expressions) (scene : Scene) (s : Progress) → IsPaid (all_value parts scene s)
  all_paid no_parts scene s = tt
  all_paid (part e parts) scene s =
      on_paid (value_of e scene s) _ (value_paid e scene s)
      (λ v. by_bool (holds v) (all_value parts scene s) (Ok (pos 0)) (all_paid parts scene s) tt)

  any_paid : (parts : Expressions) (scene : Scene) (s : Progress) → IsPaid (any_value parts scene s)
  any_paid no_parts scene s = tt
  any_paid (part e parts) scene s =
      on_paid (value_of e scene s) _ (value_paid e scene s)
      (λ v. by_bool (holds v) (Ok (pos 1)) (any_value parts scene s) tt (any_paid parts scene s))

-- ---- arguments

one_paid : (r : Result ℤ Fault) → IsPaid r → IsPaid (one_of r)
one_paid (Ok v) h = tt
one_paid (Err fault) h = h

argument_paid : (e : Expression) (scene : Scene) (s : Progress) → IsPaid (argument_values e scene s)
argument_paid (number n) scene s = tt
argument_paid (name line word) scene s = tt
argument_paid (field line word variable) scene s = tt
argument_paid (get line word) scene s = tt
argument_paid (at line word index_line index) scene s =
    one_paid (value_of (at line word index_line index) scene s) (value_paid (at line word index_line index) scene s)
argument_paid (field_at line word variable index_line index) scene s =
    one_paid (value_of (field_at line word variable index_line index) scene s)
    (value_paid (field_at line word variable index_line index) scene s)
argument_paid (signed signs e) scene s =
    one_paid (value_of (signed signs e) scene s) (value_paid (signed signs e) scene s)
argument_paid (chain e links) scene s = one_paid (value_of (chain e links) scene s) (value_paid (chain e links) scene s)
argument_paid (all_of parts) scene s = one_paid (value_of (all_of parts) scene s) (value_paid (all_of parts) scene s)
argument_paid (any_of parts) scene s = one_paid (value_of (any_of parts) scene s) (value_paid (any_of parts) scene s)

both_paid : (r q : Result (List ℤ) Fault) → IsPaid r → IsPaid q → IsPaid (values_and r q)
both_paid (Err fault) q h g = h
both_paid (Ok values) (Err fault) h g = g
both_paid (Ok values) (Ok more) h g = tt

pub values_paid : (parts : Expressions) (scene : Scene) (s : Progress) → IsPaid (values_of parts scene s)
values_paid no_parts scene s = tt
values_paid (part e parts) scene s =
    both_paid (argument_values e scene s) (values_of parts scene s) (argument_paid e scene s)
    (values_paid parts scene s)
