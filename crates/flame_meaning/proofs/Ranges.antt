-- Values are within int.
use Rattle.std.proofs.Common.{◌≡◌, ℕ, zero, suc, ◌+◌, Bool, true, false, cond, List, [], ◌∷◌, ◌++◌, Option, Some}
use Rattle.std.proofs.Common.{None, refl, IfOk}
use Rattle.std.specs.Prelude.{ℤ, pos, neg_ℤ, not, slice_set, unwrap_or}
use Rattle.std.specs.Prelude.{Result, Ok, Err, ◌==◌}
use Rattle.std.specs.Str.{bytes_eq}
use Rattle.flame_ops.specs.declared.integers.Cause.{Cause}
use Rattle.flame_ops.specs.declared.integers.Op.{Op}
use Rattle.flame_ops.specs.declared.integers.Cause.TheVariants.{Overflow}
use Rattle.flame_ops.specs.Integers.{is_int, applied, negated, truth}
use Rattle.flame_ops.proofs.Overflows.{answers}
use Rattle.flame_spec.specs.declared.faults.Fault.{Fault}
use Rattle.flame_spec.specs.declared.models.Variable.{Variable}
use Rattle.flame_spec.specs.declared.models.MessageType.{MessageType}
use Rattle.flame_spec.specs.declared.outcomes.Sent.{Sent}
use Rattle.flame_spec.specs.declared.outcomes.Born.{Born}
use Rattle.flame_spec.specs.declared.trees.Sign.{Sign}
use Rattle.flame_spec.specs.declared.trees.SignKind.{SignKind}
use Rattle.flame_spec.specs.declared.trees.SignKind.TheVariants.{Minus, Plus, Bang}
use Rattle.flame_spec.specs.Conditions.{number_at}
use Rattle.flame_spec.specs.Definitions.{Definition}
use Rattle.flame_spec.specs.ExpressionFaults.{member_read}
use Rattle.flame_spec.specs.LookUps.{Given, in_memory, constant, iteration, memory_got, message_read}
use Rattle.flame_spec.specs.Scopes.{memory_at, messages_at, given_at}
use Rattle.flame_spec.specs.Trees.{Expression, number, name, field, get, at, field_at, signed, chain, all_of, any_of}
use Rattle.flame_spec.specs.Trees.{Expressions, no_parts, part, Links, no_links, link}
use Rattle.flame_meaning.specs.Scenes.{Scene, Progress, Local, Current, Calls, gave, local_value, value_given, named}
use Rattle.flame_meaning.specs.Scenes.{array_named, value_found, row_over, row_found, row_read, field_value}
use Rattle.flame_meaning.specs.Scenes.{element_column, numbers_from, numbers_by, numbers_of}
use Rattle.flame_meaning.specs.Expressions.{on_value, at_line, holds, signed_by, signs_value, element_value, value_of}
use Rattle.flame_meaning.specs.Expressions.{chain_value, all_value, any_value, one_of, argument_values, values_and}
use Rattle.flame_meaning.specs.Expressions.{values_of}
use Rattle.flame_meaning.specs.Statements.{fitted}
use Rattle.flame_meaning.specs.RangeLaws.{IsInt, Each, AreInts, WritesInts, PartsWriteInts, LinksWriteInts}
use Rattle.flame_meaning.specs.RangeLaws.{BodyWritesInts, AllWriteInts}

-- ---- rows

zero_int : IsInt (pos 0)
zero_int = refl

one_int : IsInt (pos 1)
one_int = refl

pub number_int : (row : List ℤ) (k : ℕ) → AreInts row → IsInt (number_at row k)
number_int [] k are = zero_int
number_int (v ∷ row) zero are = are.0
number_int (v ∷ row) (suc k) are = number_int row k are.1

pub set_ints : (row : List ℤ) (k : ℕ) (v : ℤ) → AreInts row → IsInt v → AreInts (slice_set row k v)
set_ints [] k v are is = tt
set_ints (w ∷ row) zero v are is = (is, are.1)
set_ints (w ∷ row) (suc k) v are is = (are.0, set_ints row k v are.1 is)

numbers_ints : (n column : ℕ) (row : List ℤ) → AreInts row → AreInts (numbers_from n column row)
numbers_ints zero column row are = tt
numbers_ints (suc n) column row are = (number_int row column are, numbers_ints n (column + 1) row are)

joined_ints : (xs ys : List ℤ) → AreInts xs → AreInts ys → AreInts (xs ++ ys)
joined_ints [] ys are more = more
joined_ints (x ∷ xs) ys are more = (are.0, joined_ints xs ys are.1 more)

pub fitted_ints : (n : ℕ) (values : List ℤ) → AreInts values → AreInts (fitted n values)
fitted_ints zero values are = tt
fitted_ints (suc n) [] are = (zero_int, fitted_ints n [] are)
fitted_ints (suc n) (v ∷ values) are = (are.0, fitted_ints n values are.1)

pub each_joined : {X : Type 0} (P : X → Type 0) (xs : List X) (x : X) → Each P xs → P x → Each P (xs ++ x ∷ [])
each_joined P [] x are is = (is, tt)
each_joined P (y ∷ xs) x are is = (are.0, each_joined P xs x are.1 is)

-- ---- scenes and progress

-- a value or a fault
abbrev pub OkInt : Result ℤ Fault → Type 0
OkInt (Ok v) = IsInt v
OkInt (Err fault) = Unit {0}

abbrev pub OkInts : Result (List ℤ) Fault → Type 0
OkInts (Ok values) = AreInts values
OkInts (Err fault) = Unit {0}

-- helpers give values within int for values within int
pub record GiveInts (calls : Calls) : Type 0 where
  pub give :
      (line : ℕ) (helper : Definition) (values : List ℤ) (fuel : ℕ) (v : ℤ) (left : ℕ)
      → BodyWritesInts helper.body
      → AreInts values
      → calls line helper values fuel ≡ gave v left
      → IsInt v

pub record SceneInts (scene : Scene) : Type 0 where
  pub constants : AreInts scene.constants
  pub iteration : IsInt scene.iteration
  pub readings : Each (λ rows. Each AreInts rows) scene.readings
  pub open_loops : Each (λ (current : Current). AreInts current.row) scene.open_loops
  pub helpers : AllWriteInts scene.context.helpers
  pub calls : GiveInts scene.answers

-- ---- what words stand for

local_int : (word : List ℕ) (locals : List Local) (other : ℤ) → Each (λ (x : Local). IsInt x.value) locals → IsInt other → IsInt (unwrap_or (local_value word locals) other)
local_int word [] other are is = is
local_int word (x ∷ locals) other are is = by_test (bytes_eq x.name word) (local_int word locals other are.1 is)
  where
    by_test :
        (b : Bool)
        → IsInt (unwrap_or (local_value word locals) other)
        → IsInt (unwrap_or (cond b (Some x.value) (local_value word locals)) other)
    by_test true more = are.0
    by_test false more = more

row_int : (message : ℕ) (open_loops : List Current) → Each (λ (current : Current). AreInts current.row) open_loops → AreInts (row_over message open_loops)
row_int message [] are = tt
row_int message (current ∷ outer) are = by_test (current.message == message) (row_int message outer are.1)
  where
    by_test : (b : Bool) → AreInts (row_over message outer) → AreInts (cond b current.row (row_over message outer))
    by_test true more = are.0
    by_test false more = more

row_found_int : (o : Option (ℕ × MessageType)) (open_loops : List Current) → Each (λ (current : Current). AreInts current.row) open_loops → AreInts (row_found o open_loops)
row_found_int None open_loops are = tt
row_found_int (Some found) open_loops are = row_int found.0 open_loops are

found_int : (o : Option (ℕ × Variable)) (row : List ℤ) → AreInts row → IsInt (value_found o row)
found_int None row are = zero_int
found_int (Some found) row are = number_int row found.0 are

numbers_by_ints : (o : Option ℕ) (column : ℕ) (row : List ℤ) (v : ℤ) → AreInts row → IsInt v → AreInts (numbers_by o column row v)
numbers_by_ints None column row v are is = (is, tt)
numbers_by_ints (Some n) column row v are is = numbers_ints n column row are

numbers_of_ints : (o : Option (ℕ × Variable)) (row : List ℤ) (v : ℤ) → AreInts row → IsInt v → AreInts (numbers_of o row v)
numbers_of_ints None row v are is = (is, tt)
numbers_of_ints (Some found) row v are is = numbers_by_ints found.1.length found.0 row v are is

element_int : (line : ℕ) (o : Option ℕ) (row : List ℤ) → AreInts row → OkInt (element_value line o row)
element_int line None row are = tt
element_int line (Some column) row are = number_int row column are

-- ---- operators

on_int : (r : Result ℤ Fault) (go : ℤ → Result ℤ Fault) → OkInt r → ((v : ℤ) → IsInt v → OkInt (go v)) → OkInt (on_value r go)
on_int (Ok v) go is k = k v is
on_int (Err fault) go is k = tt

line_int : (line : ℕ) (r : Result ℤ Cause) → IfOk r (λ v. is_int v ≡ true) → OkInt (at_line line r)
line_int line (Ok v) is = is
line_int line (Err cause) is = tt

pub applied_int : (line : ℕ) (op : Op) (a b : ℤ) → IsInt a → IsInt b → OkInt (at_line line (applied op a b))
applied_int line op a b is also_is = line_int line (applied op a b) (answers op a b is also_is)

truth_int : (b : Bool) → IsInt (truth b)
truth_int true = one_int
truth_int false = zero_int

negated_int : (line : ℕ) (v : ℤ) → OkInt (at_line line (negated v))
negated_int line v = by_test (is_int (neg_ℤ v)) refl
  where
    by_test : (b : Bool) → is_int (neg_ℤ v) ≡ b → OkInt (at_line line (cond b (Ok (neg_ℤ v)) (Err Overflow)))
    by_test true e = e
    by_test false e = tt

sign_int : (kind : SignKind) (line : ℕ) (v : ℤ) → IsInt v → OkInt (signed_by kind line v)
sign_int Minus line v is = negated_int line v
sign_int Plus line v is = is
sign_int Bang line v is = truth_int (not (holds v))

signs_int : (signs : List Sign) (v : ℤ) → IsInt v → OkInt (signs_value signs v)
signs_int [] v is = is
signs_int (sign ∷ signs) v is = on_int (signs_value signs v) _ (signs_int signs v is) (λ w h. sign_int sign.kind sign.line w h)

bool_int : (b : Bool) (r q : Result ℤ Fault) → OkInt r → OkInt q → OkInt (cond b r q)
bool_int true r q h g = h
bool_int false r q h g = g

pub record ProgressInts (s : Progress) : Type 0 where
  pub memory : AreInts s.memory
  pub locals : Each (λ (x : Local). IsInt x.value) s.locals
  pub sent : Each (λ (x : Sent). AreInts x.row) s.sent
  pub born : Each (λ (x : Born). AreInts x.row) s.born

-- ---- expressions

module _ (scene : Scene) (s : Progress) (known : SceneInts scene) (has : ProgressInts s) where
  given_int : (o : Option Given) → IsInt (value_given o scene s)
  given_int None = zero_int
  given_int (Some (in_memory column variable)) = number_int s.memory column has.memory
  given_int (Some (constant k)) = number_int scene.constants k known.constants
  given_int (Some iteration) = known.iteration

  pub named_int : (word : List ℕ) → IsInt (named word scene s)
  named_int word = local_int word s.locals (value_given (given_at scene.context word) scene s) has.locals (given_int (given_at scene.context word))

  read_ints : (word : List ℕ) → AreInts (row_read word scene)
  read_ints word = row_found_int (message_read (messages_at scene.context) word) scene.open_loops known.open_loops

  mutual
    pub value_int : (e : Expression) → WritesInts e → OkInt (value_of e scene s)
    value_int (number n) writes = writes
    value_int (name line word) writes = named_int word
    value_int (field line word variable) writes =
        found_int (member_read scene.context word variable) (row_read word scene) (read_ints word)
    value_int (get line word) writes = found_int (memory_got (memory_at scene.context) word) s.memory has.memory
    value_int (at line word index_line index) writes =
        on_int (value_of index scene s) _ (value_int index writes)
        (λ v is. element_int index_line (element_column (array_named word scene s) v) s.memory has.memory)
    value_int (field_at line word variable index_line index) writes =
        on_int (value_of index scene s) _ (value_int index writes)
        (λ v is. element_int index_line (element_column (member_read scene.context word variable) v) (row_read word scene) (read_ints word))
    value_int (signed signs e) writes = on_int (value_of e scene s) _ (value_int e writes) (λ v is. signs_int signs v is)
    value_int (chain e links) writes = on_int (value_of e scene s) _ (value_int e writes.0) (λ v is. chain_int links v writes.1 is)
    value_int (all_of parts) writes = all_int parts writes
    value_int (any_of parts) writes = any_int parts writes

    chain_int : (links : Links) (v : ℤ) → LinksWriteInts links → IsInt v → OkInt (chain_value links scene s v)
    chain_int no_links v writes is = is
    chain_int (link op line e links) v writes is =
        on_int (value_of e scene s) _ (value_int e writes.0)
        (λ w also_is. on_int (at_line line (applied op v w)) _ (applied_int line op v w is also_is)
        (λ u both. chain_int links u writes.1 both))

    all_int : (parts : Expressions) → PartsWriteInts parts → OkInt (all_value parts scene s)
    all_int no_parts writes = one_int
    all_int (part e parts) writes =
        on_int (value_of e scene s) _ (value_int e writes.0)
        (λ v is. bool_int (holds v) (all_value parts scene s) (Ok (pos 0)) (all_int parts writes.1) zero_int)

    any_int : (parts : Expressions) → PartsWriteInts parts → OkInt (any_value parts scene s)
    any_int no_parts writes = zero_int
    any_int (part e parts) writes =
        on_int (value_of e scene s) _ (value_int e writes.0)
        (λ v is. bool_int (holds v) (Ok (pos 1)) (any_value parts scene s) one_int (any_int parts writes.1))

  one_ints : (r : Result ℤ Fault) → OkInt r → OkInts (one_of r)
  one_ints (Ok v) is = (is, tt)
  one_ints (Err fault) is = tt

  both_ints : (r q : Result (List ℤ) Fault) → OkInts r → OkInts q → OkInts (values_and r q)
  both_ints (Err fault) q is more = tt
  both_ints (Ok xs) (Err fault) is more = tt
  both_ints (Ok xs) (Ok ys) is more = joined_ints xs ys is more

  argument_ints : (e : Expression) → WritesInts e → OkInts (argument_values e scene s)
  argument_ints (name line word) writes =
      numbers_of_ints (array_named word scene s) s.memory (named word scene s) has.memory (named_int word)
  argument_ints (field line word variable) writes =
      numbers_of_ints (member_read scene.context word variable) (row_read word scene) (field_value word variable scene) (read_ints word)
      (found_int (member_read scene.context word variable) (row_read word scene) (read_ints word))
  argument_ints (number n) writes = one_ints (value_of (number n) scene s) (value_int (number n) writes)
  argument_ints (get line word) writes = one_ints (value_of (get line word) scene s) (value_int (get line word) writes)
  argument_ints (at line word index_line index) writes =
      one_ints (value_of (at line word index_line index) scene s) (value_int (at line word index_line index) writes)
  argument_ints (field_at line word variable index_line index) writes =
      one_ints (value_of (field_at line word variable index_line index) scene s) (value_int (field_at line word variable index_line index) writes)
  argument_ints (signed signs e) writes = one_ints (value_of (signed signs e) scene s) (value_int (signed signs e) writes)
  argument_ints (chain e links) writes = one_ints (value_of (chain e links) scene s) (value_int (chain e links) writes)
  argument_ints (all_of parts) writes = one_ints (value_of (all_of parts) scene s) (value_int (all_of parts) writes)
  argument_ints (any_of parts) writes = one_ints (value_of (any_of parts) scene s) (value_int (any_of parts) writes)

  pub values_ints : (parts : Expressions) → PartsWriteInts parts → OkInts (values_of parts scene s)
  values_ints no_parts writes = tt
  values_ints (part e parts) writes =
      both_ints (argument_values e scene s) (values_of parts scene s) (argument_ints e writes.0) (values_ints parts writes.1)
