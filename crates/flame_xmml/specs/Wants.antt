-- What the texts, numbers and truths of a model are read as. None is read of null, so of nothing that is missing.
use Rattle.std.specs.Prelude.{ℕ, List, length, drop, nat_eq, codes, ℤ, pos, int_le, unsigned_abs}
use Rattle.std.specs.Prelude.{Bool, true, false, ◌==◌, ◌&&◌, if◌then◌else◌, Option, Some, None, option_map}
use Rattle.std.specs.List.{list_all, starts_with}
use Rattle.std.specs.Char.{is_ascii_digit}
use Rattle.std.specs.Str.{bytes_eq}
use Rattle.std.specs.Str.Parse.{starts_with_minus, signed_digits_value}
use Rattle.serde_json.specs.Data.{Data, boolean, number, string}
use Rattle.serde_json.specs.Find.{as_str, as_integer}
use Rattle.flame_ops.specs.Integers.{is_int}
use Rattle.flame_spec.specs.Steps.{◌>>=◌, only_where}
use Rattle.flame_spec.specs.Json.{kept}
use Rattle.flame_spec.specs.Names.{is_name, is_filled}
use Rattle.flame_ops.specs.declared.integers.Op.TheVariants.{Lt, Gt, Le, Ge, Eq, Ne}
use Rattle.flame_spec.specs.declared.conditions.Operand.{Operand}
use Rattle.flame_spec.specs.declared.conditions.Operand.TheVariants.{Number, Agent, Message}
use Rattle.flame_xmml.specs.ValueParts.{members}
use Rattle.flame_xmml.specs.declared.words.Connective.{Connective}
use Rattle.flame_xmml.specs.declared.words.Connective.TheVariants.{Compare, And, Or}

-- ---- texts

-- Name: a text that is a name [XMML]
abbrev pub name_of : Data → Option (List ℕ)
name_of value = as_str value >>= kept is_name

-- State and FileName: a text of at least one byte [XMML]
abbrev pub filled_of : Data → Option (List ℕ)
filled_of value = as_str value >>= kept is_filled

-- Int: the text `int` [XMML]
abbrev pub int_type_of : Data → Option (List ℕ)
int_type_of value = as_str value >>= kept (bytes_eq (codes "int"))

-- `ascend` or `descend`: whether the greatest comes first [XMML]
abbrev pub order_named : List ℕ → Option Bool
order_named text =
    if bytes_eq text (codes "ascend") then Some false
    else if bytes_eq text (codes "descend") then Some true
    else None

-- Order: the text of an order [XMML]
abbrev pub order_of : Data → Option Bool
order_of value = as_str value >>= order_named

-- Empty: a list of no member [own]
abbrev pub empty_of : Data → Option (List Data)
empty_of value = do
  values ← members value
  _ ← only_where (length values == 0)
  Some values

-- ---- truths

-- `true` or `false` [XMML]
abbrev pub truth_named : List ℕ → Option Bool
truth_named text =
    if bytes_eq text (codes "true") then Some true
    else if bytes_eq text (codes "false") then Some false
    else None

-- Truth: true, false, or the text of one of them [XMML]
abbrev pub truth_of : Data → Option Bool
truth_of (boolean truth) = Some truth
truth_of (string text) = truth_named text
truth_of value = None

-- ---- whole numbers

-- an optional `-` and one or more digits, and nothing else [own]
abbrev pub is_whole : List ℕ → Bool
is_whole text =
    let digits = drop (if starts_with_minus text then 1 else 0) text in
    is_filled digits && list_all is_ascii_digit digits

-- the number that such a text writes, of whatever length [own]
abbrev pub whole_named : List ℕ → Option ℤ
whole_named text = if is_whole text then Some (signed_digits_value 10 text) else None

-- a whole number: a JSON number that is an integer of 64 bits, or a text [own]
abbrev pub whole_of : Data → Option ℤ
whole_of (number n) = as_integer n
whole_of (string text) = whole_named text
whole_of value = None

-- the number, where int holds it [C, 6.2.5]
abbrev pub held : ℤ → Option ℤ
held z = if is_int z then Some z else None

-- a whole number in the range of int [own]
abbrev pub int_of : Data → Option ℤ
int_of value = whole_of value >>= held

-- Positive: a whole number from 1 to 2147483647 [own]
abbrev pub positive_of : Data → Option ℤ
positive_of value = do
  z ← int_of value
  _ ← only_where (int_le (pos 1) z)
  Some z

-- Length: a whole number from 1 to 1000 [own]
abbrev pub length_of : Data → Option ℕ
length_of value = do
  z ← int_of value
  _ ← only_where (int_le (pos 1) z && int_le z (pos 1000))
  Some (unsigned_abs z)

-- ---- operands

-- the first of two readings that there is [own]
abbrev pub either : {X : Type 0} → Option X → Option X → Option X
either None second = second
either (Some x) second = Some x

-- what follows the prefix of a text [own]
abbrev pub after_prefix : List ℕ → List ℕ → Option (List ℕ)
after_prefix prefix text = if starts_with nat_eq text prefix then Some (drop (length prefix) text) else None

-- the name that follows the prefix of a text [own]
abbrev pub name_after : List ℕ → List ℕ → Option (List ℕ)
name_after prefix text = after_prefix prefix text >>= kept is_name

-- `a.` and a name [XMML]
abbrev pub agent_named : List ℕ → Option Operand
agent_named text = option_map (λ name. Agent name) (name_after (codes "a.") text)

-- `m.` and a name [XMML]
abbrev pub message_named : List ℕ → Option Operand
message_named text = option_map (λ name. Message name) (name_after (codes "m.") text)

-- a number [XMML]
abbrev pub number_named : Data → Option Operand
number_named value = option_map (λ z. Number z) (int_of value)

-- Operand: a whole number in the range of int, or a text of `a.` or `m.` and a name [XMML]
abbrev pub operand_of : Data → Option Operand
operand_of value =
    either (number_named value) (as_str value >>= (λ text. either (agent_named text) (message_named text)))

-- Phase: a whole number in the range of int, or a text of `a.` and a name [XMML]
abbrev pub phase_of : Data → Option Operand
phase_of value = either (number_named value) (as_str value >>= agent_named)

-- ---- operators

-- one of eight texts [XMML]
abbrev pub connective_named : List ℕ → Option Connective
connective_named text =
    if bytes_eq text (codes "EQ") then Some (Compare Eq)
    else if bytes_eq text (codes "NEQ") then Some (Compare Ne)
    else if bytes_eq text (codes "LT") then Some (Compare Lt)
    else if bytes_eq text (codes "GT") then Some (Compare Gt)
    else if bytes_eq text (codes "LEQ") then Some (Compare Le)
    else if bytes_eq text (codes "GEQ") then Some (Compare Ge)
    else if bytes_eq text (codes "AND") then Some And
    else if bytes_eq text (codes "OR") then Some Or
    else None

-- Op: the text of an operator [XMML]
abbrev pub connective_of : Data → Option Connective
connective_of value = as_str value >>= connective_named
