-- The faults of an expression in a function's body, in source order.
use Rattle.std.specs.Prelude.{ℕ, List, [], ◌∷◌, ◌++◌, Bool, true, false, not, Option, Some, None, is_some}
use Rattle.flame_spec.specs.declared.models.MessageType.{MessageType}
use Rattle.flame_spec.specs.declared.models.Variable.{Variable}
use Rattle.flame_spec.specs.declared.faults.CheckFault.{CheckFault}
use Rattle.flame_spec.specs.declared.faults.CheckKind.{CheckKind}
use Rattle.flame_spec.specs.declared.faults.CheckKind.TheVariants.{UnknownName, UnknownCall, OutsideLoop, NotArray, NeedsIndex}
use Rattle.flame_spec.specs.Columns.{variable_named, is_array}
use Rattle.flame_spec.specs.LookUps.{Given, in_memory, constant, iteration, memory_got, message_read}
use Rattle.flame_spec.specs.Trees.{Expression, number, name, field, get, at, field_at, signed, chain, all_of, any_of}
use Rattle.flame_spec.specs.Trees.{Expressions, no_parts, part, Links, no_links, link}
use Rattle.flame_spec.specs.Scopes.{Context, Sight, memory_at, messages_at, given_at, is_visible, is_open_over}

-- where the test holds, a fault of this kind at the word on this line [own]
abbrev pub fault_where : Bool → Context → CheckKind → ℕ → List ℕ → List CheckFault
fault_where true context kind line word = record { kind = kind; file = context.file; line = line; name = word } ∷ []
fault_where false context kind line word = []

-- ---- names

-- a word that is read or assigned, but for what its index says [own]
abbrev pub unknown_faults : Context → Sight → ℕ → List ℕ → List CheckFault
unknown_faults context sight line word = fault_where (not (is_visible context sight word)) context UnknownName line word

-- what the model gives is an array [own]
abbrev pub gives_array : Option Given → Bool
gives_array (Some (in_memory column variable)) = is_array variable
gives_array _ = false

-- the word names an array of the memory, in capitals [own]
abbrev pub names_array : Context → List ℕ → Bool
names_array context word = gives_array (given_at context word)

-- an array that stands without an index [own]
abbrev pub bare_faults : Context → ℕ → List ℕ → List CheckFault
bare_faults context line word = fault_where (names_array context word) context NeedsIndex line word

-- a name with an index that is no array [own]
abbrev pub indexed_faults : Context → ℕ → List ℕ → List CheckFault
indexed_faults context line word = fault_where (not (names_array context word)) context NotArray line word

-- ---- the form `get_x()`

-- the word is not `get_` and a memory variable [FLAME User Manual]
abbrev pub getter_faults : Context → Option (ℕ × Variable) → ℕ → List ℕ → List CheckFault
getter_faults context found line word = fault_where (not (is_some found)) context UnknownCall line word

-- a variable was found, and it is an array [own]
abbrev pub is_found_array : Option (ℕ × Variable) → Bool
is_found_array None = false
is_found_array (Some found) = is_array found.1

-- the form `get_x()` [own]
abbrev pub get_faults : Context → ℕ → List ℕ → List CheckFault
get_faults context line word =
    getter_faults context (memory_got (memory_at context) word) line word
    ++ fault_where (is_found_array (memory_got (memory_at context) word)) context NeedsIndex line word

-- ---- the form `word->variable`; all its faults stand on the line of the word

-- with this variable of the message, where there is one, but for what its index says [own]
abbrev pub member_faults : Context → Option (ℕ × Variable) → ℕ → List ℕ → List CheckFault
member_faults context found line variable = fault_where (not (is_some found)) context UnknownName line variable

-- the word reads a row of this message, or of none [own]
abbrev pub row_faults_of : Context → Sight → Option (ℕ × MessageType) → ℕ → List ℕ → List ℕ → List CheckFault
row_faults_of context sight None line word variable = fault_where true context UnknownName line word
row_faults_of context sight (Some found) line word variable =
    fault_where (not (is_open_over sight found.1)) context OutsideLoop line word
    ++ member_faults context (variable_named found.1.variables variable) line variable

-- but for what its index says [own]
abbrev pub row_faults : Context → Sight → ℕ → List ℕ → List ℕ → List CheckFault
row_faults context sight line word variable =
    row_faults_of context sight (message_read (messages_at context) word) line word variable

-- the variable of this name of a message that was found [own]
abbrev pub member_of : Option (ℕ × MessageType) → List ℕ → Option (ℕ × Variable)
member_of None variable = None
member_of (Some found) variable = variable_named found.1.variables variable

-- the variable that is read of the row, with its column [FLAME User Manual]
abbrev pub member_read : Context → List ℕ → List ℕ → Option (ℕ × Variable)
member_read context word variable = member_of (message_read (messages_at context) word) variable

-- without an index [own]
abbrev pub field_faults : Context → Sight → ℕ → List ℕ → List ℕ → List CheckFault
field_faults context sight line word variable =
    row_faults context sight line word variable
    ++ fault_where (is_found_array (member_read context word variable)) context NeedsIndex line variable

-- with an index, but for the index itself [own]
abbrev pub field_at_faults : Context → Sight → ℕ → List ℕ → List ℕ → List CheckFault
field_at_faults context sight line word variable =
    row_faults context sight line word variable
    ++ fault_where (not (is_found_array (member_read context word variable))) context NotArray line variable

-- ---- expressions

abbrev mutual
  -- an expression, from left to right [own]
  pub expression_faults : Context → Sight → Expression → List CheckFault
  expression_faults context sight (number n) = []
  expression_faults context sight (name line word) = unknown_faults context sight line word ++ bare_faults context line word
  expression_faults context sight (field line word variable) = field_faults context sight line word variable
  expression_faults context sight (get line word) = get_faults context line word
  expression_faults context sight (at line word index_line index) =
      unknown_faults context sight line word
      ++ indexed_faults context line word
      ++ expression_faults context sight index
  expression_faults context sight (field_at line word variable index_line index) =
      field_at_faults context sight line word variable ++ expression_faults context sight index
  expression_faults context sight (signed signs e) = expression_faults context sight e
  expression_faults context sight (chain e more) = expression_faults context sight e ++ links_faults context sight more
  expression_faults context sight (all_of parts) = parts_faults context sight parts
  expression_faults context sight (any_of parts) = parts_faults context sight parts

  -- expressions, one after another [own]
  pub parts_faults : Context → Sight → Expressions → List CheckFault
  parts_faults context sight no_parts = []
  parts_faults context sight (part e parts) = expression_faults context sight e ++ parts_faults context sight parts

  -- the operands of a chain [own]
  pub links_faults : Context → Sight → Links → List CheckFault
  links_faults context sight no_links = []
  links_faults context sight (link op line e links) = expression_faults context sight e ++ links_faults context sight links

-- an expression that may be missing [own]
abbrev pub optional_faults : Context → Sight → Option Expression → List CheckFault
optional_faults context sight None = []
optional_faults context sight (Some e) = expression_faults context sight e
