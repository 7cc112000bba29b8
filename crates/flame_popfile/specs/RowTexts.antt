-- The texts of rows and bags in both versions.
use Rattle.std.specs.Prelude.{ℕ, ℤ, List, [], ◌∷◌, map, take, drop, codes, Option, Some, None}
use Rattle.std.specs.Fmt.{signed_decimal}
use Rattle.std.specs.List.{concat, join_with_byte, flat_map, zip}
use Rattle.flame_spec.specs.declared.models.AgentType.{AgentType}
use Rattle.flame_spec.specs.declared.models.MessageType.{MessageType}
use Rattle.flame_spec.specs.declared.models.Variable.{Variable}
use Rattle.flame_spec.specs.Columns.{width_of}

-- ---- lists and numbers

-- the byte of a comma [JSON]
abbrev pub comma : ℕ
comma = 44

-- these texts, with commas between them [JSON]
abbrev pub with_commas : List (List ℕ) → List ℕ
with_commas = join_with_byte comma

-- these numbers, with commas between them [JSON]
abbrev pub numbers_text : List ℤ → List ℕ
numbers_text numbers = with_commas (map signed_decimal numbers)

-- a row: the list of its numbers [own]
abbrev pub row_text : List ℤ → List ℕ
row_text row = concat (codes "[" ∷ numbers_text row ∷ codes "]" ∷ [])

-- ---- version 1: each number stands behind the name of its variable

-- a value behind its name [JSON]
abbrev pub named_text : List ℕ → List ℕ → List ℕ
named_text name value = concat (codes "\"" ∷ name ∷ codes "\":" ∷ value ∷ [])

-- the numbers of a variable, with which a row begins: one, or for an array the list of as many as it is long [own]
abbrev pub value_text : Option ℕ → List ℤ → List ℕ
value_text None row = numbers_text (take 1 row)
value_text (Some length) row = row_text (take length row)

-- the variables of a row, in declared order [FLAME User Manual]
abbrev pub variable_texts : List Variable → List ℤ → List (List ℕ)
variable_texts [] row = []
variable_texts (variable ∷ variables) row =
    named_text variable.name (value_text variable.length row)
    ∷ variable_texts variables (drop (width_of variable) row)

-- a row as an object [FLAME User Manual]
abbrev pub object_text : List Variable → List ℤ → List ℕ
object_text variables row = concat (codes "{" ∷ with_commas (variable_texts variables row) ∷ codes "}" ∷ [])

-- the constants, in document order [FLAME User Manual]
abbrev pub constant_texts : List (List ℕ) → List ℤ → List (List ℕ)
constant_texts names values = map (λ (name, value). named_text name (signed_decimal value)) (zip names values)

-- an agent of this type [FLAME User Manual]
abbrev pub agent_text : AgentType → List ℤ → List ℕ
agent_text type row =
    concat (
    codes "{\"name\":\"" ∷ type.name ∷ codes "\",\"memory\":" ∷ object_text type.memory row ∷ codes "}" ∷ []
    )

-- the agents: type by type in document order, and of each type in content order [FLAME User Manual]
abbrev pub agent_texts : List AgentType → List (List (List ℤ)) → List (List ℕ)
agent_texts types bags = flat_map (λ (type, bag). map (agent_text type) bag) (zip types bags)

-- the board of this message, in content order [FLAME User Manual]
abbrev pub board_text : MessageType → List (List ℤ) → List ℕ
board_text message bag =
    concat (
    codes "{\"name\":\""
    ∷ message.name
    ∷ codes "\",\"messages\":["
    ∷ with_commas (map (object_text message.variables) bag)
    ∷ codes "]}"
    ∷ []
    )

-- the boards, in document order [FLAME User Manual]
abbrev pub board_texts : List MessageType → List (List (List ℤ)) → List (List ℕ)
board_texts messages bags = map (λ (message, bag). board_text message bag) (zip messages bags)

-- ---- version 2: each bag is a list of rows

-- a bag under the name of its type or message [own]
abbrev pub bag_text : List ℕ → List (List ℤ) → List ℕ
bag_text name bag =
    concat (
    codes "{\"name\":\"" ∷ name ∷ codes "\",\"rows\":[" ∷ with_commas (map row_text bag) ∷ codes "]}" ∷ []
    )

-- the bags under their names, in document order [own]
abbrev pub bag_texts : List (List ℕ) → List (List (List ℤ)) → List (List ℕ)
bag_texts names bags = map (λ (name, bag). bag_text name bag) (zip names bags)
