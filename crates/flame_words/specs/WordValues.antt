-- What a word is as a value, and why it may not be one.
use Rattle.std.specs.Prelude.{ℕ, ◌+◌, ◌*◌, List, [], ◌∷◌, length, nat_lt, nat_le, codes}
use Rattle.std.specs.Prelude.{Bool, not, ◌&&◌, if◌then◌else◌, Option, Some, None}
use Rattle.std.specs.List.{list_all}
use Rattle.std.specs.Char.{is_ascii_digit, digit_value}
use Rattle.std.specs.Str.{bytes_eq}
use Rattle.flame_words.specs.declared.orders.Way.{Way}
use Rattle.flame_words.specs.declared.orders.Way.TheVariants.{Layers, Flow, Nodes}
use Rattle.flame_words.specs.declared.table.Takes.{Takes}
use Rattle.flame_words.specs.declared.table.Takes.TheVariants.{Text, Number, OneOf}
use Rattle.flame_words.specs.declared.faults.Usage.{Usage}
use Rattle.flame_words.specs.declared.faults.Usage.TheVariants.{BadNumber, OutOfRange, BadChoice}
use Rattle.flame_words.specs.CommandTable.{is_among}

-- one or more digits; leading zeros are allowed [own]
abbrev pub is_number : List ℕ → Bool
is_number word = nat_lt 0 (length word) && list_all is_ascii_digit word

-- the number that these digits write behind those that write a number [own]
abbrev pub value_behind : ℕ → List ℕ → ℕ
value_behind number [] = number
value_behind number (digit ∷ digits) = value_behind (10 * number + digit_value digit) digits

-- the number that digits write, of any length [own]
abbrev pub number_value : List ℕ → ℕ
number_value digits = value_behind 0 digits

-- the way that a word names; a word that names none has a fault [own]
abbrev pub way_of : List ℕ → Way
way_of word =
    if bytes_eq word (codes "flow") then Flow else if bytes_eq word (codes "nodes") then Nodes else Layers

-- the format of files that a word names; a word that names none has a fault [own]
abbrev pub format_of : List ℕ → ℕ
format_of word = if bytes_eq word (codes "2") then 2 else 1

-- why the word of this number, counted from 1, cannot be taken so [own]
abbrev pub fault_as : Takes → ℕ → List ℕ → Option Usage
fault_as Text number word = None
fault_as (Number least most) number word =
    if not (is_number word) then Some (BadNumber number)
    else if nat_le least (number_value word) && nat_le (number_value word) most then None
    else Some (OutOfRange number)
fault_as (OneOf choice) number word = if is_among choice word then None else Some (BadChoice number)
