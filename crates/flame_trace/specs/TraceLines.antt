-- How the lines of a trace are read.
use Rattle.std.specs.Prelude.{ℕ, ◌+◌, ◌*◌, ◌==◌, nat_le, List, [], ◌∷◌, drop, fold, length, codes}
use Rattle.std.specs.Prelude.{Bool, false, not, ◌&&◌, ◌||◌, Option, Some, None, if◌then◌else◌, option_and_then}
use Rattle.std.specs.Char.{digit_value, is_ascii_digit}
use Rattle.std.specs.List.{list_all, slice_split, join_with_byte, starts_with}
use Rattle.std.specs.Str.{bytes_eq}
use Rattle.flame_events.specs.declared.events.Event.{Event}
use Rattle.flame_events.specs.declared.events.Event.TheVariants as event
use Rattle.flame_trace.specs.declared.heads.Head.{Head}

-- ---- lines and words

-- the byte that ends a line: LF [own]
abbrev pub line_feed : ℕ
line_feed = 10

-- the byte between two words of a line: a space [own]
abbrev pub space : ℕ
space = 32

-- what stands before, between and behind the line feeds of a text [own]
abbrev pub parts : List ℕ → List (List ℕ)
parts bytes = slice_split (λ byte. byte == line_feed) bytes

-- a list without its last element [own]
abbrev pub all_but_last : {X : Type 0} → List X → List X
all_but_last [] = []
all_but_last (x ∷ []) = []
all_but_last (x ∷ next ∷ further) = x ∷ all_but_last (next ∷ further)

-- the lines of a text, each without the line feed that ends it: what stands behind the last line feed is none of them
-- [own]
abbrev pub lines : List ℕ → List (List ℕ)
lines bytes = all_but_last (parts bytes)

-- what stands behind so many lines of a text [own]
abbrev pub behind : ℕ → List ℕ → List ℕ
behind count bytes = join_with_byte line_feed (drop count (parts bytes))

-- the words of a line, which have one space between them [own]
abbrev pub words : List ℕ → List (List ℕ)
words line = slice_split (λ byte. byte == space) line

-- ---- numbers

-- decimal digits without a leading zero: `0`, or a digit from 1 to 9 and any further digits [own]
abbrev pub is_numeral : List ℕ → Bool
is_numeral [] = false
is_numeral (first ∷ further) = list_all is_ascii_digit (first ∷ further) && (not (first == 48) || (length further == 0))

-- the number that decimal digits write [own]
abbrev pub numeral_value : List ℕ → ℕ
numeral_value digits = fold (λ value digit. 10 * value + digit_value digit) 0 digits

-- the number that the word writes in such digits, where it is one from the least to the most
-- [own]
abbrev pub number_within : ℕ → ℕ → List ℕ → Option ℕ
number_within least most word =
    if is_numeral word && nat_le least (numeral_value word) && nat_le (numeral_value word) most then Some (numeral_value word)
    else None

-- the number of a function, a piece or a message: one that 32 bits hold [own]
abbrev pub number_of : List ℕ → Option ℕ
number_of word = number_within 0 4294967295 word

-- ---- line 1

-- the three numbers of line 1, where all are there [own]
abbrev pub head_with : Option ℕ → Option ℕ → Option ℕ → Option Head
head_with (Some iteration) (Some pieces) (Some fuel) =
    Some (record { iteration = iteration; pieces = pieces; fuel = fuel })
head_with iteration pieces fuel = None

-- what these words say as line 1: `trace iteration I pieces P fuel F` [own]
abbrev pub head_in : List (List ℕ) → Option Head
head_in (trace ∷ iteration ∷ i ∷ pieces ∷ p ∷ fuel ∷ f ∷ []) =
    if bytes_eq trace (codes "trace")
    && bytes_eq iteration (codes "iteration")
    && bytes_eq pieces (codes "pieces")
    && bytes_eq fuel (codes "fuel")
    then head_with (number_within 1 2147483647 i) (number_within 1 64 p) (number_within 0 1000000000 f)
    else None
head_in words = None

-- which iteration line 1 says that the trace tells; none where it is not of that form [own]
abbrev pub head_of : List ℕ → Option Head
head_of line = head_in (words line)

-- ---- events

-- the event of this name with one number [own]
abbrev pub event_of_one : List ℕ → ℕ → Option Event
event_of_one name f =
    if bytes_eq name (codes "open") then Some (event.Open f)
    else if bytes_eq name (codes "shut") then Some (event.Shut f)
    else if bytes_eq name (codes "freeze") then Some (event.Freeze f)
    else None

-- the event of this name with two numbers [own]
abbrev pub event_of_two : List ℕ → ℕ → ℕ → Option Event
event_of_two name f k = if bytes_eq name (codes "agent") then Some (event.Agent f k) else None

-- the event of this name with three numbers [own]
abbrev pub event_of_three : List ℕ → ℕ → ℕ → ℕ → Option Event
event_of_three name f k m = if bytes_eq name (codes "handin") then Some (event.HandIn f k m) else None

-- the event that these words tell: `open F`, `shut F`, `freeze M`, `agent F K` or `handin F K M` [own]
abbrev pub event_in : List (List ℕ) → Option Event
event_in (name ∷ f ∷ []) = option_and_then (λ f. event_of_one name f) (number_of f)
event_in (name ∷ f ∷ k ∷ []) =
    option_and_then (λ f. option_and_then (λ k. event_of_two name f k) (number_of k)) (number_of f)
event_in (name ∷ f ∷ k ∷ m ∷ []) =
    option_and_then
    (λ f. option_and_then (λ k. option_and_then (λ m. event_of_three name f k m) (number_of m)) (number_of k))
    (number_of f)
event_in words = None

-- the event that the line tells; none where it tells none [own]
abbrev pub event_of : List ℕ → Option Event
event_of line = event_in (words line)

-- ---- the end

-- the line tells an end: it is `done`, or begins with `fault ` [own]
abbrev pub is_end : List ℕ → Bool
is_end line = bytes_eq line (codes "done") || starts_with (λ one other. one == other) line (codes "fault ")
