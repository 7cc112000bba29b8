-- Define lines: `#define`, a word and a number with its sign, and nothing more but blanks and comments.
use Rattle.std.specs.Prelude.{◌≡◌, ℕ, zero, suc, ℤ, pos, neg_ℤ, nat_le, List, [], ◌∷◌, length, take_while, drop, codes}
use Rattle.std.specs.Prelude.{Bool, true, false, ◌&&◌, if◌then◌else◌, Option, Some, None}
use Rattle.std.specs.Option.{option_map, option_and_then, option_map_or}
use Rattle.flame_ops.specs.Ascii.{begins_word, is_word_byte}
use Rattle.flame_lex.specs.declared.define.Define.{Define}
use Rattle.flame_lex.specs.ByteRuns.{is_blank, is_space_or_tab, is_minus, first_is, begins, behind}
use Rattle.flame_lex.specs.Numerals.{number_value}
use Rattle.flame_lex.specs.SourceWords.{IsPlain}

-- what follows the next `*/` [C, 6.4.9]
abbrev pub after_close : List ℕ → Option (List ℕ)
after_close [] = None
after_close (a ∷ bytes) = if begins (a ∷ bytes) (codes "*/") then Some (drop 1 bytes) else after_close bytes

-- at most so many blanks and comments, laid end to end, are these bytes of one line [own]
abbrev pub is_idle_in : ℕ → List ℕ → Bool
is_idle_in count [] = true
is_idle_in zero (b ∷ bytes) = false
is_idle_in (suc count) (b ∷ bytes) =
    if is_blank b then is_idle_in count bytes
    else if begins (b ∷ bytes) (codes "//") then true
    else if begins (b ∷ bytes) (codes "/*") then option_map_or (is_idle_in count) (after_close (drop 1 bytes)) false
    else false

-- these bytes of one line are blanks and comments [own]
abbrev pub is_idle : List ℕ → Bool
is_idle bytes = is_idle_in (length bytes) bytes

-- what follows the optional `-` [own]
abbrev pub behind_minus : List ℕ → List ℕ
behind_minus bytes = if first_is is_minus bytes then drop 1 bytes else bytes

-- the number with the sign that stands at the front of the bytes [own]
abbrev pub signed : List ℕ → ℕ → ℤ
signed bytes n = if first_is is_minus bytes then neg_ℤ (pos n) else pos n

-- the number that the run writes, where int holds it [own]
abbrev pub small_value : List ℕ → Option ℕ
small_value run = option_and_then (λ n. if nat_le n 2147483647 then Some n else None) (number_value run)

-- an optional `-`, a number that int holds, and then blanks and comments alone: the number with its sign [own]
abbrev pub number_on : List ℕ → Option ℤ
number_on bytes =
    if is_idle (behind is_word_byte (behind_minus bytes))
    then option_map (signed bytes) (small_value (take_while is_word_byte (behind_minus bytes)))
    else None

-- the run of letters, digits and `_` behind the spaces and tabs [own]
abbrev pub name_on : List ℕ → List ℕ
name_on bytes = take_while is_word_byte (behind is_space_or_tab bytes)

-- what follows that run [own]
abbrev pub behind_name : List ℕ → List ℕ
behind_name bytes = behind is_word_byte (behind is_space_or_tab bytes)

-- spaces or tabs, a word, and again spaces or tabs [own]
abbrev pub names_word : List ℕ → Bool
names_word bytes =
    first_is is_space_or_tab bytes
    && first_is begins_word (behind is_space_or_tab bytes)
    && first_is is_space_or_tab (behind_name bytes)

-- the word and the number of what stands behind `#define` on a line; none where it is not made so [C, 6.10.3]
abbrev pub definition : List ℕ → Option Define
definition bytes =
    if names_word bytes
    then option_map (λ n. record { name = name_on bytes; value = n })
    (number_on (behind is_space_or_tab (behind_name bytes)))
    else None

-- the line, which begins with `#define`, gives this word this number: it is made so, the word is no keyword and neither
-- opens nor closes a loop over messages, and no line before gives it a number [own]
pub record Defines (known : List ℕ → Option ℤ) (line : List ℕ) (define : Define) : Type 0 where
  pub says : definition (drop 7 line) ≡ Some define
  pub plain : IsPlain define.name
  pub once : known define.name ≡ None
