-- Kinds of ASCII bytes that words are made of, and words in capitals.
use Rattle.std.specs.Prelude.{ℕ, ◌==◌, ◌||◌, Bool, List}
use Rattle.std.specs.Char.{is_ascii_alphabetic, is_ascii_digit}
use Rattle.std.specs.Str.{str_to_ascii_uppercase}

-- a letter or `_` [C, 6.4.2.1]
abbrev pub begins_word : ℕ → Bool
begins_word b = is_ascii_alphabetic b || (b == 95)

-- a letter, a digit or `_` [C, 6.4.2.1]
abbrev pub is_word_byte : ℕ → Bool
is_word_byte b = begins_word b || is_ascii_digit b

-- the text with its letters as capitals [FLAME User Manual]
abbrev pub capitals : List ℕ → List ℕ
capitals text = str_to_ascii_uppercase text
