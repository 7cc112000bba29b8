-- The roles of the words behind the command.
use Rattle.std.specs.Prelude.{ℕ, ◌+◌, List, [], ◌∷◌, codes, nat_eq}
use Rattle.std.specs.Prelude.{Bool, if◌then◌else◌, Option, Some, None, filter_map}
use Rattle.std.specs.List.{starts_with}

-- the word begins with `--` [own]
abbrev pub begins_option : List ℕ → Bool
begins_option word = starts_with nat_eq word (codes "--")

-- a word in its role: an option, the value of the option that is spelled so, or the positional word of this number,
-- counted from 0 [own]
pub data Role : Type 0 where
  option : List ℕ → Role
  value : List ℕ → List ℕ → Role
  positional : ℕ → List ℕ → Role

-- the roles of words, where this option, if any, stands just before them, and so many positional words before them:
-- a word is a value where the word before it is an option; it is an option where it is no value and begins with `--`;
-- else it is the next positional word [own]
abbrev pub roles_behind : Option (List ℕ) → ℕ → List (List ℕ) → List Role
roles_behind before count [] = []
roles_behind (Some name) count (word ∷ words) = value name word ∷ roles_behind None count words
roles_behind None count (word ∷ words) =
    if begins_option word
    then option word ∷ roles_behind (Some word) count words
    else positional count word ∷ roles_behind None (count + 1) words

-- the roles of all words behind the command [own]
abbrev pub roles : List (List ℕ) → List Role
roles words = roles_behind None 0 words

-- the spelling of an option [own]
abbrev pub option_word : Role → Option (List ℕ)
option_word (option word) = Some word
option_word (value name word) = None
option_word (positional number word) = None

-- the word, where it is positional [own]
abbrev pub positional_word : Role → Option (List ℕ)
positional_word (option word) = None
positional_word (value name word) = None
positional_word (positional number word) = Some word

-- an option, by its spelling, and the value that was given for it [own]
pub record Given : Type 0 where
  pub name : List ℕ
  pub word : List ℕ

-- the option and its value, where the word is a value [own]
abbrev pub given_value : Role → Option Given
given_value (option word) = None
given_value (value name word) = Some (record { name = name; word = word })
given_value (positional number word) = None

-- the options among the words, in order [own]
abbrev pub options_among : List Role → List (List ℕ)
options_among words = filter_map option_word words

-- the positional words among them, in order [own]
abbrev pub positionals_among : List Role → List (List ℕ)
positionals_among words = filter_map positional_word words

-- the options that have values, in order [own]
abbrev pub givens_among : List Role → List Given
givens_among words = filter_map given_value words
