-- The faults of usage: all of them, in the order of the words, and then those of what is missing at the end.
use Rattle.std.specs.Prelude.{ℕ, ◌+◌, List, [], ◌∷◌, ◌++◌, length, map, slice_get, is_some, ok_or}
use Rattle.std.specs.Prelude.{Bool, not, if◌then◌else◌, Option, Some, None, option_map, option_and_then}
use Rattle.std.specs.Prelude.{option_to_list, Result, Ok, Err}
use Rattle.std.specs.Option.{option_map_or}
use Rattle.std.specs.List.{list_any, last_or}
use Rattle.std.specs.Str.{bytes_eq}
use Rattle.flame_words.specs.declared.table.Command.{Command}
use Rattle.flame_words.specs.declared.faults.Usage.{Usage}
use Rattle.flame_words.specs.declared.faults.Usage.TheVariants.{NoCommand, UnknownCommand, Missing, Extra, Repeated}
use Rattle.flame_words.specs.declared.faults.Usage.TheVariants.{UnknownOption}
use Rattle.flame_words.specs.CommandTable.{command_of, flag_of, flag_takes, places, place_name, place_takes}
use Rattle.flame_words.specs.WordValues.{fault_as}
use Rattle.flame_words.specs.WordRoles.{Role, option, value, positional, roles, option_word, options_among}
use Rattle.flame_words.specs.WordRoles.{positionals_among}

-- the number of the word behind these and the command, counted from 1 [own]
abbrev pub number_behind : List Role → ℕ
number_behind before = length before + 2

-- an option of this spelling is among these [own]
abbrev pub is_given : List (List ℕ) → List ℕ → Bool
is_given names name = list_any (λ earlier. bytes_eq earlier name) names

-- the fault of the word in its role behind these words, at most one [own]
abbrev pub fault_of : Command → List Role → Role → Option Usage
fault_of command before (option word) =
    if not (is_some (flag_of command word)) then Some (UnknownOption (number_behind before))
    else if is_given (options_among before) word then Some (Repeated (number_behind before))
    else None
fault_of command before (value name word) =
    option_and_then (λ flag. fault_as (flag_takes flag) (number_behind before) word) (flag_of command name)
fault_of command before (positional number word) =
    option_map_or
    (λ place. fault_as (place_takes place) (number_behind before) word)
    (slice_get (places command) number)
    (Some (Extra (number_behind before)))

-- the faults of words that stand behind these, in order [own]
abbrev pub faults_behind : Command → List Role → List Role → List Usage
faults_behind command before [] = []
faults_behind command before (word ∷ words) =
    option_to_list (fault_of command before word) ++ faults_behind command (before ++ word ∷ []) words

-- the option that lacks its value, where the words end with one [own]
abbrev pub lacking_option : List Role → Option (List ℕ)
lacking_option words = option_and_then option_word (last_or None words)

-- the first positional word that is absent, by its name [own]
abbrev pub absent_place : Command → List Role → Option (List ℕ)
absent_place command words = option_map place_name (slice_get (places command) (length (positionals_among words)))

-- what is missing at the end [own]
abbrev pub missing : Command → List Role → List Usage
missing command words =
    map Missing (option_to_list (lacking_option words) ++ option_to_list (absent_place command words))

-- a command and the words behind it in their roles [own]
pub record Line : Type 0 where
  pub command : Command
  pub words : List Role

-- the line of a command and the words behind it [own]
abbrev pub line_behind : Command → List (List ℕ) → Line
line_behind command later = record { command = command; words = roles later }

-- the line that words are, where the first of them is a command [own]
abbrev pub line_of : List (List ℕ) → Result Line Usage
line_of [] = Err NoCommand
line_of (first ∷ later) =
    ok_or (option_map (λ command. line_behind command later) (command_of first)) (UnknownCommand 1)

-- the faults of a line [own]
abbrev pub line_faults : Line → List Usage
line_faults line = faults_behind line.command [] line.words ++ missing line.command line.words

-- a line has its own faults; words that are no line have that one alone [own]
abbrev pub faults_in : Result Line Usage → List Usage
faults_in (Ok line) = line_faults line
faults_in (Err fault) = fault ∷ []

-- all faults of usage [own]
abbrev pub usage_faults : List (List ℕ) → List Usage
usage_faults words = faults_in (line_of words)
