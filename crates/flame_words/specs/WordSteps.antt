-- What the reader of words holds between two words, and what it makes of the next one.
use Rattle.std.specs.Prelude.{◌≡◌, ℕ, ◌≤◌, List, [], ◌∷◌, ◌++◌, length, map, slice_get, is_some}
use Rattle.std.specs.Prelude.{true, not, if◌then◌else◌, Option, Some, None, option_map}
use Rattle.std.specs.Option.{option_map_or}
use Rattle.std.specs.List.{list_any, list_all}
use Rattle.std.specs.Str.{bytes_eq}
use Rattle.flame_words.specs.declared.reading.Setting.{Setting}
use Rattle.flame_words.specs.declared.reading.Reading.{Reading}
use Rattle.flame_words.specs.declared.table.Command.{Command}
use Rattle.flame_words.specs.declared.table.Flag.{Flag}
use Rattle.flame_words.specs.declared.faults.Usage.{Usage}
use Rattle.flame_words.specs.declared.faults.Usage.TheVariants.{Extra, Repeated, UnknownOption}
use Rattle.flame_rows.specs.declared.fails.Fail.{Fail}
use Rattle.flame_rows.specs.declared.fails.Fail.TheVariants.{Fault, NoMemory}
use Rattle.flame_words.specs.CommandTable.{flag_of, flag_name, flag_takes, places, place_name, place_takes}
use Rattle.flame_words.specs.WordValues.{fault_as}
use Rattle.flame_words.specs.WordRoles.{Role, Given, begins_option, positionals_among, givens_among}
use Rattle.flame_words.specs.UsageFaults.{faults_behind, lacking_option}
use Rattle.flame_words.specs.TakenWords.{words_suit, given_suits}

-- what was read: the command, its positional words, the options with values, and the option whose value
-- comes next [own]
pub record Seen : Type 0 where
  pub command : Command
  pub words : List (List ℕ)
  pub givens : List Given
  pub pending : Option Flag

-- the command is read, and no word behind it [own]
abbrev pub nothing_behind : Command → Seen
nothing_behind command = record { command = command; words = []; givens = []; pending = None }

-- an option with its value [own]
abbrev pub given_of : Flag → List ℕ → Given
given_of flag word = record { name = flag_name flag; word = word }

-- the fault of a word that begins with `--` and is no value [own]
abbrev pub option_fault : Seen → ℕ → List ℕ → Option Usage
option_fault seen number word =
    if not (is_some (flag_of seen.command word)) then Some (UnknownOption number)
    else if list_any (λ given. bytes_eq given.name word) seen.givens then Some (Repeated number)
    else None

-- the fault of the next positional word [own]
abbrev pub place_fault : Seen → ℕ → List ℕ → Option Usage
place_fault seen number word =
    option_map_or
    (λ place. fault_as (place_takes place) number word)
    (slice_get (places seen.command) (length seen.words))
    (Some (Extra number))

-- the fault of the next word, which has this number [own]
abbrev pub fault_at : Option Flag → Seen → ℕ → List ℕ → Option Usage
fault_at (Some flag) seen number word = fault_as (flag_takes flag) number word
fault_at None seen number word =
    if begins_option word then option_fault seen number word else place_fault seen number word

-- what was read once the next word is read [own]
abbrev pub read_on : Option Flag → Seen → List ℕ → Seen
read_on (Some flag) seen word = record seen { givens = seen.givens ++ given_of flag word ∷ []; pending = None }
read_on None seen word =
    if begins_option word
    then record seen { pending = flag_of seen.command word }
    else record seen { words = seen.words ++ word ∷ [] }

-- what is missing where no word comes next [own]
abbrev pub missing_at : Option Flag → Seen → Option (List ℕ)
missing_at (Some flag) seen = Some (flag_name flag)
missing_at None seen = option_map place_name (slice_get (places seen.command) (length seen.words))

-- what a setting says [own]
abbrev pub given_view : Setting → Given
given_view setting = given_of setting.option setting.value.now

-- what a reading has read [own]
abbrev pub seen_of : Reading → Seen
seen_of reading = record {
  command = reading.command;
  words = map (λ word. word.now) reading.words.items;
  givens = map given_view reading.settings.items;
  pending = reading.pending;
}

-- the failure is this fault, or want of memory [own]
abbrev pub FailsBy : Option Usage → Fail Usage → Type 0
FailsBy found (Fault usage) = found ≡ Some usage
FailsBy found NoMemory = Unit {0}

-- the words behind a command were read to their end, and none of them has a fault [own]
pub record IsRead (words : List Role) (seen : Seen) : Type 0 where
  pub no_fault : faults_behind seen.command [] words ≡ []
  pub words_are : positionals_among words ≡ seen.words
  pub givens_are : givens_among words ≡ seen.givens
  pub lacking : lacking_option words ≡ option_map flag_name seen.pending
  pub words_suit_places : words_suit (places seen.command) seen.words ≡ true
  pub givens_suit : list_all (given_suits seen.command) seen.givens ≡ true

-- words that have no fault, and that lack nothing [own]
pub record IsComplete (seen : Seen) : Type 0 where
  pub words_suit_places : words_suit (places seen.command) seen.words ≡ true
  pub enough : length (places seen.command) ≤ length seen.words
  pub givens_suit : list_all (given_suits seen.command) seen.givens ≡ true
