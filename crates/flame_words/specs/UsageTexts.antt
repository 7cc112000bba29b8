-- What is printed of a fault: its kind's name, and the number of the word at fault or what is missing.
use Rattle.std.specs.Prelude.{ℕ, List, codes, Option, Some, None}
use Rattle.flame_words.specs.declared.faults.Usage.{Usage}
use Rattle.flame_words.specs.declared.faults.Usage.TheVariants.{NoCommand, UnknownCommand, Missing, Extra, BadNumber}
use Rattle.flame_words.specs.declared.faults.Usage.TheVariants.{OutOfRange, Repeated, UnknownOption, BadChoice}

-- the kind's name [own]
abbrev pub fault_name : Usage → List ℕ
fault_name NoCommand = codes "NoCommand"
fault_name (UnknownCommand number) = codes "UnknownCommand"
fault_name (Missing name) = codes "Missing"
fault_name (Extra number) = codes "Extra"
fault_name (BadNumber number) = codes "BadNumber"
fault_name (OutOfRange number) = codes "OutOfRange"
fault_name (Repeated number) = codes "Repeated"
fault_name (UnknownOption number) = codes "UnknownOption"
fault_name (BadChoice number) = codes "BadChoice"

-- the number of the word at fault, counted from 1; where a word is missing there is none [own]
abbrev pub word_number : Usage → Option ℕ
word_number NoCommand = None
word_number (UnknownCommand number) = Some number
word_number (Missing name) = None
word_number (Extra number) = Some number
word_number (BadNumber number) = Some number
word_number (OutOfRange number) = Some number
word_number (Repeated number) = Some number
word_number (UnknownOption number) = Some number
word_number (BadChoice number) = Some number

-- the option without a value, or the positional word, that is missing [own]
abbrev pub missing_word : Usage → Option (List ℕ)
missing_word NoCommand = None
missing_word (UnknownCommand number) = None
missing_word (Missing name) = Some name
missing_word (Extra number) = None
missing_word (BadNumber number) = None
missing_word (OutOfRange number) = None
missing_word (Repeated number) = None
missing_word (UnknownOption number) = None
missing_word (BadChoice number) = None
