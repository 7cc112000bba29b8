-- Files of bounded size, and the JSON values that they hold.
use Rattle.std.specs.Prelude.{ℕ, List, length, nat_le, if◌then◌else◌, Option, Some, None, Result, Ok, Err}
use Rattle.std.specs.FinMap.{get}
use Rattle.serde_json.specs.Data.{Data}
use Rattle.flame_outside.specs.Files.{Files}
use Rattle.flame_load.specs.declared.faults.FileFault.{FileFault}
use Rattle.flame_load.specs.declared.faults.FileFault.TheVariants.{Missing, TooLarge, NotJson}
use Rattle.flame_load.specs.JsonReads.{json_of}

-- the most bytes of a model file and of a function file [own]
abbrev pub source_limit : ℕ
source_limit = 4194304

-- what was found, where it has at most so many bytes [own]
abbrev pub within : ℕ → Option (List ℕ) → Result (List ℕ) FileFault
within most None = Err Missing
within most (Some bytes) = if nat_le (length bytes) most then Ok bytes else Err TooLarge

-- the file of that name, of at most so many bytes [own]
abbrev pub file_in : Files → ℕ → List ℕ → Result (List ℕ) FileFault
file_in told most name = within most (get told name)

-- a value, where there is one [own]
abbrev pub if_json : Option Data → Result Data FileFault
if_json None = Err NotJson
if_json (Some value) = Ok value

-- the value of a file's bytes, where it has them [own]
abbrev pub value_of : Result (List ℕ) FileFault → Result Data FileFault
value_of (Err fault) = Err fault
value_of (Ok bytes) = if_json (json_of bytes)

-- the JSON value in the file of that name, of at most so many bytes [own]
abbrev pub value_in : Files → ℕ → List ℕ → Result Data FileFault
value_in told most name = value_of (file_in told most name)
