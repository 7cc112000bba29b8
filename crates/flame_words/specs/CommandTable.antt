-- The table of commands: how each is spelled, its positional words in order, and its options.
use Rattle.std.specs.Prelude.{ℕ, List, [], ◌∷◌, codes, Bool, Option, Some, None}
use Rattle.std.specs.List.{find, list_any}
use Rattle.std.specs.Str.{bytes_eq}
use Rattle.flame_words.specs.declared.table.Command.{Command}
use Rattle.flame_words.specs.declared.table.Command.TheVariants.{Run, Check, Graph, Code, Trial, Migrate, Trace, Replay}
use Rattle.flame_words.specs.declared.table.Place.{Place}
use Rattle.flame_words.specs.declared.table.Place.TheVariants.{Model, Population, Out, Turns, Seed, Size, TrialTurns, Trace as Traced}
use Rattle.flame_words.specs.declared.table.Flag.{Flag}
use Rattle.flame_words.specs.declared.table.Flag.TheVariants.{Workers, Fuel, Sync, By, Format}
use Rattle.flame_words.specs.declared.table.Choice.{Choice}
use Rattle.flame_words.specs.declared.table.Choice.TheVariants.{Ways, Formats}
use Rattle.flame_words.specs.declared.table.Takes.{Takes}
use Rattle.flame_words.specs.declared.table.Takes.TheVariants.{Text, Number, OneOf}

-- the commands, in the order of their table [own]
abbrev pub commands : List Command
commands = Run ∷ Check ∷ Graph ∷ Code ∷ Trial ∷ Migrate ∷ Trace ∷ Replay ∷ []

-- how a command is spelled [own]
abbrev pub spelling : Command → List ℕ
spelling Run = codes "run"
spelling Check = codes "check"
spelling Graph = codes "graph"
spelling Code = codes "code"
spelling Trial = codes "trial"
spelling Migrate = codes "migrate"
spelling Trace = codes "trace"
spelling Replay = codes "replay"

-- the positional words of a command, in order [own]
abbrev pub places : Command → List Place
places Run = Model ∷ Population ∷ Out ∷ Turns ∷ []
places Check = Model ∷ []
places Graph = Model ∷ []
places Code = Model ∷ []
places Trial = Seed ∷ Size ∷ TrialTurns ∷ []
places Migrate = Model ∷ Population ∷ Out ∷ []
places Trace = Model ∷ Population ∷ Out ∷ []
places Replay = Model ∷ Population ∷ Traced ∷ []

-- the options of a command [own]
abbrev pub options : Command → List Flag
options Run = Workers ∷ Fuel ∷ Sync ∷ By ∷ Format ∷ []
options Check = []
options Graph = []
options Code = []
options Trial = Workers ∷ Fuel ∷ Sync ∷ By ∷ []
options Migrate = []
options Trace = Workers ∷ Fuel ∷ []
options Replay = []

-- what a positional word is called where it is missing [own]
abbrev pub place_name : Place → List ℕ
place_name Model = codes "MODEL"
place_name Population = codes "POP"
place_name Out = codes "OUT"
place_name Turns = codes "N"
place_name Seed = codes "SEED"
place_name Size = codes "SIZE"
place_name TrialTurns = codes "N"
place_name Traced = codes "TRACE"

-- what a positional word is taken as: any text, or a number from the first to the second [own]
abbrev pub place_takes : Place → Takes
place_takes Model = Text
place_takes Population = Text
place_takes Out = Text
place_takes Turns = Number 0 1000000
place_takes Seed = Number 0 4294967295
place_takes Size = Number 0 10000
place_takes TrialTurns = Number 0 20
place_takes Traced = Text

-- how an option is spelled [own]
abbrev pub flag_name : Flag → List ℕ
flag_name Workers = codes "--workers"
flag_name Fuel = codes "--fuel"
flag_name Sync = codes "--sync"
flag_name By = codes "--by"
flag_name Format = codes "--format"

-- what an option's value is taken as [own]
abbrev pub flag_takes : Flag → Takes
flag_takes Workers = Number 1 64
flag_takes Fuel = Number 0 1000000000
flag_takes Sync = OneOf Ways
flag_takes By = Text
flag_takes Format = OneOf Formats

-- the value that an option has where none is given, if it has one [own]
abbrev pub default : Flag → Option (List ℕ)
default Workers = Some (codes "1")
default Fuel = Some (codes "1000000")
default Sync = Some (codes "layers")
default By = None
default Format = Some (codes "1")

-- the words of which one is taken [own]
abbrev pub choices : Choice → List (List ℕ)
choices Ways = codes "layers" ∷ codes "flow" ∷ codes "nodes" ∷ []
choices Formats = codes "1" ∷ codes "2" ∷ []

-- the command that is spelled so [own]
abbrev pub command_of : List ℕ → Option Command
command_of word = find (λ command. bytes_eq (spelling command) word) commands

-- the command's option of this spelling [own]
abbrev pub flag_of : Command → List ℕ → Option Flag
flag_of command word = find (λ flag. bytes_eq (flag_name flag) word) (options command)

-- the word is one of those of which one is taken [own]
abbrev pub is_among : Choice → List ℕ → Bool
is_among choice word = list_any (λ taken. bytes_eq word taken) (choices choice)
