-- What err got, and the status that goes with it.
use Rattle.std.specs.Prelude.{◌≡◌, ◌⊎◌, ℕ}
use Rattle.flame_outside.specs.Devices.{SeenSink}
use Rattle.flame_outside.specs.Printed.{PrintsFront}
use Rattle.flame_top.specs.declared.ending.Ending.{Ending}
use Rattle.flame_top.specs.EndingLines.{status_of, line_of}
use Rattle.flame_top.specs.CallAnswers.{Tells, no_memory_text}

-- the ending is told by its status and its line [own]
pub record TellsEnding (ending : Ending) (status : ℕ) (old new : SeenSink) : Type 0 where
  pub status_is : status ≡ status_of ending
  pub line : Tells (line_of ending) old new

-- memory was not found, for the ending or for telling it [own]
pub record TellsNoMemory (status : ℕ) (old new : SeenSink) : Type 0 where
  pub status_is : status ≡ 4
  pub line : PrintsFront no_memory_text old new

-- what the status and err answer to an ending [own]
abbrev pub Answers : Ending → ℕ → SeenSink → SeenSink → Type 0
Answers ending status old new = TellsEnding ending status old new ⊎ TellsNoMemory status old new
