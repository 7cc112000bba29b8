-- One text that is printed, or one file that is put.
use Rattle.std.specs.Prelude.{◌≡◌, ◌≢◌, ℕ, List, []}
use Rattle.flame_outside.specs.Devices.{SeenDepot, SeenSink}
use Rattle.flame_outside.specs.Printed.{Prints, PrintsFront}
use Rattle.flame_outside.specs.Failures.{PutFailed, WriteFailed}
use Rattle.flame_top.specs.declared.ending.Ending.{Ending}
use Rattle.flame_top.specs.declared.ending.Ending.TheVariants.{Done, FileFault, OutputFault, NoMemory}

-- why the text was not printed whole: it is not empty, and a write failed behind a front of it; or memory was not found, and
-- the sink is as it was [own]
abbrev pub StopsPrint : List ℕ → SeenSink → SeenSink → Ending → Type 0
StopsPrint text old new OutputFault = (text ≢ []) × WriteFailed old new × PrintsFront text old new
StopsPrint text old new NoMemory = new ≡ old
StopsPrint text old new ending = ⊥

-- how the printing of the text ended: it was printed whole, or why it was not [own]
abbrev pub EndsPrint : List ℕ → SeenSink → SeenSink → Ending → Type 0
EndsPrint text old new Done = Prints text old new
EndsPrint text old new ending = StopsPrint text old new ending

-- why the file of this name was not put: the put failed, and the ending names it; or memory was not found, and the depot is
-- as it was [own]
abbrev pub StopsPut : List ℕ → SeenDepot → SeenDepot → Ending → Type 0
StopsPut name old new (FileFault told) = (told ≡ name) × PutFailed old new
StopsPut name old new NoMemory = new ≡ old
StopsPut name old new ending = ⊥
