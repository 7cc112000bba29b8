-- The status and the line of an ending.
use Rattle.std.specs.Prelude.{ℕ, List, []}
use Rattle.flame_report.specs.FaultLines.{read_fault_line, write_fault_line, output_fault_line}
use Rattle.flame_top.specs.declared.ending.Ending.{Ending}
use Rattle.flame_top.specs.declared.ending.Ending.TheVariants.{Done, RefusedWords, Refused, Faulted}
use Rattle.flame_top.specs.declared.ending.Ending.TheVariants.{ReadFault, FileFault, OutputFault, NoMemory}
use Rattle.flame_top.specs.CallAnswers.{no_memory_text}

-- the status of an ending [own]
abbrev pub status_of : Ending → ℕ
status_of Done = 0
status_of (Refused line) = 1
status_of (RefusedWords line) = 2
status_of (Faulted line) = 3
status_of NoMemory = 4
status_of (ReadFault name) = 5
status_of (FileFault name) = 6
status_of OutputFault = 6

-- the line for err; there is none where the order was carried out [own]
abbrev pub line_of : Ending → List ℕ
line_of Done = []
line_of (Refused line) = line
line_of (RefusedWords line) = line
line_of (Faulted line) = line
line_of NoMemory = no_memory_text
line_of (ReadFault name) = read_fault_line name
line_of (FileFault name) = write_fault_line name
line_of OutputFault = output_fault_line
