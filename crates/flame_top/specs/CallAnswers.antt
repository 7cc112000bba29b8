-- What `flame` promises: how much of the report was carried out, and why no more.
use Rattle.std.specs.Prelude.{◌≡◌, ◌≢◌, ◌≤◌, ◌⊎◌, ◌++◌, ℕ, List, length, codes, Result, Ok, Err, Contains}
use Rattle.flame_outside.specs.Files.{Files}
use Rattle.flame_outside.specs.Devices.{SeenSink}
use Rattle.flame_outside.specs.Printed.{Prints, PrintsFront}
use Rattle.flame_outside.specs.Failures.{ReadFailed, PutFailed, WriteFailed}
use Rattle.flame_outside.specs.Frames.{OnlyReads}
use Rattle.flame_outside.specs.Scripts.{Act, puts, prints, Outside, HasDone, FailsAt}
use Rattle.flame_words.specs.declared.orders.Order.{Order}
use Rattle.flame_words.specs.declared.orders.Order.TheVariants.{Run, Check, Graph, Code, Trial, Trace, Replay}
use Rattle.flame_words.specs.declared.faults.Usage.{Usage}
use Rattle.flame_report.specs.FaultLines.{usage_line, read_fault_line, write_fault_line, output_fault_line}
use Rattle.flame_load.specs.InputReads.{Reading, known}
use Rattle.flame_load.specs.TextReads.{Reader}
use Rattle.flame_top.specs.OrderReports.{ordered, trial_report, TracesWords}
use Rattle.flame_top.specs.Reports.{Report, report_in}
use Rattle.flame_top.specs.TraceReports.{Traced}

-- the line for want of memory [own]
abbrev pub no_memory_text : List ℕ
no_memory_text = codes "no memory\n"

-- a front of the line was written, and the whole line where no write failed [own]
pub record Tells (line : List ℕ) (old new : SeenSink) : Type 0 where
  pub front : PrintsFront line old new
  pub whole : ¬ WriteFailed old new → Prints line old new

-- ---- where the files are told

-- the status is the report's, all its acts stand, and its line is told [own]
pub record IsWhole (report : Report) (done status : ℕ) (err err' : SeenSink) : Type 0 where
  pub status_is : status ≡ report.status
  pub all : done ≡ length report.acts
  pub line : Tells report.error err err'

-- err is told that one of these inputs could not be read [own]
pub record FailsToRead (inputs : List (List ℕ)) (err err' : SeenSink) : Type 0 where
  pub name : List ℕ
  pub input : Contains inputs name
  pub line : Tells (read_fault_line name) err err'

-- the line for an act whose device failed [own]
abbrev pub failed_act_line : Act → List ℕ
failed_act_line (puts name bytes) = write_fault_line name
failed_act_line (prints text) = output_fault_line

-- the device of the act that comes next failed, and it is named [own]
pub record FailsToWrite (acts : List Act) (done : ℕ) (old new : Outside) (err err' : SeenSink) : Type 0 where
  pub act : Act
  pub fails : FailsAt acts done act old new
  pub line : Tells (failed_act_line act) err err'

-- no read, no put and no print failed [own]
pub record NothingFailed (old new : Outside) : Type 0 where
  pub reads : ¬ ReadFailed old.depot new.depot
  pub puts : ¬ PutFailed old.depot new.depot
  pub prints : ¬ WriteFailed old.output new.output

-- what a call carries out whose report is read so, and answers with this status and so many files [own]
pub record CarriesOut
    (reading : Reading (List ℕ) Report) (status files : ℕ) (old new : Outside) (err err' : SeenSink) : Type 0 where
  -- so many acts of the report
  pub done : ℕ
  -- stand whole, `files` of them puts; of the next one nothing stands, or its device failed and a part does
  pub has_done : HasDone (report_in reading).acts done files old new
  -- a status of at most 3 is the report's, and comes with all its acts and its line
  pub whole : status ≤ 3 → IsWhole (report_in reading) done status err err'
  -- where nothing failed, the status is the report's, or 4
  pub complete : NothingFailed old new → (status ≡ (report_in reading).status) ⊎ (status ≡ 4)
  -- with 5 the line names an input that is read, so that none before it is refused
  pub read_fault : status ≡ 5 → FailsToRead reading.inputs err err'
  -- with 6 the line names what the next act puts, or the output that it prints to
  pub write_fault : status ≡ 6 → FailsToWrite (report_in reading).acts done old new err err'

-- what a call carries out whose words are read so, over these files: the report that they have with some text of a trace,
-- which words that order a trace alone take up. Where they do and the file was put, the text is a trace of their inputs [own]
pub record CarriesOutWords
    (read : Reader) (told : Files) (words : Result Order Usage) (status files : ℕ)
    (old new : Outside) (err err' : SeenSink) : Type 0 where
  pub trace : Traced
  pub tells : files ≢ 0 → TracesWords read told words trace
  pub carries : CarriesOut (ordered read told words trace) status files old new err err'

-- ---- whatever the devices tell

-- what a call carries out whose words are read so and order a trial: its report, whatever the depot tells, since its inputs are
-- its own [own]
abbrev pub CarriesOutTrial :
    Reader → Result Order Usage → ℕ → ℕ → Outside → Outside → SeenSink → SeenSink → Type 0
CarriesOutTrial read (Ok (Trial order)) status files old new err err' =
    CarriesOut (known (trial_report read order)) status files old new err err'
CarriesOutTrial read words status files old new err err' = Unit {0}

-- the words have a fault of usage [own]
abbrev pub AreRefused : Result Order Usage → Type 0
AreRefused (Ok order) = ⊥
AreRefused (Err usage) = Unit {0}

-- the words order a trial [own]
abbrev pub OrdersTrial : Result Order Usage → Type 0
OrdersTrial (Ok (Trial order)) = Unit {0}
OrdersTrial answer = ⊥

-- the words order iterations [own]
abbrev pub OrdersIterations : Result Order Usage → Type 0
OrdersIterations (Ok (Run order)) = Unit {0}
OrdersIterations (Ok (Trial order)) = Unit {0}
OrdersIterations (Ok (Trace order)) = Unit {0}
OrdersIterations answer = ⊥

-- the words order a text, of a model or of what is found of a trace, and no file [own]
abbrev pub OrdersText : Result Order Usage → Type 0
OrdersText (Ok (Check model)) = Unit {0}
OrdersText (Ok (Graph model)) = Unit {0}
OrdersText (Ok (Code model)) = Unit {0}
OrdersText (Ok (Replay model pop trace)) = Unit {0}
OrdersText answer = ⊥

-- all outside is as it was: nothing was put or printed, and no read failed [own]
pub record LeavesAll (files : ℕ) (old new : Outside) : Type 0 where
  pub none : files ≡ 0
  pub same : new ≡ old

-- the depot is as it was: nothing was put, and no read failed [own]
pub record LeavesDepot (files : ℕ) (old new : Outside) : Type 0 where
  pub none : files ≡ 0
  pub depot : new.depot ≡ old.depot

-- nothing was put, and the depot was read at most [own]
pub record PutsNothing (files : ℕ) (old new : Outside) : Type 0 where
  pub none : files ≡ 0
  pub depot : OnlyReads old.depot new.depot

-- nothing was put or printed, and the depot was read at most [own]
pub record WritesNothing (files : ℕ) (old new : Outside) : Type 0 where
  pub puts : PutsNothing files old new
  pub output : new.output ≡ old.output

-- a line was told, with its line feed [own]
pub record TellsALine (err err' : SeenSink) : Type 0 where
  pub line : List ℕ
  pub told : Tells (line ++ codes "\n") err err'

-- the line of the words' fault of usage was told [own]
abbrev pub TellsUsage : Result Order Usage → SeenSink → SeenSink → Type 0
TellsUsage (Ok order) err err' = ⊥
TellsUsage (Err usage) err err' = Tells (usage_line usage) err err'

-- why a call whose words are read so answers this status [own]
pub record HasCause (words : Result Order Usage) (status : ℕ) (old new : Outside) : Type 0 where
  -- there are seven statuses
  pub few : status ≤ 6
  -- 2 only for words that have a fault of usage
  pub faulty : status ≡ 2 → AreRefused words
  -- and for them nothing else, but for want of memory
  pub refused : AreRefused words → (status ≡ 2) ⊎ (status ≡ 4)
  -- 3 only for words that order iterations
  pub fault : status ≡ 3 → OrdersIterations words
  -- 5 only where a read failed, and not for a trial, whose inputs are its own
  pub read : status ≡ 5 → ReadFailed old.depot new.depot
  pub trial : OrdersTrial words → status ≢ 5
  -- 6 only where a put or a print failed
  pub write : status ≡ 6 → PutFailed old.depot new.depot ⊎ WriteFailed old.output new.output

-- what err gets with this status, of a call whose words are read so [own]
pub record TellsStatus (words : Result Order Usage) (status : ℕ) (err err' : SeenSink) : Type 0 where
  -- with 0 nothing
  pub quiet : status ≡ 0 → err' ≡ err
  -- with 4 as much of the line for want of memory as it takes
  pub memory : status ≡ 4 → PrintsFront no_memory_text err err'
  -- with each other status a line
  pub line : status ≢ 0 → status ≢ 4 → TellsALine err err'
  -- and with 2 that of the fault of usage
  pub usage : status ≡ 2 → TellsUsage words err err'

-- what a call whose words are read so leaves as it was, with this status and so many files [own]
pub record Leaves (words : Result Order Usage) (status files : ℕ) (old new : Outside) : Type 0 where
  -- with 1 and 5 all but the count of reads
  pub input : (status ≡ 1) ⊎ (status ≡ 5) → WritesNothing files old new
  -- where the words have a fault of usage, all
  pub refused : AreRefused words → LeavesAll files old new
  -- a trial the depot
  pub trial : OrdersTrial words → LeavesDepot files old new
  -- an order of a text the files
  pub text : OrdersText words → PutsNothing files old new
