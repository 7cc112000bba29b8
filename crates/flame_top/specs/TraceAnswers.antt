-- The parts of `trace` and `replay`, and how they end.
use Rattle.std.specs.Prelude.{◌≡◌, ◌≢◌, ◌⊎◌, ℕ, List, codes, Option, Some, None, Result}
use Rattle.flame_outside.specs.Devices.{SeenSink}
use Rattle.flame_outside.specs.Scripts.{Outside}
use Rattle.flame_words.specs.declared.orders.Order.{Order}
use Rattle.flame_words.specs.declared.faults.Usage.{Usage}
use Rattle.flame_spec.specs.declared.models.Model.{Model}
use Rattle.flame_world.specs.declared.faults.SimFault.{SimFault}
use Rattle.flame_world.specs.declared.verdicts.Verdict.{Verdict}
use Rattle.flame_world.specs.declared.verdicts.Verdict.TheVariants.{Yes}
use Rattle.flame_report.specs.FaultLines.{sim_line, trace_line}
use Rattle.flame_load.specs.InputReads.{Reading}
use Rattle.flame_load.specs.TextReads.{Reader}
use Rattle.flame_outside.specs.Files.{Files}
use Rattle.flame_top.specs.declared.ending.Ending.{Ending}
use Rattle.flame_top.specs.declared.ending.Ending.TheVariants.{Refused, Faulted, NoMemory}
use Rattle.flame_top.specs.declared.traces.Written.{Written}
use Rattle.flame_top.specs.OrderReports.{order_reading, ordered, TracesOrder, TracesWords}
use Rattle.flame_top.specs.Printing.{EndsPrint}
use Rattle.flame_top.specs.Reports.{Report}
use Rattle.flame_top.specs.Standing.{Carries}
use Rattle.flame_top.specs.TraceReports.{Traced, events_line}

-- ---- with some text

-- what stands of what is read so, with some text; where a file was put, the text is one of these [own]
pub record CarriesSome
    (such : Traced → Type 0) (reading : Traced → Reading (List ℕ) Report)
    (ending : Ending) (files : ℕ) (old new : Outside) : Type 0 where
  pub trace : Traced
  pub tells : files ≢ 0 → such trace
  pub carries : Carries (reading trace) ending files old new

-- what stands of an order, with some text [own]
abbrev pub CarriesOrder : Reader → Files → Order → Ending → ℕ → Outside → Outside → Type 0
CarriesOrder read told order ending files old new =
    CarriesSome (TracesOrder read told order) (order_reading read told order) ending files old new

-- the same of words [own]
abbrev pub CarriesWords : Reader → Files → Result Order Usage → Ending → ℕ → Outside → Outside → Type 0
CarriesWords read told words ending files old new =
    CarriesSome (TracesWords read told words) (ordered read told words) ending files old new

-- ---- endings

-- the ending is that one, or there was no memory for it [own]
abbrev pub IsEnding : Ending → Ending → Type 0
IsEnding wanted ending = (ending ≡ wanted) ⊎ (ending ≡ NoMemory)

-- the same, and nothing was printed [own]
pub record EndsUnprinted (wanted ending : Ending) (old new : SeenSink) : Type 0 where
  pub ends : IsEnding wanted ending
  pub same : new ≡ old

-- how a trace ends that was put: its events are counted, or the fault is told [own]
abbrev pub EndsTrace : Model → ℕ → Option SimFault → SeenSink → SeenSink → Ending → Type 0
EndsTrace model events None old new ending = EndsPrint (events_line (codes "traced") events) old new ending
EndsTrace model events (Some fault) old new ending = EndsUnprinted (Faulted (sim_line model fault)) ending old new

-- how a replay ends with this verdict on the trace in the file of this name [own]
abbrev pub EndsReplay : List ℕ → Verdict → SeenSink → SeenSink → Ending → Type 0
EndsReplay name (Yes events) old new ending = EndsPrint (events_line (codes "replayed") events) old new ending
EndsReplay name verdict old new ending = EndsUnprinted (Refused (trace_line name verdict)) ending old new

-- ---- what is written

-- the text that was written, with the number of its events [own]
abbrev pub text_of : Written → Traced
text_of written = record { bytes = written.text; events = written.events }
