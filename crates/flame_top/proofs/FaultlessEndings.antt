-- Endings that are no fault of an iteration.
use Rattle.std.proofs.Common.{inl, inr, List, ℕ, codes, sym, subst}
use Rattle.flame_outside.specs.Devices.{SeenDepot, SeenSink}
use Rattle.flame_world.specs.declared.verdicts.Verdict.{Verdict}
use Rattle.flame_world.specs.declared.verdicts.Verdict.TheVariants.{Yes, Form, OtherStart, Illegal, Incomplete, OtherEnd}
use Rattle.flame_report.specs.FaultLines.{trace_line}
use Rattle.flame_top.specs.declared.ending.Ending.{Ending}
use Rattle.flame_top.specs.declared.ending.Ending.TheVariants.{Done, RefusedWords, Refused, Faulted, ReadFault, FileFault, OutputFault, NoMemory}
use Rattle.flame_top.specs.InputAnswers.{StopsReading}
use Rattle.flame_top.specs.Printing.{StopsPrint, EndsPrint, StopsPut}
use Rattle.flame_top.specs.Standing.{IsFaulted}
use Rattle.flame_top.specs.TraceAnswers.{IsEnding, EndsReplay}
use Rattle.flame_top.specs.TraceReports.{events_line}

-- an ending that an input comes to
pub reading_faultless : (ending : Ending) → StopsReading ending → ¬ IsFaulted ending
reading_faultless (Faulted line) s = absurd s
reading_faultless Done s = λ is. is
reading_faultless (RefusedWords line) s = λ is. is
reading_faultless (Refused line) s = λ is. is
reading_faultless (ReadFault name) s = λ is. is
reading_faultless (FileFault name) s = λ is. is
reading_faultless OutputFault s = λ is. is
reading_faultless NoMemory s = λ is. is

-- an ending that a put comes to
pub put_faultless : (name : List ℕ) (ending : Ending) (old new : SeenDepot) → StopsPut name old new ending → ¬ IsFaulted ending
put_faultless name (Faulted line) old new s = absurd s
put_faultless name Done old new s = λ is. is
put_faultless name (RefusedWords line) old new s = λ is. is
put_faultless name (Refused line) old new s = λ is. is
put_faultless name (ReadFault file) old new s = λ is. is
put_faultless name (FileFault file) old new s = λ is. is
put_faultless name OutputFault old new s = λ is. is
put_faultless name NoMemory old new s = λ is. is

-- an ending that a print comes to
pub print_faultless : (text : List ℕ) (ending : Ending) (old new : SeenSink) → EndsPrint text old new ending → ¬ IsFaulted ending
print_faultless text (Faulted line) old new e = absurd e
print_faultless text Done old new e = λ is. is
print_faultless text (RefusedWords line) old new e = λ is. is
print_faultless text (Refused line) old new e = λ is. is
print_faultless text (ReadFault file) old new e = λ is. is
print_faultless text (FileFault file) old new e = λ is. is
print_faultless text OutputFault old new e = λ is. is
print_faultless text NoMemory old new e = λ is. is

-- the same where the text was not printed whole
pub stop_faultless : (text : List ℕ) (ending : Ending) (old new : SeenSink) → StopsPrint text old new ending → ¬ IsFaulted ending
stop_faultless text (Faulted line) old new e = absurd e
stop_faultless text Done old new e = λ is. is
stop_faultless text (RefusedWords line) old new e = λ is. is
stop_faultless text (Refused line) old new e = λ is. is
stop_faultless text (ReadFault file) old new e = λ is. is
stop_faultless text (FileFault file) old new e = λ is. is
stop_faultless text OutputFault old new e = λ is. is
stop_faultless text NoMemory old new e = λ is. is

-- a refusal
refusal_faultless : (line : List ℕ) (ending : Ending) → IsEnding (Refused line) ending → ¬ IsFaulted ending
refusal_faultless line ending (inl is) = subst (λ (e : Ending). ¬ IsFaulted e) (sym is) (λ faulted. faulted)
refusal_faultless line ending (inr is) = subst (λ (e : Ending). ¬ IsFaulted e) (sym is) (λ faulted. faulted)

-- an ending that a verdict comes to
pub verdict_faultless :
    (name : List ℕ) (verdict : Verdict) (ending : Ending) (old new : SeenSink)
    → EndsReplay name verdict old new ending
    → ¬ IsFaulted ending
verdict_faultless name (Yes events) ending old new e = print_faultless (events_line (codes "replayed") events) ending old new e
verdict_faultless name (Form line) ending old new e = refusal_faultless (trace_line name (Form line)) ending e.ends
verdict_faultless name (OtherStart line) ending old new e = refusal_faultless (trace_line name (OtherStart line)) ending e.ends
verdict_faultless name (Illegal line) ending old new e = refusal_faultless (trace_line name (Illegal line)) ending e.ends
verdict_faultless name (Incomplete line) ending old new e = refusal_faultless (trace_line name (Incomplete line)) ending e.ends
verdict_faultless name (OtherEnd line) ending old new e = refusal_faultless (trace_line name (OtherEnd line)) ending e.ends
