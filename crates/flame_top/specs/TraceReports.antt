-- What `trace` and `replay` come to.
use Rattle.std.specs.Prelude.{◌≡◌, ℕ, List, [], ◌∷◌, ◌++◌, codes, decimal, Option, Some, None}
use Rattle.std.specs.List.{concat}
use Rattle.flame_outside.specs.Scripts.{puts, prints}
use Rattle.flame_words.specs.declared.orders.TraceOrder.{TraceOrder}
use Rattle.flame_spec.specs.declared.models.Model.{Model}
use Rattle.flame_spec.specs.declared.outcomes.Source.{Source}
use Rattle.flame_world.specs.declared.faults.SimFault.{SimFault}
use Rattle.flame_world.specs.declared.turns.Turn.{Turn}
use Rattle.flame_world.specs.declared.turns.Turn.TheVariants.{Done, Faulted}
use Rattle.flame_world.specs.declared.verdicts.Verdict.{Verdict}
use Rattle.flame_world.specs.declared.verdicts.Verdict.TheVariants.{Yes}
use Rattle.flame_world.specs.Iterations.{iteration}
use Rattle.flame_popfile.specs.declared.starts.Start.{Start}
use Rattle.flame_report.specs.FaultLines.{sim_line, trace_line}
use Rattle.flame_load.specs.InputReads.{Reading, known, refused}
use Rattle.flame_trace.specs.TraceTexts.{head_line, line_text}
use Rattle.flame_trace.specs.TraceVerdicts.{verdict, next_number}
use Rattle.flame_top.specs.Reports.{Report, carried_out, printing}

-- WORD E events [own]
abbrev pub events_line : List ℕ → ℕ → List ℕ
events_line word events = concat (word ∷ codes " " ∷ decimal events ∷ codes " events\n" ∷ [])

-- ---- trace

-- the text of a trace, and how many events it has: it depends on what the workers did, and when [own]
pub record Traced : Type 0 where
  pub bytes : List ℕ
  pub events : ℕ

-- the text tells the iteration that comes next from the start, as it is ordered: the verdict on it is Yes with so many
-- events, and its line 1 has the workers as the number of pieces, and the fuel [own]
pub record IsTraceOf (order : TraceOrder) (source : Source) (start : Start) (trace : Traced) : Type 0 where
  pub yes : verdict source start trace.bytes ≡ Yes trace.events
  pub behind : List ℕ
  pub head : trace.bytes ≡ line_text (head_line (next_number start) order.workers order.fuel) ++ behind

-- the iteration that comes next from the start, as it is ordered [FLAME User Manual]
abbrev pub next_turn : TraceOrder → Source → Start → Turn
next_turn order source start = iteration source start.world (next_number start) order.fuel

-- the fault of a turn, where it is one [own]
abbrev pub fault_of : Turn → Option SimFault
fault_of (Done world boards) = None
fault_of (Faulted fault) = Some fault

-- the trace is put as the file of this name; and traced E events, or the fault is told [own]
abbrev pub traced_with : Model → List ℕ → Traced → Option SimFault → Report
traced_with model out trace None =
    carried_out (puts out trace.bytes ∷ prints (events_line (codes "traced") trace.events) ∷ [])
traced_with model out trace (Some fault) =
    record { acts = puts out trace.bytes ∷ []; error = sim_line model fault; status = 3 }

-- the report of a trace from a start on, whose text this is [own]
abbrev pub traced : TraceOrder → Source → Start → Traced → Report
traced order source start trace = traced_with source.model order.out trace (fault_of (next_turn order source start))

-- ---- replay

-- the most bytes of a trace [own]
abbrev pub trace_limit : ℕ
trace_limit = 67108864

-- replayed E events, where the verdict on the trace in the file of this name is Yes; each other one refuses it [own]
abbrev pub replayed : List ℕ → Verdict → Reading (List ℕ) Report
replayed name (Yes events) = known (carried_out (printing (events_line (codes "replayed") events)))
replayed name verdict = refused (trace_line name verdict)
