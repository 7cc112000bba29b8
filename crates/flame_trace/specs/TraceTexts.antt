-- The text of what was recorded of an iteration.
use Rattle.std.specs.Prelude.{ℕ, ℤ, List, [], ◌∷◌, ◌++◌, flat_map, codes, decimal}
use Rattle.std.specs.Fmt.{signed_decimal}
use Rattle.flame_ops.specs.CauseNames.{name_of_cause}
use Rattle.flame_spec.specs.declared.models.Model.{Model}
use Rattle.flame_world.specs.declared.faults.SimFault.{SimFault}
use Rattle.flame_world.specs.declared.turns.Turn.{Turn}
use Rattle.flame_world.specs.declared.turns.Turn.TheVariants.{Done, Faulted}
use Rattle.flame_events.specs.declared.events.Event.{Event}
use Rattle.flame_events.specs.declared.events.Event.TheVariants as event
use Rattle.flame_popfile.specs.declared.formats.Format.TheVariants.{One}
use Rattle.flame_popfile.specs.IterationTexts.{text}
use Rattle.flame_trace.specs.TraceLines.{line_feed}

-- ---- lines

-- line 1: which iteration it is, in how many pieces at most the agents of a function are cut, and with which fuel [own]
abbrev pub head_line : ℤ → ℕ → ℕ → List ℕ
head_line iteration pieces fuel =
    codes "trace iteration "
    ++ (signed_decimal iteration ++ (codes " pieces " ++ (decimal pieces ++ (codes " fuel " ++ decimal fuel))))

-- the line of an event [own]
abbrev pub event_line : Event → List ℕ
event_line (event.Open function) = codes "open " ++ decimal function
event_line (event.Agent function piece) = codes "agent " ++ (decimal function ++ (codes " " ++ decimal piece))
event_line (event.HandIn function piece message) =
    codes "handin " ++ (decimal function ++ (codes " " ++ (decimal piece ++ (codes " " ++ decimal message))))
event_line (event.Shut function) = codes "shut " ++ decimal function
event_line (event.Freeze message) = codes "freeze " ++ decimal message

-- the numbers of a memory, each behind a space [own]
abbrev pub memory_words : List ℤ → List ℕ
memory_words memory = flat_map (λ number. codes " " ++ signed_decimal number) memory

-- the line of a fault: the function's number, why and in which line it came, and the memory at entry [own]
abbrev pub fault_line : SimFault → List ℕ
fault_line fault =
    codes "fault "
    ++ (decimal fault.function
    ++ (codes " " ++ (name_of_cause fault.cause ++ (codes " " ++ (decimal fault.line ++ memory_words fault.memory)))))

-- the line of the end [own]
abbrev pub end_line : Turn → List ℕ
end_line (Done world boards) = codes "done"
end_line (Faulted fault) = fault_line fault

-- ---- the whole

-- what stands behind the line of the end: the iteration's text in version 1, and nothing behind a fault [own]
abbrev pub behind_end : Model → ℤ → Turn → List ℕ
behind_end model iteration (Done world boards) = text model One iteration world boards
behind_end model iteration (Faulted fault) = []

-- a line with the line feed that ends it [own]
abbrev pub line_text : List ℕ → List ℕ
line_text line = line ++ line_feed ∷ []

-- the lines of these events [own]
abbrev pub events_text : List Event → List ℕ
events_text events = flat_map (λ event. line_text (event_line event)) events

-- the text of an iteration's events and of what they come to: line 1, a line for each event, the line of the end, and what
-- stands behind it [own]
abbrev pub trace_text : Model → ℤ → ℕ → ℕ → Turn → List Event → List ℕ
trace_text model iteration pieces fuel turn events =
    line_text (head_line iteration pieces fuel)
    ++ (events_text events ++ (line_text (end_line turn) ++ behind_end model iteration turn))
