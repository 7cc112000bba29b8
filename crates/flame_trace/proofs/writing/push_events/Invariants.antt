-- The lines of the events so far, and their numbers.
use Rattle.std.proofs.Common.{◌≡◌, ◌++◌, take, string_bytes}
use Rattle.std.specs.Prelude.{All}
use Rattle.flame_trace.specs.TraceLaws.{IsNumberedEvent}
use Rattle.flame_trace.specs.TraceTexts.{events_text}
use Rattle.flame_trace.proofs.writing.push_events.Given as goal

abbrev pub invariant-loop-event : goal.invariant-loop-event
invariant-loop-event l = record {
  text : string_bytes l.text ≡ string_bytes l.fn.text ++ events_text (take l.event-index l.events);
  numbered : All IsNumberedEvent (take l.event-index l.events);
}
