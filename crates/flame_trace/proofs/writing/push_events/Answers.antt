-- A line more, whose numbers 32 bits hold.
use Rattle.std.proofs.Common.{arith}
use Rattle.std.proofs.lemmas.Grind.{common_steps}
use Rattle.std.proofs.lemmas.List.Elements.{All-more}
use Rattle.flame_trace.specs.TraceLaws.{IsNumberedEvent}
use Rattle.flame_trace.proofs.writing.push_events.Goals as goal

pub loop-event-preserved : goal.loop-event-preserved
loop-event-preserved c = record {
  text = grind (arith, common_steps);
  numbered =
      All-more IsNumberedEvent c.args.events.now c.loop-event.event-index _ c.loop-event-test.true
      c.loop-event.invariant.numbered c.push_event.ensures.numbered;
}
