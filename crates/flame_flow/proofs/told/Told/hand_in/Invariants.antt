use Rattle.std.proofs.Common.{◌≡◌, drop, true}
use Rattle.flame_core.specs.SeenCores.{round_in}
use Rattle.flame_events.specs.EventSteps.{are_legal}
use Rattle.flame_events.specs.HandedPieces.{hand_in_events}
use Rattle.flame_flow.specs.ToldCores.{told_on, HasGrown}
use Rattle.flame_flow.proofs.told.Told.hand_in.Given as goal

abbrev pub invariant-loop-message : goal.invariant-loop-message
invariant-loop-message l = record {
  legal : are_legal (round_in l.self.seen) l.self.seen.pieces l.self.seen.core (hand_in_events (drop l.message-index l.outputs) l.function l.piece) ≡ true;
  rest : told_on (hand_in_events (drop l.message-index l.outputs) l.function l.piece) l.self ≡ told_on (hand_in_events l.outputs l.function l.piece) l.fn.self;
  grown : HasGrown l.fn.self l.self;
}
