use Rattle.flame_events.proofs.HandedTogether.{parts_are_handed_in_at_once}
use Rattle.flame_events.proofs.laws.parts_at_once.Goals as goal

pub returns : goal.returns
returns c = parts_are_handed_in_at_once
