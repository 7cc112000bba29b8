use Rattle.std.proofs.Common.{subst}
use Rattle.flame_lanes.specs.ListedMessages.{AreOnce}
use Rattle.flame_lanes.proofs.Listed.{listed-once}
use Rattle.flame_lanes.proofs.messages.Messages.listed.Goals as goal

pub returns-clause-once : goal.returns-clause-once
returns-clause-once c =
    subst AreOnce c.self.view_is (listed-once c.self.inside.listed.items c.self.inside.places.items c.self.invariant)
