use Rattle.flame_events.proofs.Absorbing.{agents_run_at_once}
use Rattle.flame_events.proofs.laws.agents_at_once.Goals as goal

pub returns : goal.returns
returns c = agents_run_at_once
