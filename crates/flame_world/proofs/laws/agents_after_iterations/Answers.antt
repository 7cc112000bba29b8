use Rattle.flame_world.proofs.Tallies.{survivors_and_births_are_all}
use Rattle.flame_world.proofs.laws.agents_after_iterations.Goals as goal

pub returns : goal.returns
returns c = record { whole = survivors_and_births_are_all }
