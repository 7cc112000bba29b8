-- Outcomes are those of numbered bodies.
use Rattle.flame_number_laws.proofs.SameOutcomes.{outcomes-are-numbered}
use Rattle.flame_number_laws.proofs.laws.outcomes_are_numbered.Goals as goal

pub returns : goal.returns
returns c = outcomes-are-numbered
