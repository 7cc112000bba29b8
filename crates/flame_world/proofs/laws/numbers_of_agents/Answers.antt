use Rattle.flame_world.proofs.Counting.{all_agents_begin, survivors_replace_takers, survivors_and_births_remain}
use Rattle.flame_world.proofs.laws.numbers_of_agents.Goals as goal

pub returns-clause-begin : goal.returns-clause-begin
returns-clause-begin c = all_agents_begin

pub returns-clause-run : goal.returns-clause-run
returns-clause-run c = survivors_replace_takers

pub returns-clause-end : goal.returns-clause-end
returns-clause-end c = survivors_and_births_remain
