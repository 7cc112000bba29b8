use Rattle.flame_nodes.proofs.PartedTakers.{each_goes_to_one, has_a_bag}
use Rattle.flame_nodes.proofs.laws.each_goes_to_one_node.Goals as goal

pub returns-clause-bags : goal.returns-clause-bags
returns-clause-bags c = has_a_bag

pub returns-clause-whole : goal.returns-clause-whole
returns-clause-whole c = each_goes_to_one
