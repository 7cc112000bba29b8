use Rattle.flame_popfile.proofs.Chains.{chain_three}
use Rattle.flame_popfile.proofs.rows.push_object.Goals as goal

pub returns : goal.returns
returns c =
    chain_three _ _ _ _ _ _ _ c.in_ok-push_str.ensures c.in_ok-push_variables.ensures c.in_ok-push_str-2.ensures
