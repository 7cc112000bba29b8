-- The table has the types of the model.
use Rattle.std.proofs.Common.{List, false, subst}
use Rattle.flame_spec.specs.declared.models.AgentType.{AgentType}
use Rattle.flame_rows.specs.RowVectors.{rows_of}
use Rattle.flame_tokens.specs.PopulationTrees.{HasAgents}
use Rattle.flame_tokens.proofs.DealtRows.{listed_read}
use Rattle.flame_tokens.proofs.states.listed.Goals as goal

pub returns : goal.returns
returns c =
    let old = c.args.reader.now in
    let new = c.agents.new.reader in
    let dealt = rows_of c.in_ok-dealt.dealt in
    subst (λ (types : List AgentType). HasAgents false types old new dealt) c.in_ok-table.ensures
    (listed_read _ old new dealt c.in_ok-dealt.ensures)
