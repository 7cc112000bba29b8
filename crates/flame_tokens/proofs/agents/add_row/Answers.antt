-- The vector of this number has the row behind its others.
use Rattle.flame_tokens.proofs.DealtRows.{dealt_at}
use Rattle.flame_tokens.proofs.agents.add_row.Goals as goal

pub returns : goal.returns
returns c =
    dealt_at c.args.dealt.now.items c.args.number c.args.row c.index_mut.result.now _ c.requires
    c.index_mut.ensures.value c.in-Ok.ensures.items
