-- The list ends behind the last type.
use Rattle.flame_rows.specs.RowVectors.{rows_of}
use Rattle.flame_tokens.proofs.BagLists.{bags_read}
use Rattle.flame_tokens.proofs.bags.bags.Goals as goal

pub returns : goal.returns
returns c =
    bags_read c.args.types.now c.args.reader.now c.begins.new.reader c.bags_in.new.reader c.ends.new.reader
    (rows_of c.in_ok-dealt.dealt) c.in_ok-begins.ensures c.in_ok-dealt.ensures.tokens c.in_ok-ends.ensures
    c.in_ok-dealt.ensures.wide
