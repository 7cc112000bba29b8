use Rattle.flame_pieces.proofs.KeptParts.{put_part}
use Rattle.flame_pieces.proofs.works.Output.put.Goals as goal

pub returns-then-not-self-clause-part : goal.returns-then-not-self-clause-part
returns-then-not-self-clause-part c = put_part c.args.self.now c.put.new.self c.args.rows.items c.put.ensures
