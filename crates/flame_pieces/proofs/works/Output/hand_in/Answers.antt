use Rattle.std.proofs.Common.{Vec, Global, List, ap, arith}
use Rattle.std.specs.Prelude.{ℤ}
use Rattle.std.specs.Vec.{vec_len}
use Rattle.flame_pieces.proofs.KeptParts.{same_count}
use Rattle.flame_pieces.proofs.works.Output.hand_in.Goals as goal

pub returns-clause-count : goal.returns-clause-count
returns-clause-count c =
    omega (
      arith,
      ap (λ (v : Vec (List ℤ) Global). vec_len v) c.replace.ensures.value,
      same_count c.put_in_order.new.self.rows.items c.args.self.now.rows.rows.items c.put_in_order.ensures,
    )
