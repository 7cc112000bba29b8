use Rattle.std.proofs.Common.{[], ◌∷◌, sym, arith}
use Rattle.flame_rows.specs.Bags.{merge}
use Rattle.flame_field.specs.KeptGatherings.{bag_of}
use Rattle.flame_field.proofs.Changed.{map-written}
use Rattle.flame_round.proofs.Past.{changed-past}
use Rattle.flame_round.proofs.closing.bear_one.Goals as goal

pub returns-then-birth-len : goal.returns-then-birth-len
returns-then-birth-len c =
    sym
    (changed-past bag_of c.args.birth.agent (λ bag. merge bag (c.args.birth.row ∷ [])) c.args.born.now.items
    (omega arith))

pub returns : goal.returns
returns c =
    map-written bag_of (λ bag. merge bag (c.args.birth.row ∷ [])) c.args.born.now.items c.args.birth.agent
    c.index_mut.result.now c.add.new.self (omega arith) c.index_mut.ensures.value c.in_ok-add.ensures.ok
