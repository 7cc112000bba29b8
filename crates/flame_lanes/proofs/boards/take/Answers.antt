use Rattle.std.proofs.Common.{[], ◌∙◌, ap}
use Rattle.flame_field.specs.KeptBoards.{board_bag}
use Rattle.flame_field.proofs.Changed.{map-written}
use Rattle.flame_lanes.proofs.boards.take.Goals as goal

pub returns-clause-others : goal.returns-clause-others
returns-clause-others c =
    map-written board_bag (λ bag. []) c.args.boards.now.items c.args.message c.index_mut.result.now c.replace.new.dest c.requires
    c.index_mut.ensures.value (ap board_bag c.replace.ensures.after ∙ c.empty.ensures.bag)
