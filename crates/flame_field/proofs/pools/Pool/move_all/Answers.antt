use Rattle.std.proofs.Common.{◌≡◌, ◌∙◌, [], sym, ap, arith}
use Rattle.std.specs.Prelude.{slice_set}
use Rattle.std.specs.Vec.{with_item}
use Rattle.flame_rows.specs.Bags.{weigh}
use Rattle.flame_rows.proofs.Lists.{slice_index_or-map}
use Rattle.flame_field.specs.declared.gatherings.Gathering.{Gathering}
use Rattle.flame_field.specs.declared.pools.Pool.{Pool}
use Rattle.flame_field.specs.KeptGatherings.{bag_of}
use Rattle.flame_field.proofs.Dealing.{same_pool, weigh-none, weighs-written, apart-of, apart-to, apart-moved, none_there}
use Rattle.flame_field.proofs.pools.Pool.move_all.Goals as goal

pub returns-clause-bag : goal.returns-clause-bag
returns-clause-bag c =
    let chosen = c.args.self.now.chosen in
    let old = c.index_mut.result.now in
    let at = c.index_mut.ensures.value in
    let here = c.requires.there in
    let free : bag_of old ≡ [] = sym (slice_index_or-map bag_of [] chosen.items c.args.place old here at) ∙ c.requires.free in
    let none : bag_of c.replace-all.new.dest ≡ [] = ap bag_of c.replace-all.ensures.after ∙ c.empty-empty.ensures in
    let new : Pool = record { fresh = c.replace-all.new.dest; chosen = with_item chosen c.args.place c.replace-all.result } in
    same_pool c.args.self.now new
    (λ w.
    omega (
      arith,
      weigh-none w c.replace-all.new.dest none,
      weigh-none w old free,
      weighs-written w chosen.items c.args.place old c.replace-all.result here at,
      ap (λ (own : Gathering). weigh w own.rows.items) c.replace-all.ensures.value,
    ))

pub returns-clause-fresh : goal.returns-clause-fresh
returns-clause-fresh c = none_there c.replace-all.new.dest (ap bag_of c.replace-all.ensures.after ∙ c.empty-empty.ensures)

pub returns-clause-dealt : goal.returns-clause-dealt
returns-clause-dealt c choose chose dealt =
    let chosen = c.args.self.now.chosen.items in
    apart-to choose (slice_set chosen c.args.place c.replace-all.result)
    (apart-moved choose chosen c.args.place c.args.self.now.fresh c.replace-all.result (apart-of choose chosen dealt) c.replace-all.ensures.value chose)
