use Rattle.std.proofs.Common.{◌≡◌, ◌∙◌, [], ap, arith}
use Rattle.flame_rows.specs.Bags.{merge_all, weigh}
use Rattle.flame_rows.proofs.BagLaws.{merge_adds_weights}
use Rattle.flame_field.specs.declared.pools.Pool.{Pool}
use Rattle.flame_field.specs.KeptGatherings.{bags_of}
use Rattle.flame_field.proofs.Dealing.{same_pool, weigh-bags}
use Rattle.flame_field.proofs.pools.Pool.part.Goals as goal

pub returns-clause-bag : goal.returns-clause-bag
returns-clause-bag c =
    let between = c.make_rooms.new.chosen in
    let rows = c.replace-rows.result.items in
    let none : c.replace-rows.new.dest.items ≡ [] = ap (λ l. l.items) c.replace-rows.ensures.after ∙ c.new-empty.ensures.items in
    let new : Pool = record { fresh = record { rows = c.replace-rows.new.dest }; chosen = c.deal_out.new.chosen } in
    same_pool c.args.self.now new
    (λ w.
    omega (
      arith,
      ap (weigh w) none,
      weigh-bags w new.chosen.items,
      ap (weigh w) c.deal_out.ensures.bags,
      merge_adds_weights w (merge_all (bags_of between)) rows,
      ap (λ b. weigh w (merge_all b)) c.in_ok-make_rooms.ensures.bags,
      weigh-bags w c.args.self.now.chosen.items,
      ap (λ l. weigh w l.items) c.replace-rows.ensures.value,
    ))
