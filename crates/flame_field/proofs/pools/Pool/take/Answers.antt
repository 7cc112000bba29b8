use Rattle.std.proofs.Common.{◌≡◌, ◌≤◌, ◌<◌, ◌∙◌, [], length, sym, ap, arith}
use Rattle.std.specs.Prelude.{slice_set}
use Rattle.std.specs.Vec.{with_item}
use Rattle.flame_rows.specs.Bags.{weigh}
use Rattle.flame_field.specs.declared.gatherings.Gathering.{Gathering}
use Rattle.flame_field.specs.declared.pools.Pool.{Pool}
use Rattle.flame_field.proofs.Dealing.{weighs-written, apart-of, apart-to, apart-emptied, ons-there, ons-none, takers_are, others_are, length-there}
use Rattle.flame_field.proofs.pools.Pool.take.Goals as goal

pub returns-then-place-len-clause-takers : goal.returns-then-place-len-clause-takers
returns-then-place-len-clause-takers c choose dealt =
    let chosen = c.args.self.now.chosen in
    let past : length chosen.items ≤ c.args.place = omega (arith, c.if-place-len.true, c.len.ensures, chosen.ok.0) in
    takers_are choose c.args.place c.args.self.now c.new-empty.result.items c.requires
    (λ w. ons-none choose c.args.place w chosen.items (apart-of choose chosen.items dealt) past ∙ sym (ap (weigh w) c.new-empty.ensures.items))

pub returns-then-place-len-clause-others : goal.returns-then-place-len-clause-others
returns-then-place-len-clause-others c choose dealt =
    let chosen = c.args.self.now.chosen in
    let past : length chosen.items ≤ c.args.place = omega (arith, c.if-place-len.true, c.len.ensures, chosen.ok.0) in
    others_are choose c.args.place c.args.self.now c.args.self.now c.requires c.requires
    (λ w. omega (arith, ons-none choose c.args.place w chosen.items (apart-of choose chosen.items dealt) past))

pub returns-clause-takers : goal.returns-clause-takers
returns-clause-takers c choose dealt =
    let chosen = c.args.self.now.chosen in
    let within : c.args.place < length chosen.items = omega (arith, c.if-place-len.false, c.len.ensures, chosen.ok.0) in
    takers_are choose c.args.place c.args.self.now c.replace.result.items c.requires
    (λ w.
    ons-there choose c.args.place w chosen.items c.index_mut.result.now (apart-of choose chosen.items dealt) within c.index_mut.ensures.value
    ∙ sym (ap (λ rows. weigh w rows.items) c.replace.ensures.value))

pub returns-clause-others : goal.returns-clause-others
returns-clause-others c choose dealt =
    let chosen = c.args.self.now.chosen in
    let within : c.args.place < length chosen.items = omega (arith, c.if-place-len.false, c.len.ensures, chosen.ok.0) in
    let old = c.index_mut.result.now in
    let left : Gathering = record { rows = c.replace.new.dest } in
    let none : left.rows.items ≡ [] = ap (λ rows. rows.items) c.replace.ensures.after ∙ c.new-empty.ensures.items in
    let new : Pool = record { fresh = c.args.self.now.fresh; chosen = with_item chosen c.args.place left } in
    others_are choose c.args.place c.args.self.now new c.requires c.requires
    (λ w.
    omega (
      arith,
      ons-there choose c.args.place w chosen.items old (apart-of choose chosen.items dealt) within c.index_mut.ensures.value,
      weighs-written w chosen.items c.args.place old left within c.index_mut.ensures.value,
      ap (weigh w) none,
    ))

pub returns-clause-count : goal.returns-clause-count
returns-clause-count c =
    let chosen = c.args.self.now.chosen in
    let within : c.args.place < length chosen.items = omega (arith, c.if-place-len.false, c.len.ensures, chosen.ok.0) in
    ap (λ rows. length rows.items) c.replace.ensures.value
    ∙ length-there chosen.items c.args.place c.index_mut.result.now within c.index_mut.ensures.value

pub returns-clause-dealt : goal.returns-clause-dealt
returns-clause-dealt c choose dealt =
    let chosen = c.args.self.now.chosen.items in
    let left : Gathering = record { rows = c.replace.new.dest } in
    let none : left.rows.items ≡ [] = ap (λ rows. rows.items) c.replace.ensures.after ∙ c.new-empty.ensures.items in
    apart-to choose (slice_set chosen c.args.place left) (apart-emptied choose chosen c.args.place left (apart-of choose chosen dealt) none)
