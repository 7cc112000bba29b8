use Rattle.std.proofs.Common.{◌<◌, ◌≤◌, ◌+◌, ◌∙◌, length, ap, arith}
use Rattle.std.specs.Vec.{vec_len, vec_capacity}
use Rattle.std.proofs.lemmas.List.{length-set}
use Rattle.std.proofs.lemmas.Option.{slice_get_within}
use Rattle.flame_rows.specs.Bags.{ascending}
use Rattle.flame_field.specs.declared.gatherings.Gathering.{Gathering}
use Rattle.flame_field.specs.KeptGatherings.{bag_of}
use Rattle.flame_field.specs.KeptPools.{choosing}
use Rattle.flame_field.proofs.Written.{map-kept}
use Rattle.flame_field.proofs.Dealing.{rooms_more}
use Rattle.flame_field.proofs.pools.make_rooms.Goals as goal

pub returns-in_err-reserve-clause-bags : goal.returns-in_err-reserve-clause-bags
returns-in_err-reserve-clause-bags c =
    let kept = c.loop-place.invariant in
    let place = c.loop-place.place in
    let chosen = c.loop-place.chosen.items in
    let new : Gathering = record { rows = c.reserve.new.self } in
    let here : place < length chosen = omega (arith, c.loop-place-test.true, c.len-place-end.ensures, c.args.chosen.now.ok.0, kept.count) in
    map-kept bag_of chosen place c.index_mut.result.now new here c.index_mut.ensures.value (ap ascending c.in_err-reserve.ensures.items)
    ∙ kept.bags

pub loop-place-preserved : goal.loop-place-preserved
loop-place-preserved c =
    let kept = c.loop-place.invariant in
    let place = c.loop-place.place in
    let chosen = c.loop-place.chosen.items in
    let new : Gathering = record { rows = c.reserve.new.self } in
    let here : place < length chosen = omega (arith, c.loop-place-test.true, c.len-place-end.ensures, c.args.chosen.now.ok.0, kept.count) in
    let room : vec_len c.reserve.new.self + choosing c.args.choices.now place ≤ vec_capacity c.reserve.new.self =
    omega (arith, c.in_ok-reserve.ensures.ok, c.count_choosing-count.ensures) in
    record {
      bags = map-kept bag_of chosen place c.index_mut.result.now new here c.index_mut.ensures.value (ap ascending c.in_ok-reserve.ensures.items)
          ∙ kept.bags;
      count = length-set chosen place _ ∙ kept.count;
      rooms = rooms_more c.args.choices.now chosen place new kept.rooms room;
    }

pub returns-clause-rooms : goal.returns-clause-rooms
returns-clause-rooms c place own at =
    let kept = c.loop-place.invariant in
    kept.rooms place own
    (omega (arith, slice_get_within c.loop-place.chosen.items place own at, kept.count, c.loop-place-test.false, c.len-place-end.ensures, c.args.chosen.now.ok.0)) at
