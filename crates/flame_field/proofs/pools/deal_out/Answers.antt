use Rattle.std.proofs.Common.{rules, ◌≡◌, ◌<◌, ◌+◌, ◌∙◌, ℕ, suc, List, [], ◌∷◌, map, length, refl, sym, ap, subst, arith}
use Rattle.std.specs.Prelude.{ℤ}
use Rattle.std.specs.List.{All, flat_map}
use Rattle.std.specs.Vec.Iter.{into_iter_items, into_iter_len}
use Rattle.std.specs.Iterator.Adapters.{zip_first, zip_second}
use Rattle.std.specs.Slice.Iter.{iter_rest}
use Rattle.std.proofs.lemmas.List.{length-set, nil_from_length}
use Rattle.flame_rows.specs.Bags.{merge, merge_all, weigh}
use Rattle.flame_rows.proofs.BagLaws.{IsAscending-ascending, IsAscending-merge, equal_by_weighings, merge_adds_weights, weigh-append}
use Rattle.flame_rows.proofs.Parting.{over}
use Rattle.flame_field.specs.declared.gatherings.Gathering.{Gathering}
use Rattle.flame_field.specs.KeptGatherings.{bags_of}
use Rattle.flame_field.proofs.Dealing.{weighs, weigh-bags, weighs-written, apart-of, apart-to, apart-more, RoomsIn, room-there, rooms_left, both_over}
use Rattle.flame_field.proofs.pools.deal_out.Goals as goal

pub loop-row-init : goal.loop-row-init
loop-row-init c =
    let rows = c.into_iter-row-iterator.result in
    let first : into_iter_items (zip_first rows) ≡ c.args.rows.items = search rules in
    let second : iter_rest (zip_second rows) ≡ c.args.choices.now = search rules in
    let counted : into_iter_len (zip_first rows) ≡ length (into_iter_items (zip_first rows)) = search rules in
    let chosen = c.args.chosen.now.items in
    record {
      counted = counted;
      long = ap length second ∙ c.requires.count ∙ sym (ap length first);
      count = refl;
      within = subst (λ (l : List ℕ). All (λ choice. choice < length chosen) l) (sym second) c.requires.within;
      rooms = subst (λ (l : List ℕ). RoomsIn l chosen) (sym second) c.requires.rooms;
      weighed = λ w. ap (λ (l : List (List ℤ)). weighs w chosen + weigh w l) first;
      apart = λ choose is apart. (second ∙ is ∙ ap (map choose) (sym first), apart-of choose chosen apart);
    }

pub push_reserved-requires : goal.push_reserved-requires
push_reserved-requires c =
    let kept = c.loop-row.invariant in
    let steps = c.in-Some.ensures.steps in
    let choice = c.in-Some.choice.now in
    let more = iter_rest (zip_second c.next.new.self) in
    let chosen = c.loop-row.chosen.items in
    let all : All (λ n. n < length c.args.chosen.now.items) (choice ∷ more) =
    subst (λ (l : List ℕ). All (λ n. n < length c.args.chosen.now.items) l) steps.1 kept.within in
    let here : choice < length chosen = omega (arith, all 0 choice (omega arith), kept.count) in
    room-there choice more chosen c.index_mut.result.now (subst (λ (l : List ℕ). RoomsIn l chosen) steps.1 kept.rooms) here c.index_mut.ensures.value

pub loop-row-preserved : goal.loop-row-preserved
loop-row-preserved c =
    let kept = c.loop-row.invariant in
    let steps = c.in-Some.ensures.steps in
    let push = c.push_reserved.ensures in
    let choice = c.in-Some.choice.now in
    let row = c.in-Some.row in
    let rest = into_iter_items (zip_first c.next.new.self) in
    let more = iter_rest (zip_second c.next.new.self) in
    let chosen = c.loop-row.chosen.items in
    let old = c.index_mut.result.now in
    let at = c.index_mut.ensures.value in
    let new : Gathering = record { rows = c.push_reserved.new.self } in
    let all : All (λ n. n < length c.args.chosen.now.items) (choice ∷ more) =
    subst (λ (l : List ℕ). All (λ n. n < length c.args.chosen.now.items) l) steps.1 kept.within in
    let here : choice < length chosen = omega (arith, all 0 choice (omega arith), kept.count) in
    record {
      counted = omega (arith, steps.0.1, ap length steps.0.0, kept.counted);
      long = omega (arith, kept.long, ap length steps.0.0, ap length steps.1);
      count = length-set chosen choice _ ∙ kept.count;
      within = λ k d less. all (suc k) d (omega (arith, less));
      rooms = rooms_left choice more chosen old new (subst (λ (l : List ℕ). RoomsIn l chosen) steps.1 kept.rooms) here at push.len push.capacity;
      weighed = λ w.
          omega (
            arith,
            weighs-written w chosen choice old new here at,
            ap (weigh w) push.items,
            weigh-append w old.rows.items (row ∷ []),
            ap (weigh w) steps.0.0,
            kept.weighed w,
          );
      apart = λ choose is before.
          (let now = kept.apart choose is before in
          let both : choice ∷ more ≡ choose row ∷ map choose rest = sym steps.1 ∙ now.0 ∙ ap (map choose) steps.0.0 in
          let head : choice ≡ choose row = cc in
          let tail : more ≡ map choose rest = cc in
          (tail, apart-more choose chosen choice old new row now.1 here at push.items head));
    }

pub returns-clause-bags : goal.returns-clause-bags
returns-clause-bags c =
    let kept = c.loop-row.invariant in
    let chosen = c.loop-row.chosen in
    let before = c.args.chosen.now in
    let rows = c.args.rows.items in
    let left = into_iter_items (zip_first c.loop-row.row-iterator) in
    let none : left ≡ [] = nil_from_length left (both_over (length left) _ kept.long (over _ _ _ kept.counted c.in-None.ensures.steps)) in
    equal_by_weighings (merge_all (bags_of chosen)) (merge (merge_all (bags_of before)) rows)
    (IsAscending-ascending (flat_map (λ bag. bag) (bags_of chosen))) (IsAscending-merge (merge_all (bags_of before)) rows)
    (λ w.
    omega (
      arith,
      weigh-bags w chosen.items,
      kept.weighed w,
      ap (weigh w) none,
      merge_adds_weights w (merge_all (bags_of before)) rows,
      weigh-bags w before.items,
    ))

pub returns-clause-apart : goal.returns-clause-apart
returns-clause-apart c choose is before =
    apart-to choose c.loop-row.chosen.items (c.loop-row.invariant.apart choose is before).1
