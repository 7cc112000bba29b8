use Rattle.std.proofs.Common.{◌∙◌, List, [], ◌∷◌, ◌++◌, map, length, sym, ap, subst, arith}
use Rattle.std.proofs.lemmas.List.{length_push}
use Rattle.flame_field.specs.declared.gatherings.Gathering.{Gathering}
use Rattle.flame_field.specs.declared.pools.Pool.{Pool}
use Rattle.flame_field.specs.KeptGatherings.{bag_of}
use Rattle.flame_field.specs.KeptPools.{AreApart}
use Rattle.flame_field.proofs.Dealing.{weighs, same_pool, weigh-none, weighs-push, apart-of, apart-to, apart-push}
use Rattle.flame_field.proofs.pools.Pool.make_places.Goals as goal

pub returns-in_err-push-clause-dealt : goal.returns-in_err-push-clause-dealt
returns-in_err-push-clause-dealt c choose dealt =
    subst (λ (l : List Gathering). AreApart choose (map bag_of l)) (sym c.in_err-push.ensures.items) (c.loop-place.invariant.dealt choose dealt)

pub loop-place-preserved : goal.loop-place-preserved
loop-place-preserved c =
    let kept = c.loop-place.invariant in
    let chosen = c.loop-place.self.chosen.items in
    let one = c.empty.result in
    let items = c.in_ok-push.ensures.items in
    let new : Pool = record { fresh = c.loop-place.self.fresh; chosen = c.push.new.self } in
    record {
      bag = same_pool c.loop-place.self new
          (λ w. omega (arith, ap (weighs w) items, weighs-push w chosen one, weigh-none w one c.empty.ensures))
          ∙ kept.bag;
      fresh = kept.fresh;
      count = omega (arith, kept.count, ap length items, length_push chosen one);
      dealt = λ choose dealt.
          subst (λ (l : List Gathering). AreApart choose (map bag_of l)) (sym items)
          (apart-to choose (chosen ++ one ∷ []) (apart-push choose chosen one (apart-of choose chosen (kept.dealt choose dealt)) c.empty.ensures));
    }
