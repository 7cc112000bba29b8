-- What parts and lanes weigh, and what is frozen of them.
use Rattle.std.proofs.Common.{◌≡◌, ℕ, zero, suc, ◌+◌, List, [], ◌∷◌, ◌++◌, map, set, Option, Some, None, refl, sym, ap, ◌∙◌, arith}
use Rattle.std.specs.Prelude.{ℤ, slice_get}
use Rattle.std.specs.List.{flat_map}
use Rattle.std.proofs.lemmas.List.Concat.{flat_map-append}
use Rattle.flame_rows.specs.Order.{row_order}
use Rattle.flame_rows.specs.Sorted.{IsAscending}
use Rattle.flame_rows.specs.Bags.{merge_all, weigh}
use Rattle.flame_rows.proofs.BagLaws.{IsAscending-ascending, equal_by_weighings, weigh-append, weigh-ascending}
use Rattle.flame_world.specs.declared.pieces.Part.{Part}
use Rattle.flame_board.specs.declared.lanes.Lane.{Lane}
use Rattle.flame_board.specs.LaneParts.{put_in, weigh_parts, weigh_stayed}
use Rattle.flame_board.specs.SeenLanes.{bags_of, parts_of, weigh_lanes}

module _ (weight : List ℤ → ℕ) where
  pub weigh_parts-append : (parts more : List Part)
      → weigh_parts weight (parts ++ more) ≡ weigh_parts weight parts + weigh_parts weight more
  weigh_parts-append [] more = omega arith
  weigh_parts-append (part ∷ parts) more = omega (arith, weigh_parts-append parts more)

  pub weigh_lanes-append : (lanes more : List Lane)
      → weigh_lanes weight (lanes ++ more) ≡ weigh_lanes weight lanes + weigh_lanes weight more
  weigh_lanes-append [] more = omega arith
  weigh_lanes-append (lane ∷ lanes) more = omega (arith, weigh_lanes-append lanes more)

  -- one lane more
  pub weigh_lanes-lane : (lanes : List Lane) (lane : Lane)
      → weigh_lanes weight (lanes ++ lane ∷ []) ≡ weigh_lanes weight lanes + weigh_parts weight (parts_of lane)
  weigh_lanes-lane lanes lane = omega (arith, weigh_lanes-append lanes (lane ∷ []))

  -- in whatever order they are put together
  pub weigh-put_in : (stayed : List (Option Part)) (went : List Part)
      → weigh_parts weight (put_in stayed went) ≡ weigh_parts weight went + weigh_stayed weight stayed
  weigh-put_in [] went = omega arith
  weigh-put_in (Some part ∷ stayed) went = omega (arith, weigh-put_in stayed went)
  weigh-put_in (None ∷ stayed) [] = weigh-put_in stayed []
  weigh-put_in (None ∷ stayed) (part ∷ went) = omega (arith, weigh-put_in stayed went)

  weigh-rows : (parts : List Part)
      → weigh weight (flat_map (λ bag. bag) (map (λ (part : Part). part.rows) parts)) ≡ weigh_parts weight parts
  weigh-rows [] = refl
  weigh-rows (part ∷ parts) =
      weigh-append weight part.rows (flat_map (λ bag. bag) (map (λ (p : Part). p.rows) parts))
      ∙ ap (λ n. weigh weight part.rows + n) (weigh-rows parts)

  weigh-bags : (lanes : List Lane) → weigh weight (flat_map (λ bag. bag) (bags_of lanes)) ≡ weigh_lanes weight lanes
  weigh-bags [] = refl
  weigh-bags (lane ∷ lanes) =
      let rows : List (List (List ℤ)) = map (λ (p : Part). p.rows) (parts_of lane) in
      ap (weigh weight) (flat_map-append (λ (bag : List (List ℤ)). bag) rows (bags_of lanes))
      ∙ weigh-append weight (flat_map (λ bag. bag) rows) (flat_map (λ bag. bag) (bags_of lanes))
      ∙ (λ i. weigh-rows (parts_of lane) i + weigh-bags lanes i)

  -- what is frozen weighs as much as all that came
  pub weigh-merge_all : (before : List (List ℤ)) (lanes : List Lane)
      → weigh weight (merge_all (before ∷ bags_of lanes)) ≡ weigh weight before + weigh_lanes weight lanes
  weigh-merge_all before lanes =
      weigh-ascending weight (flat_map (λ bag. bag) (before ∷ bags_of lanes))
      ∙ weigh-append weight before (flat_map (λ bag. bag) (bags_of lanes))
      ∙ ap (λ n. weigh weight before + n) (weigh-bags lanes)

-- a bag that weighs as much as all of it is it
pub all-together : (bag before : List (List ℤ)) (lanes : List Lane)
    → IsAscending row_order bag
    → ((weight : List ℤ → ℕ) → weigh weight bag ≡ weigh weight before + weigh_lanes weight lanes)
    → bag ≡ merge_all (before ∷ bags_of lanes)
all-together bag before lanes up heavy =
    equal_by_weighings bag (merge_all (before ∷ bags_of lanes)) up
    (IsAscending-ascending (flat_map (λ rows. rows) (before ∷ bags_of lanes)))
    (λ weight. heavy weight ∙ sym (weigh-merge_all weight before lanes))
