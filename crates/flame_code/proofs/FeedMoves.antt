-- What moving one of those that feed inputs does to what they feed.
use Rattle.std.proofs.Common.{◌≡◌, ℕ, ◌+◌, ◌<◌, true, false, cond, List, length, map, get_or, set, sym, ap, ◌∙◌, arith, Some}
use Rattle.std.specs.Prelude.{slice_get, slice_set, option_map}
use Rattle.std.specs.Option.{option_map_or}
use Rattle.std.proofs.lemmas.List.{map-set, length-map}
use Rattle.std.proofs.lemmas.Option.{slice_get-map, slice_get-get_or}
use Rattle.flame_code.specs.Feeds.{Fed, with_come, has_more, with_more, with_input, at_start, has_next, at_next}

-- an input that is fed has one that feeds it
pub has_feeder : {A : Type 0} (fed : A → Fed) (feeders : List A) (feeds : List Fed) (i : ℕ) → map fed feeders ≡ feeds → i < length feeds → i < length feeders
has_feeder fed feeders feeds i same h =
    let size = sym (ap length same) ∙ length-map feeders fed in omega (arith, size)

module _ {A : Type 0} (fed : A → Fed) (feeders : List A) (i : ℕ) (here : A) (within : i < length feeders) (stands : here ≡ get_or feeders i here) where
  fed_here : slice_get (map fed feeders) i ≡ Some (fed here)
  fed_here =
      slice_get-map fed feeders i
      ∙ ap (option_map fed) (slice_get-get_or feeders i here within ∙ ap Some (sym stands))

  with_input-map : (change : Fed → Fed) → with_input change i (map fed feeders) ≡ set (map fed feeders) i (change (fed here))
  with_input-map change = ap (λ o. option_map_or (λ f. slice_set (map fed feeders) i (change f)) o (map fed feeders)) fed_here

  -- the one that feeds it begins
  pub at_start-map : (moved : A) → fed moved ≡ with_come 0 (fed here) → map fed (set feeders i moved) ≡ at_start i (map fed feeders)
  at_start-map moved begun =
      map-set fed feeders i moved
      ∙ ap (set (map fed feeders) i) begun
      ∙ sym (with_input-map (with_come 0))

  pub has_next-map : has_next i (map fed feeders) ≡ has_more (fed here)
  has_next-map = ap (λ o. option_map_or has_more o false) fed_here

  -- the one that feeds it has a row that is still to come
  pub at_next-more : (moved : A) → fed moved ≡ with_come ((fed here).come + 1) (fed here) → has_more (fed here) ≡ true → map fed (set feeders i moved) ≡ at_next i (map fed feeders)
  at_next-more moved one_more more =
      map-set fed feeders i moved
      ∙ ap (set (map fed feeders) i) (one_more ∙ ap (λ t. cond t (with_come ((fed here).come + 1) (fed here)) (fed here)) (sym more))
      ∙ sym (with_input-map with_more)

  pub at_next-none : has_more (fed here) ≡ false → map fed (set feeders i here) ≡ at_next i (map fed feeders)
  at_next-none none =
      map-set fed feeders i here
      ∙ ap (set (map fed feeders) i) (ap (λ t. cond t (with_come ((fed here).come + 1) (fed here)) (fed here)) (sym none))
      ∙ sym (with_input-map with_more)
