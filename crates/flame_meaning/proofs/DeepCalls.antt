-- Calls that may be open inside one another beyond the greatest height make no difference.
use Rattle.std.proofs.Common.{◌≡◌, ℕ, zero, suc, ◌≤◌, true, List, Some}
use Rattle.std.proofs.Common.{refl, sym, ap, ◌∙◌, arith}
use Rattle.std.specs.Prelude.{ℤ, slice_get}
use Rattle.std.proofs.lemmas.Option.{slice_get_within}
use Rattle.flame_spec.specs.declared.models.Model.{Model}
use Rattle.flame_spec.specs.declared.outcomes.Source.{Source}
use Rattle.flame_spec.specs.Definitions.{Definition, helpers}
use Rattle.flame_spec.specs.Functions.{Place}
use Rattle.flame_spec.specs.HelperFaults.{helper_context, caller_calls, is_called_by, call_height, deepest_calls}
use Rattle.flame_spec.specs.Trees.{Statements}
use Rattle.flame_meaning.specs.Scenes.{Progress}
use Rattle.flame_meaning.specs.Statements.{meanings}
use Rattle.flame_meaning.specs.HelperCalls.{gives, entered, helper_scene, calls_within, helper_calls}
use Rattle.flame_meaning.specs.Outcomes.{scene_of}
use Rattle.flame_meaning.specs.AcceptedMeaning.{place_in}
use Rattle.flame_meaning.specs.DepthLaws.{HaveHeights}
use Rattle.flame_meaning.proofs.Alike.{statements_alike}

module _ (model : Model) (hs : List Definition) (constants : List ℤ) (iteration : ℤ) (heights : HaveHeights model hs) where
  pub enough_levels :
      (n m : ℕ) (g : ℕ) (d : Definition) (line : ℕ) (values : List ℤ) (fuel : ℕ)
      → slice_get hs g ≡ Some d
      → call_height model hs g ≤ n
      → call_height model hs g ≤ m
      → calls_within n model hs constants iteration line d values fuel ≡ calls_within m model hs constants iteration line d values fuel
  enough_levels zero m g d line values fuel at low also_low = absurd (omega (arith, low))
  enough_levels (suc n) zero g d line values fuel at low also_low = absurd (omega (arith, also_low))
  enough_levels (suc n) (suc m) g d line values zero at low also_low = refl
  enough_levels (suc n) (suc m) g d line values (suc fuel) at low also_low =
      ap gives
      (statements_alike (helper_context model hs d)
      (calls_within n model hs constants iteration) (calls_within m model hs constants iteration)
      d.body
      (helper_scene model hs constants iteration (calls_within n model hs constants iteration))
      (entered d.parameters values fuel) refl refl
      (record {
        alike = λ k helper at_line given left there calls.
            let called : is_called_by model hs k g ≡ true = ap (caller_calls model hs k) at ∙ calls in
            let lower = (heights g (slice_get_within hs g d at)).1 k (slice_get_within hs k helper there) called in
            enough_levels n m k helper at_line given left there (omega (arith, lower, low)) (omega (arith, lower, also_low));
      }))

pub deeper_calls_end_alike :
    (model : Model) (hs : List Definition) (constants : List ℤ) (iteration : ℤ) (levels line number : ℕ)
    (helper : Definition) (values : List ℤ) (fuel : ℕ)
    → HaveHeights model hs
    → slice_get hs number ≡ Some helper
    → deepest_calls ≤ levels
    → calls_within levels model hs constants iteration line helper values fuel
    ≡ helper_calls model hs constants iteration line helper values fuel
deeper_calls_end_alike model hs constants iteration levels line number helper values fuel heights at enough =
    let low = (heights number (slice_get_within hs number helper at)).0 in
    enough_levels model hs constants iteration heights levels deepest_calls number helper line values fuel at
    (omega (arith, low, enough)) low

pub deeper_calls_mean_alike :
    (source : Source) (place : Place) (readings : List (List (List ℤ))) (constants : List ℤ) (iteration : ℤ)
    (levels : ℕ) (body : Statements) (s : Progress)
    → HaveHeights source.model (helpers source.model source.units)
    → deepest_calls ≤ levels
    → meanings body (record (scene_of source place readings constants iteration) {
      answers = calls_within levels source.model (helpers source.model source.units) constants iteration;
    }) s
    ≡ meanings body (scene_of source place readings constants iteration) s
deeper_calls_mean_alike source place readings constants iteration levels body s heights enough =
    sym (statements_alike (place_in source.model source.units place 0)
    (helper_calls source.model (helpers source.model source.units) constants iteration)
    (calls_within levels source.model (helpers source.model source.units) constants iteration)
    body (scene_of source place readings constants iteration) s refl refl
    (record {
      alike = λ k helper line values fuel at calls.
          sym (deeper_calls_end_alike source.model (helpers source.model source.units) constants iteration levels line k helper values fuel heights at enough);
    }))
