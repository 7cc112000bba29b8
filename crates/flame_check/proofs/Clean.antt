-- What has no fault where the files have none.
use Rattle.std.proofs.Common.{◌≡◌, ℕ, List, [], ◌∷◌, ◌++◌, refl, sym, ap, ◌∙◌, Bool, true, false, cond, Some}
use Rattle.std.specs.Prelude.{find, slice_get, not, ◌&&◌}
use Rattle.std.specs.List.{flat_map}
use Rattle.flame_rows.proofs.Lists.{append-is_nil_left, append-is_nil_right, list_any-at, flat_map-none_at}
use Rattle.flame_spec.specs.declared.faults.CheckFault.{CheckFault}
use Rattle.flame_spec.specs.declared.models.Model.{Model}
use Rattle.flame_spec.specs.declared.trees.Parameter.{Parameter}
use Rattle.flame_spec.specs.declared.trees.Unit as file
use Rattle.flame_spec.specs.CheckFaults.{bodies_faults, body_faults, check_faults, context, definition_faults}
use Rattle.flame_spec.specs.CheckFaults.{is_run_by, missing_faults, twice_faults, with_parameters_faults}
use Rattle.flame_spec.specs.CheckFaults.{with_parameters_where}
use Rattle.flame_spec.specs.Definitions.{Definition, definitions, has_none, helpers, is_for, is_helper, is_idle}
use Rattle.flame_spec.specs.Definitions.{is_transition}
use Rattle.flame_spec.specs.Functions.{Place, functions}
use Rattle.flame_spec.specs.HelperFaults.{deep_faults, helper_context, recursive_faults}
use Rattle.flame_check.proofs.Members.{Passes, found_passes, kept_passes}
use Rattle.flame_check.proofs.Parts.{laid_out}

-- the faults behind those of C functions that are defined twice
behind_twice : Model → List file.Unit → List CheckFault
behind_twice model units =
    flat_map (with_parameters_faults model) (definitions units)
    ++ (flat_map (missing_faults (definitions units)) (functions model)
    ++ ((recursive_faults model (helpers model units) ++ deep_faults model (helpers model units))
    ++ flat_map (bodies_faults model (helpers model units)) (definitions units)))

none_behind_twice :
    (model : Model) (units : List file.Unit)
    → check_faults model units ≡ []
    → behind_twice model units ≡ []
unfolding behind_twice
none_behind_twice model units h =
    append-is_nil_right (twice_faults [] (definitions units)) (behind_twice model units)
    (sym
    (laid_out (twice_faults [] (definitions units)) (flat_map (with_parameters_faults model) (definitions units))
    (flat_map (missing_faults (definitions units)) (functions model)) (recursive_faults model (helpers model units))
    (deep_faults model (helpers model units))
    (flat_map (bodies_faults model (helpers model units)) (definitions units)))
    ∙ h)

-- no C function for a function of the model has parameters
pub all_bare :
    (model : Model) (units : List file.Unit)
    → check_faults model units ≡ []
    → flat_map (with_parameters_faults model) (definitions units) ≡ []
unfolding behind_twice
all_bare model units h = append-is_nil_left _ _ (none_behind_twice model units h)

-- no body has a fault
pub clean_bodies :
    (model : Model) (units : List file.Unit)
    → check_faults model units ≡ []
    → flat_map (bodies_faults model (helpers model units)) (definitions units) ≡ []
unfolding behind_twice
clean_bodies model units h =
    append-is_nil_right (recursive_faults model (helpers model units) ++ deep_faults model (helpers model units)) _
    (append-is_nil_right (flat_map (missing_faults (definitions units)) (functions model)) _
    (append-is_nil_right (flat_map (with_parameters_faults model) (definitions units)) _ (none_behind_twice model units h)))

-- ---- helpers

-- the body of a helper has no fault
pub clean_helper :
    (model : Model) (units : List file.Unit) (number : ℕ) (d : Definition)
    → check_faults model units ≡ []
    → slice_get (helpers model units) number ≡ Some d
    → definition_faults (helper_context model (helpers model units) d) d ≡ []
clean_helper model units number d h there =
    let kept : Passes (is_helper model) (definitions units) d =
    kept_passes (is_helper model) (definitions units) number d there in
    let hs = helpers model units in
    ap
    (λ b.
    cond b (definition_faults (helper_context model hs d) d) (flat_map (body_faults model hs d) (functions model)))
    (sym kept.passes)
    ∙ flat_map-none_at (bodies_faults model hs) (definitions units) kept.place d (clean_bodies model units h) kept.there

-- ---- functions of the model

-- a C function that runs a function of the model
pub record Runs (model : Model) (units : List file.Unit) (number : ℕ) (place : Place) (d : Definition) : Type 0 where
  pub there : slice_get (functions model) number ≡ Some place
  pub busy : is_idle place.function ≡ false
  pub found : find (is_for place.function) (definitions units) ≡ Some d

run_by :
    (model : Model) (units : List file.Unit) (number : ℕ) (place : Place) (d : Definition)
    → Runs model units number place d
    → is_run_by d place ≡ true
run_by model units number place d runs =
    let found = found_passes (is_for place.function) (definitions units) d runs.found in
    ap (λ b. not b && is_for place.function d) runs.busy ∙ found.passes

-- it has no parameters
pub bare :
    (model : Model) (units : List file.Unit) (number : ℕ) (place : Place) (d : Definition)
    → check_faults model units ≡ []
    → Runs model units number place d
    → d.parameters ≡ []
bare model units number place d h runs =
    let found = found_passes (is_for place.function) (definitions units) d runs.found in
    let any =
    list_any-at (is_run_by d) (functions model) number place runs.there (run_by model units number place d runs) in
    let none =
    flat_map-none_at (with_parameters_faults model) (definitions units) found.place d (all_bare model units h) found.there in
    by_list d.parameters
    (sym (ap (λ b. with_parameters_where (not (has_none d.parameters) && b) d) any) ∙ none)
  where
    by_list :
        (parameters : List Parameter)
        → with_parameters_where (not (has_none parameters) && true) d ≡ []
        → parameters ≡ []
    by_list [] e = refl
    by_list (p ∷ ps) e = absurd (cc)

-- its body has no fault for that function
pub clean_run :
    (model : Model) (units : List file.Unit) (number : ℕ) (place : Place) (d : Definition)
    → check_faults model units ≡ []
    → Runs model units number place d
    → definition_faults (context model (helpers model units) d place) d ≡ []
clean_run model units number place d h runs =
    let hs = helpers model units in
    let found = found_passes (is_for place.function) (definitions units) d runs.found in
    let named =
    list_any-at (λ (p : Place). is_for p.function d) (functions model) number place runs.there found.passes in
    let body =
    flat_map-none_at (bodies_faults model hs) (definitions units) found.place d (clean_bodies model units h) found.there in
    let all : flat_map (body_faults model hs d) (functions model) ≡ [] =
    ap
    (λ b.
    cond b (definition_faults (helper_context model hs d) d) (flat_map (body_faults model hs d) (functions model)))
    (sym (none_helps (not (has_none d.parameters)) (is_transition model d) named))
    ∙ body in
    ap (λ b. cond b (definition_faults (context model hs d place) d) [])
    (sym (run_by model units number place d runs))
    ∙ flat_map-none_at (body_faults model hs d) (functions model) number place all runs.there
  where
    none_helps : (a b : Bool) → b ≡ true → (a && not b) ≡ false
    none_helps a b e = ap (λ c. a && not c) e ∙ falls a
      where
        falls : (c : Bool) → (c && false) ≡ false
        falls true = refl
        falls false = refl
