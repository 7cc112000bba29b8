-- The bodies that run have no check faults.
use Rattle.std.proofs.Common.{◌≡◌, ℕ, zero, suc, Bool, true, false, cond, List, [], ◌∷◌, Option, Some, None, refl, true≢false}
use Rattle.std.proofs.Common.{sym, ap, ◌∙◌}
use Rattle.std.specs.Prelude.{not, slice_get, ◌&&◌}
use Rattle.std.specs.List.{list_any, flat_map, filter, find}
use Rattle.std.proofs.lemmas.Bool.{and_from}
use Rattle.flame_rows.proofs.Lists.{append-is_nil_left, append-is_nil_right, list_any-at, flat_map-none_at}
use Rattle.flame_spec.specs.declared.models.Model.{Model}
use Rattle.flame_spec.specs.declared.trees.Unit as file
use Rattle.flame_spec.specs.declared.trees.Parameter.{Parameter}
use Rattle.flame_spec.specs.CheckFaults.{is_run_by, with_parameters_where, with_parameters_faults, context}
use Rattle.flame_spec.specs.CheckFaults.{definition_faults, body_faults, bodies_faults, check_faults, twice_faults}
use Rattle.flame_spec.specs.Definitions.{Definition, definitions, is_idle, is_for, is_transition, has_none}
use Rattle.flame_spec.specs.Definitions.{is_helper, helpers, body_in, body_of}
use Rattle.flame_spec.specs.Functions.{Place, functions}
use Rattle.flame_spec.specs.HelperFaults.{helper_context}
use Rattle.flame_spec.specs.Scopes.{at_entry, after_parameters}
use Rattle.flame_spec.specs.StatementFaults.{parameters_faults, statements_faults}
use Rattle.flame_spec.specs.Trees.{no_more}
use Rattle.flame_meaning.specs.AcceptedMeaning.{place_in}

-- ---- lists

found_at :
    {X : Type 0} (p : X → Bool) (xs : List X) (x : X)
    → find p xs ≡ Some x
    → (k : ℕ) × (slice_get xs k ≡ Some x) × (p x ≡ true)
found_at p [] x e = cc
found_at {X} p (y ∷ xs) x e = by_head (p y) refl e (found_at p xs x)
  where
    by_head :
        (b : Bool)
        → p y ≡ b
        → cond b (Some y) (find p xs) ≡ Some x
        → (find p xs ≡ Some x → (k : ℕ) × (slice_get xs k ≡ Some x) × (p x ≡ true))
        → (k : ℕ) × (slice_get (y ∷ xs) k ≡ Some x) × (p x ≡ true)
    by_head true h f later = let same : y ≡ x = cc in (0, f, sym (ap p same) ∙ h)
    by_head false h f later = let (k, at, passes) = later f in (suc k, at, passes)

filtered_at :
    {X : Type 0} (p : X → Bool) (xs : List X) (h : ℕ) (x : X)
    → slice_get (filter p xs) h ≡ Some x
    → (k : ℕ) × (slice_get xs k ≡ Some x) × (p x ≡ true)
filtered_at p [] h x e = cc
filtered_at {X} p (y ∷ xs) h x e = by_head (p y) refl h e (λ n f. filtered_at p xs n x f)
  where
    by_head :
        (b : Bool)
        → p y ≡ b
        → (n : ℕ)
        → slice_get (cond b (y ∷ filter p xs) (filter p xs)) n ≡ Some x
        → ((m : ℕ) → slice_get (filter p xs) m ≡ Some x → (k : ℕ) × (slice_get xs k ≡ Some x) × (p x ≡ true))
        → (k : ℕ) × (slice_get (y ∷ xs) k ≡ Some x) × (p x ≡ true)
    by_head true e zero f later = let same : y ≡ x = cc in (0, f, sym (ap p same) ∙ e)
    by_head true e (suc n) f later = let (k, at, passes) = later n f in (suc k, at, passes)
    by_head false e n f later = let (k, at, passes) = later n f in (suc k, at, passes)

-- ---- bodies

pub with_parameters_where-none : (b : Bool) (d : Definition) → with_parameters_where b d ≡ [] → b ≡ false
with_parameters_where-none true d e = cc
with_parameters_where-none false d e = refl

pub parameters-none : (parameters : List Parameter) (b : Bool) → b ≡ true → (not (has_none parameters) && b) ≡ false → parameters ≡ []
parameters-none [] b e f = refl
parameters-none (parameter ∷ more) b e f = absurd (true≢false (sym e ∙ f))

module _ (model : Model) (units : List file.Unit) (none : check_faults model units ≡ []) where
  bodies_none : flat_map (bodies_faults model (helpers model units)) (definitions units) ≡ []
  bodies_none = append-is_nil_right _ _ none

  parameters_none : flat_map (with_parameters_faults model) (definitions units) ≡ []
  parameters_none =
      append-is_nil_right (twice_faults [] (definitions units)) _
      (append-is_nil_left _ _ (append-is_nil_left _ _ (append-is_nil_left _ _ (append-is_nil_left _ _ none))))

  -- a C function that is for a function of the model, which is not `idle`
  run_none :
      (place : Place) (n k : ℕ) (d : Definition)
      → slice_get (functions model) n ≡ Some place
      → is_idle place.function ≡ false
      → slice_get (definitions units) k ≡ Some d
      → is_for place.function d ≡ true
      → statements_faults (context model (helpers model units) d place) at_entry d.body ≡ []
  run_none place n k d listed busy at for_it =
      let runs : is_run_by d place ≡ true = and_from (not (is_idle place.function)) (is_for place.function d) (ap not busy) for_it in
      let transition : is_transition model d ≡ true = list_any-at (λ p. is_for p.function d) (functions model) n place listed for_it in
      let whole : bodies_faults model (helpers model units) d ≡ []
      = flat_map-none_at (bodies_faults model (helpers model units)) (definitions units) k d bodies_none at in
      let all : flat_map (body_faults model (helpers model units) d) (functions model) ≡ []
      = sym (ap (λ b. cond b (definition_faults (helper_context model (helpers model units) d) d) (flat_map (body_faults model (helpers model units) d) (functions model)))
      (no_helper (not (has_none d.parameters)) (is_transition model d) transition)) ∙ whole in
      let mine : body_faults model (helpers model units) d place ≡ []
      = flat_map-none_at (body_faults model (helpers model units) d) (functions model) n place all listed in
      let checked : definition_faults (context model (helpers model units) d place) d ≡ []
      = sym (ap (λ b. cond b (definition_faults (context model (helpers model units) d place) d) []) runs) ∙ mine in
      let bare : d.parameters ≡ []
      = parameters-none d.parameters (list_any (is_run_by d) (functions model))
      (list_any-at (is_run_by d) (functions model) n place listed runs)
      (with_parameters_where-none _ d (flat_map-none_at (with_parameters_faults model) (definitions units) k d parameters_none at)) in
      ap (λ ps. statements_faults (context model (helpers model units) d place) (after_parameters at_entry ps) d.body) (sym bare)
      ∙ append-is_nil_right (parameters_faults (context model (helpers model units) d place) at_entry d.parameters) _ checked
    where
      no_helper : (b c : Bool) → c ≡ true → (b && not c) ≡ false
      no_helper true c e = ap not e
      no_helper false c e = refl

  pub function_checked :
      (place : Place) (n : ℕ)
      → slice_get (functions model) n ≡ Some place
      → (number : ℕ) × (statements_faults (place_in model units place number) at_entry (body_of units place.function) ≡ [])
  function_checked place n listed = by_idle (is_idle place.function) refl
    where
      by_found :
          (o : Option Definition)
          → find (is_for place.function) (definitions units) ≡ o
          → is_idle place.function ≡ false
          → (number : ℕ) × (statements_faults (place_in model units place number) at_entry (body_in o) ≡ [])
      by_found None e busy = (0, refl)
      by_found (Some d) e busy =
          let (k, at, for_it) = found_at (is_for place.function) (definitions units) d e in
          (d.file, run_none place n k d listed busy at for_it)

      by_idle :
          (b : Bool)
          → is_idle place.function ≡ b
          → (number : ℕ)
          × (statements_faults (place_in model units place number) at_entry
          (cond b no_more (body_in (find (is_for place.function) (definitions units)))) ≡ [])
      by_idle true e = (0, refl)
      by_idle false e = by_found (find (is_for place.function) (definitions units)) refl e

  pub helper_checked :
      (d : Definition) (h : ℕ)
      → slice_get (helpers model units) h ≡ Some d
      → (parameters_faults (helper_context model (helpers model units) d) at_entry d.parameters ≡ [])
      × (statements_faults (helper_context model (helpers model units) d) (after_parameters at_entry d.parameters) d.body ≡ [])
  helper_checked d h listed =
      let (k, at, helps) = filtered_at (is_helper model) (definitions units) h d listed in
      let whole : bodies_faults model (helpers model units) d ≡ []
      = flat_map-none_at (bodies_faults model (helpers model units)) (definitions units) k d bodies_none at in
      let checked : definition_faults (helper_context model (helpers model units) d) d ≡ []
      = sym (ap (λ b. cond b (definition_faults (helper_context model (helpers model units) d) d) (flat_map (body_faults model (helpers model units) d) (functions model))) helps)
      ∙ whole in
      (append-is_nil_left _ _ checked, append-is_nil_right (parameters_faults (helper_context model (helpers model units) d) at_entry d.parameters) _ checked)
