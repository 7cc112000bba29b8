-- The bodies of a source without check faults: they fit, their locals are numbered rightly, and calls of helpers fall.
use Rattle.std.proofs.Common.{◌≡◌, ℕ, ◌<◌, ◌≤◌, ◌++◌, List, [], map, length, Option, Some, None, true, refl, sym, ap, ◌∙◌, subst, arith}
use Rattle.std.specs.Prelude.{slice_get, slice_index, option_map, nat_lt}
use Rattle.std.specs.List.{list_all, range_with_len}
use Rattle.std.proofs.lemmas.Bool.{lt-ltb}
use Rattle.std.proofs.lemmas.List.{length-map}
use Rattle.std.proofs.lemmas.List.FromFn.{get_or-map-range_with_len}
use Rattle.std.proofs.lemmas.Option.{slice_get-map, slice_get_within, same_Some}
use Rattle.flame_spec.specs.declared.models.Model.{Model}
use Rattle.flame_spec.specs.declared.trees.Unit as file
use Rattle.flame_spec.specs.CheckFaults.{check_faults, definition_faults}
use Rattle.flame_spec.specs.Definitions.{Definition, helpers, body_of}
use Rattle.flame_spec.specs.Functions.{Place, functions}
use Rattle.flame_spec.specs.HelperFaults.{helper_context, caller_calls, call_height}
use Rattle.flame_spec.specs.Scopes.{at_entry, after_parameters}
use Rattle.flame_spec.specs.StatementFaults.{statements_faults}
use Rattle.flame_body.specs.BodyCalls.{tree_calls_pass}
use Rattle.flame_body.specs.BodyFits.{tree_fits}
use Rattle.flame_body.specs.FitLaws.{numbered_definition, CalledPass}
use Rattle.flame_body.specs.FunctionBodies.{NumberedBody, widths_in, function_body, helper_body, helper_bodies}
use Rattle.flame_body.proofs.Columned.{mapped-at}
use Rattle.flame_body.proofs.CountedCalls.{definition-pass, definition-counted}
use Rattle.flame_body.proofs.FittedStatements.{definition-fits}
use Rattle.flame_body.proofs.NumberedBodies.{bodies-by-number}
use Rattle.flame_code.specs.HelperCodes.{HelperCodes, AreHelpers, calls_below, calls_fit, IsHeight, sees_nothing}
use Rattle.flame_code.specs.Routines.{Routine}
use Rattle.flame_compile.specs.Emit.{emitted}
use Rattle.flame_compile.proofs.CallsKept.{emitted_calls}
use Rattle.flame_code_laws.specs.LocalNumbers.{tree_numbered}
use Rattle.flame_code_laws.specs.CodeOutcomes.{code_of, AreHelperBodies}
use Rattle.flame_code_laws.proofs.NumberedTrees.{definitions-numbered}
use Rattle.flame_spec_laws.proofs.CallRounds.{low, rises}
use Rattle.flame_meaning.specs.AcceptedMeaning.{place_in}
use Rattle.flame_meaning.proofs.Checked.{function_checked, helper_checked}

-- a list that is mapped has an item where the list has one
pub record Mapped {X Y : Type 0} (f : X → Y) (xs : List X) (n : ℕ) (y : Y) : Type 0 where
  pub from : X
  pub there : slice_get xs n ≡ Some from
  pub is : y ≡ f from

-- an item that was mapped, where it was found
pub was-mapped :
    {X Y : Type 0} (f : X → Y) (found : Option X) (xs : List X) (n : ℕ) (y : Y)
    → slice_get xs n ≡ found
    → option_map f found ≡ Some y
    → Mapped f xs n y
was-mapped f None xs n y at is = absurd (cc)
was-mapped f (Some x) xs n y at is = record { from = x; there = at; is = sym (same_Some (f x) y is) }

-- the item of a mapped list
pub mapped : {X Y : Type 0} (f : X → Y) (xs : List X) (n : ℕ) (y : Y) → slice_get (map f xs) n ≡ Some y → Mapped f xs n y
mapped f xs n y at = was-mapped f (slice_get xs n) xs n y refl (sym (slice_get-map f xs n) ∙ at)

module _ (model : Model) (units : List file.Unit) (none : check_faults model units ≡ []) where
  -- ---- helpers

  -- the helpers in source order
  abbrev hs : List Definition
  hs = helpers model units

  -- a body of a helper is that of the helper of its number
  pub record HelperAt (h : ℕ) (body : NumberedBody) : Type 0 where
    pub d : Definition
    pub there : slice_get hs h ≡ Some d
    pub is : body ≡ helper_body model units h d

  pub helper-at : (h : ℕ) (body : NumberedBody) → slice_get (helper_bodies model units) h ≡ Some body → HelperAt h body
  helper-at h body at = by_found (slice_get hs h) refl (sym (bodies-by-number.helper_at model units h) ∙ at)
    where
      by_found :
          (found : Option Definition) → slice_get hs h ≡ found
          → option_map (helper_body model units h) found ≡ Some body → HelperAt h body
      by_found None there is = absurd (cc)
      by_found (Some d) there is = record {
        d = d;
        there = there;
        is = sym (same_Some (helper_body model units h d) body is);
      }

  -- it has no faults
  clean-helper : (h : ℕ) (d : Definition) → slice_get hs h ≡ Some d → definition_faults (helper_context model hs d) d ≡ []
  clean-helper h d there =
      let checked = helper_checked model units none d h there in
      let behind = statements_faults (helper_context model hs d) (after_parameters at_entry d.parameters) d.body in
      ap (λ l. l ++ behind) checked.0 ∙ checked.1

  -- the heights of the helpers
  abbrev heights : List ℕ
  heights = map (call_height model hs) (range_with_len 0 (length hs))

  height-at : (h : ℕ) → h < length hs → slice_index heights h ≡ call_height model hs h
  height-at h within = get_or-map-range_with_len (call_height model hs) 0 (length hs) h h 0 within (omega arith)

  -- its calls go to smaller heights
  calls-fall :
      (h : ℕ) (d : Definition) → slice_get hs h ≡ Some d
      → tree_calls_pass (λ k n. nat_lt (slice_index heights k) (slice_index heights h)) (numbered_definition (helper_context model hs d) d) ≡ true
  calls-fall h d there =
      definition-pass (λ k n. nat_lt (slice_index heights k) (slice_index heights h)) (helper_context model hs d) d
      (clean-helper h d there) called
    where
      within : h < length hs
      within = slice_get_within hs h d there

      called : CalledPass (λ k n. nat_lt (slice_index heights k) (slice_index heights h)) (helper_context model hs d) d.body
      called k helper at calls =
          let k_within : k < length hs = slice_get_within hs k helper at in
          let falls : call_height model hs k < call_height model hs h =
          rises model units none h k within k_within (ap (caller_calls model hs k) there ∙ calls) in
          lt-ltb (slice_index heights k) (slice_index heights h)
          (omega (arith, falls, height-at k k_within, height-at h within))

  -- the codes of the helpers, which are the codes of their bodies
  abbrev codes : HelperCodes
  codes = record { routines = map code_of (helper_bodies model units); parameters = map (λ d. length d.parameters) hs }

  bounded-helper :
      (h : ℕ) (body : NumberedBody) → HelperAt h body
      → IsHeight (slice_index heights h) × (list_all (calls_below heights (slice_index heights h)) (emitted body.tree) ≡ true)
  bounded-helper h body at = (high, below)
    where
      within : h < length hs
      within = slice_get_within hs h at.d at.there

      high : IsHeight (slice_index heights h)
      high =
          let most : call_height model hs h ≤ 64 = low model units none h within in
          (omega (arith, height-at h within), omega (arith, most, height-at h within))

      below : list_all (calls_below heights (slice_index heights h)) (emitted body.tree) ≡ true
      below =
          ap (λ (b : NumberedBody). list_all (calls_below heights (slice_index heights h)) (emitted b.tree)) at.is
          ∙ emitted_calls (λ k n. nat_lt (slice_index heights k) (slice_index heights h))
          (helper_body model units h at.d).tree (calls-fall h at.d at.there)

  fitting-helper :
      (h : ℕ) (body : NumberedBody) → HelperAt h body → calls_fit codes.parameters (code_of body) ≡ true
  fitting-helper h body at =
      ap (λ (b : NumberedBody). calls_fit codes.parameters (code_of b)) at.is
      ∙ emitted_calls _ (helper_body model units h at.d).tree
      (definition-counted (helper_context model hs at.d) at.d (clean-helper h at.d at.there))

  blind-helper : (h : ℕ) (body : NumberedBody) → HelperAt h body → sees_nothing (code_of body) ≡ true
  blind-helper h body at = ap (λ (b : NumberedBody). sees_nothing (code_of b)) at.is

  -- they are helpers of one another
  helping : AreHelpers codes
  helping = record {
    counts =
        length-map hs (λ d. length d.parameters)
        ∙ sym (bodies-by-number.helper_count model units)
        ∙ sym (length-map (helper_bodies model units) code_of);
    heights = heights;
    bounded = λ h r at.
        let m = mapped code_of (helper_bodies model units) h r at in
        let P : Routine → Type 0 =
        λ r. IsHeight (slice_index heights h) × (list_all (calls_below heights (slice_index heights h)) r.instrs ≡ true) in
        subst P (sym m.is) (bounded-helper h m.from (helper-at h m.from m.there));
    fitting = λ h r at.
        let m = mapped code_of (helper_bodies model units) h r at in
        ap (calls_fit codes.parameters) m.is ∙ fitting-helper h m.from (helper-at h m.from m.there);
    blind = λ h r at.
        let m = mapped code_of (helper_bodies model units) h r at in
        ap sees_nothing m.is ∙ blind-helper h m.from (helper-at h m.from m.there);
  }

  -- they are the codes of the source's helper bodies
  pub helper-bodies : AreHelperBodies codes (helper_bodies model units)
  helper-bodies = record {
    helping = helping;
    codes = refl;
    fitting = λ h body at.
        let found = helper-at h body at in
        ap (λ (b : NumberedBody). tree_fits b.widths b.tree) found.is
        ∙ definition-fits (helper_context model hs found.d) found.d (clean-helper h found.d found.there);
    numbered = λ h body at.
        let found = helper-at h body at in
        ap (λ (b : NumberedBody). tree_numbered (slice_index codes.parameters h) b.tree) found.is
        ∙ ap (λ count. tree_numbered count (helper_body model units h found.d).tree)
        (mapped-at (λ (d : Definition). length d.parameters) hs h found.d found.there)
        ∙ definitions-numbered (helper_context model hs found.d) found.d;
  }

  -- ---- functions

  -- a C function without parameters that has the body of a function of the model
  abbrev bare : ℕ → Place → Definition
  bare number place = record {
    file = number;
    line = 0;
    name = place.function.name;
    parameters = [];
    body = body_of units place.function;
  }

  pub record FunctionIs (n : ℕ) (place : Place) : Type 0 where
    pub file : ℕ
    pub clean : definition_faults (place_in model units place file) (bare file place) ≡ []

  pub function-is : (n : ℕ) (place : Place) → slice_get (functions model) n ≡ Some place → FunctionIs n place
  function-is n place there =
      let checked = function_checked model units none place n there in
      record { file = checked.0; clean = checked.1 }

  pub function-fits :
      (n : ℕ) (place : Place) → FunctionIs n place
      → tree_fits (widths_in model (Some place)) (function_body model units n place).tree ≡ true
  function-fits n place at = definition-fits (place_in model units place at.file) (bare at.file place) at.clean

  pub function-numbered :
      (n : ℕ) (place : Place) → FunctionIs n place → tree_numbered 0 (function_body model units n place).tree ≡ true
  function-numbered n place at = definitions-numbered (place_in model units place at.file) (bare at.file place)

  pub function-calls :
      (n : ℕ) (place : Place) → FunctionIs n place
      → calls_fit codes.parameters (code_of (function_body model units n place)) ≡ true
  function-calls n place at =
      emitted_calls _ (function_body model units n place).tree
      (definition-counted (place_in model units place at.file) (bare at.file place) at.clean)
