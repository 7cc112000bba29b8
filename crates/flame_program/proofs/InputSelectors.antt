-- The filter and the key of one input.
use Rattle.std.proofs.Common.{◌≡◌, ℕ, List, Option, Some, None, refl, sym, ap, ◌∙◌, subst}
use Rattle.std.specs.Prelude.{slice_get, option_and_then}
use Rattle.std.proofs.lemmas.Option.{same_Some}
use Rattle.flame_rows.proofs.Lists.{AllZip-at}
use Rattle.flame_spec.specs.declared.models.Model.{Model}
use Rattle.flame_spec.specs.Functions.{Place, functions}
use Rattle.flame_cond.specs.Said.{IsFilterOf, IsKeyOf}
use Rattle.flame_program.specs.declared.reading.Selector.{Selector}
use Rattle.flame_program.specs.SourceInputs.{IsReadFrom, IsSelectorOf, AreSelectorsOf, AreSelectors, Reads, IsNoInput, FiltersInput, SortsInput}
use Rattle.flame_program.proofs.Zips.{zip-there, zip-back}

-- what was read for an input, where there is one
record SelectorAt (model : Model) (function input : ℕ) (found : Option Selector) (r : Reads model function input) : Type 0 where
  selector : Selector
  is : found ≡ Some selector
  filter : IsFilterOf selector.filter r.form.filter r.place.type r.found.1
  sort : IsKeyOf selector.sort r.form.sort r.found.1

selector-there :
    (model : Model) (selectors : List (List Selector)) (function input : ℕ) (found : Option Selector)
    → AreSelectors model selectors
    → found ≡ option_and_then (λ inputs. slice_get inputs input) (slice_get selectors function)
    → (r : Reads model function input) → SelectorAt model function input found r
selector-there model selectors function input found all is r =
    let own = zip-there (AreSelectorsOf model) (functions model) selectors function r.place all r.there in
    let of_function = AllZip-at (AreSelectorsOf model) (functions model) selectors function r.place own.0 all r.there own.1 in
    let one =
    zip-there (IsSelectorOf model r.place.type) r.place.function.inputs own.0 input r.form of_function r.listed in
    let of_input =
    AllZip-at (IsSelectorOf model r.place.type) r.place.function.inputs own.0 input r.form one.0 of_function r.listed one.1 in
    let both = subst (λ o. IsReadFrom o r.place.type r.form one.0) r.message of_input in
    record {
      selector = one.0;
      is = is ∙ ap (option_and_then (λ (inputs : List Selector). slice_get inputs input)) own.1 ∙ one.1;
      filter = both.0;
      sort = both.1;
    }

-- where there is no input nothing was read
nothing-there :
    (model : Model) (selectors : List (List Selector)) (function input : ℕ)
    → AreSelectors model selectors
    → IsNoInput model function input
    → option_and_then (λ inputs. slice_get inputs input) (slice_get selectors function) ≡ None
nothing-there model selectors function input all none = by_own (slice_get selectors function) refl
  where
    by_form :
        (own : List Selector) (place : Place) → slice_get (functions model) function ≡ Some place
        → AreSelectorsOf model place own
        → (found : Option Selector) → slice_get own input ≡ found → slice_get own input ≡ None
    by_form own place there of_function None at = at
    by_form own place there of_function (Some selector) at =
        let listed = zip-back (IsSelectorOf model place.type) place.function.inputs own input selector of_function at in
        let never : None ≡ Some listed.0 =
        sym none ∙ ap (option_and_then (λ (p : Place). slice_get p.function.inputs input)) there ∙ listed.1 in
        absurd (cc)

    by_own :
        (own : Option (List Selector)) → slice_get selectors function ≡ own
        → option_and_then (λ inputs. slice_get inputs input) (slice_get selectors function) ≡ None
    by_own None at = ap (option_and_then (λ (inputs : List Selector). slice_get inputs input)) at
    by_own (Some own) at =
        let there = zip-back (AreSelectorsOf model) (functions model) selectors function own all at in
        let of_function =
        AllZip-at (AreSelectorsOf model) (functions model) selectors function there.0 own all there.1 at in
        ap (option_and_then (λ (inputs : List Selector). slice_get inputs input)) at
        ∙ by_form own there.0 there.1 of_function (slice_get own input) refl

-- it was found, so there is an input
found-input :
    (model : Model) (selectors : List (List Selector)) (function input : ℕ) (selector : Selector)
    → AreSelectors model selectors
    → Some selector ≡ option_and_then (λ inputs. slice_get inputs input) (slice_get selectors function)
    → IsNoInput model function input → ⊥
found-input model selectors function input selector all is none =
    let never : Some selector ≡ None = is ∙ nothing-there model selectors function input all none in
    cc

-- what was found is the filter and the key of the input
pub filter-found :
    (model : Model) (selectors : List (List Selector)) (function input : ℕ) (selector : Selector)
    → AreSelectors model selectors
    → Some selector ≡ option_and_then (λ inputs. slice_get inputs input) (slice_get selectors function)
    → FiltersInput model function input selector.filter
filter-found model selectors function input selector all is = record {
  own = λ r.
      let at = selector-there model selectors function input (Some selector) all is r in
      let same : selector ≡ at.selector = same_Some selector at.selector at.is in
      subst (λ (x : Selector). IsFilterOf x.filter r.form.filter r.place.type r.found.1) (sym same) at.filter;
  none = λ none. absurd (found-input model selectors function input selector all is none);
}

pub sort-found :
    (model : Model) (selectors : List (List Selector)) (function input : ℕ) (selector : Selector)
    → AreSelectors model selectors
    → Some selector ≡ option_and_then (λ inputs. slice_get inputs input) (slice_get selectors function)
    → SortsInput model function input selector.sort
sort-found model selectors function input selector all is = record {
  own = λ r.
      let at = selector-there model selectors function input (Some selector) all is r in
      let same : selector ≡ at.selector = same_Some selector at.selector at.is in
      subst (λ (x : Selector). IsKeyOf x.sort r.form.sort r.found.1) (sym same) at.sort;
  none = λ none. absurd (found-input model selectors function input selector all is none);
}

-- where nothing was found there is no input
no-input :
    (model : Model) (selectors : List (List Selector)) (function input : ℕ)
    → AreSelectors model selectors
    → None ≡ option_and_then (λ inputs. slice_get inputs input) (slice_get selectors function)
    → Reads model function input → ⊥
no-input model selectors function input all is r =
    let at = selector-there model selectors function input None all is r in
    let never : None ≡ Some at.selector = at.is in
    cc

pub no-filter :
    (model : Model) (selectors : List (List Selector)) (function input : ℕ)
    → AreSelectors model selectors
    → None ≡ option_and_then (λ inputs. slice_get inputs input) (slice_get selectors function)
    → FiltersInput model function input None
no-filter model selectors function input all is = record {
  own = λ r. absurd (no-input model selectors function input all is r);
  none = λ none. refl;
}

pub no-sort :
    (model : Model) (selectors : List (List Selector)) (function input : ℕ)
    → AreSelectors model selectors
    → None ≡ option_and_then (λ inputs. slice_get inputs input) (slice_get selectors function)
    → SortsInput model function input None
no-sort model selectors function input all is = record {
  own = λ r. absurd (no-input model selectors function input all is r);
  none = λ none. refl;
}
