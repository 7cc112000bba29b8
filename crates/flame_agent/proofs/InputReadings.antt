-- The views of boards are what an agent reads, one input after another.
use Rattle.std.proofs.Common.{◌≡◌, ℕ, zero, suc, ◌+◌, ◌≤◌, List, [], ◌∷◌, ◌++◌, map, take, length, Option, Some, sym, ap, ◌∙◌, arith, take_all}
use Rattle.std.specs.Prelude.{ℤ, slice_get, option_map}
use Rattle.std.specs.List.{zip}
use Rattle.std.proofs.lemmas.List.{length-map}
use Rattle.std.proofs.lemmas.Option.{slice_get-map}
use Rattle.flame_spec.specs.declared.models.Input.{Input}
use Rattle.flame_spec.specs.declared.models.Model.{Model}
use Rattle.flame_spec.specs.declared.outcomes.Source.{Source}
use Rattle.flame_spec.specs.Functions.{Place}
use Rattle.flame_cond.specs.declared.forms.Test.{Test}
use Rattle.flame_cond.specs.declared.keys.SortBy.{SortBy}
use Rattle.flame_code.specs.Feeds.{Fed, not_begun}
use Rattle.flame_meaning.specs.Outcomes.{place_of, message_named}
use Rattle.flame_view.specs.Compiled.{view_by, ViewIsAsWritten}
use Rattle.flame_program.specs.AcceptanceLaws.{IsRunnable}
use Rattle.flame_program.specs.SourceInputs.{Reads, FiltersInput, SortsInput}
use Rattle.flame_program.proofs.Zips.{zip-back}
use Rattle.flame_route.proofs.Places.{take-more}
use Rattle.flame_world.specs.Meaning.{view_from, readings_from}
use Rattle.flame_agent.specs.FunctionFits.{IsBoardFor, AreBoardsFor}
use Rattle.flame_agent.specs.InputViews.{IsViewFor}

-- ---- one view

-- under the filter and the key of the input the view is what is read by it
pub view-is :
    (source : Source) (function input : ℕ) (filter : Option Test) (by : Option SortBy) (memory : List ℤ)
    (board : List (List ℤ))
    → IsRunnable source → ViewIsAsWritten
    → FiltersInput source.model function input filter → SortsInput source.model function input by
    → IsViewFor source function input memory board (view_by filter by memory board)
view-is source function input filter by memory board runnable written filters sorts place form there listed =
    let reads = runnable.reads function input place form there listed in
    let r : Reads source.model function input =
    record { place = place; there = there; form = form; listed = listed; found = reads.found; message = reads.named } in
    written place.type reads.found.1 form.filter form.sort filter by memory board (filters.own r) (sorts.own r)
    ∙ sym (ap (λ found. view_from found place.type memory form board) reads.named)

-- ---- one view after another

zipped :
    {A B C : Type 0} (f : A × B → C) (xs : List A) (ys : List B) (k : ℕ) (x : A) (y : B)
    → slice_get xs k ≡ Some x → slice_get ys k ≡ Some y → slice_get (map f (zip xs ys)) k ≡ Some (f (x, y))
zipped f [] ys k x y one two = absurd (cc)
zipped f (a ∷ xs) [] k x y one two = absurd (cc)
zipped f (a ∷ xs) (b ∷ ys) zero x y one two =
    let first : a ≡ x = cc in
    let second : b ≡ y = cc in
    λ i. Some (f (first i, second i))
zipped f (a ∷ xs) (b ∷ ys) (suc k) x y one two = zipped f xs ys k x y one two

zip-short : {A B C : Type 0} (f : A × B → C) (xs : List A) (ys : List B) → length (map f (zip xs ys)) ≤ length ys
zip-short f [] ys = omega arith
zip-short f (x ∷ xs) [] = omega arith
zip-short f (x ∷ xs) (y ∷ ys) = let rest = zip-short f xs ys in omega (arith, rest)

-- what the function of this place reads by its inputs, from these boards
abbrev reading-of : Model → Place → List ℤ → Input × List (List ℤ) → List (List ℤ)
reading-of model place memory =
    λ (input, board). view_from (message_named model.messages input.message) place.type memory input board

module _ (source : Source) (function : ℕ) (memory : List ℤ) (boards : List (List (List ℤ))) (place : Place)
    (there : place_of source function ≡ Some place) where
  -- what the views feed
  abbrev pub feeds : List Fed
  feeds = map not_begun (readings_from (place_of source function) source.model memory boards)

  abbrev feeds-there : List Fed
  feeds-there = map not_begun (readings_from (Some place) source.model memory boards)

  is-there : feeds ≡ feeds-there
  is-there = ap (λ p. map not_begun (readings_from p source.model memory boards)) there

  -- the view of the next board comes next
  pub next-view : (k : ℕ) (board view : List (List ℤ))
      → AreBoardsFor source.model place.function.inputs boards
      → slice_get boards k ≡ Some board
      → IsViewFor source function k memory board view
      → take (k + 1) feeds ≡ take k feeds ++ not_begun view ∷ []
  next-view k board view fit at is =
      let form = zip-back (IsBoardFor source.model) place.function.inputs boards k board fit at in
      let reading = zipped (reading-of source.model place memory) place.function.inputs boards k form.0 board form.1 at in
      let same = is place form.0 there form.1 in
      let fed : slice_get feeds-there k ≡ Some (not_begun view) =
      slice_get-map not_begun (readings_from (Some place) source.model memory boards) k
      ∙ ap (option_map not_begun) (reading ∙ ap Some (sym same)) in
      let suc-is : k + 1 ≡ suc k = omega arith in
      ap (take (k + 1)) is-there
      ∙ ap (λ n. take n feeds-there) suc-is
      ∙ take-more feeds-there k (not_begun view) fed
      ∙ ap (λ all. take k all ++ not_begun view ∷ []) (sym is-there)

  -- behind the last board all views have come
  pub all-views : (k : ℕ) → length boards ≤ k → take k feeds ≡ feeds
  all-views k past =
      let readings = readings_from (Some place) source.model memory boards in
      let short : length readings ≤ length boards =
      zip-short (reading-of source.model place memory) place.function.inputs boards in
      let size : length feeds ≡ length readings = ap length is-there ∙ length-map readings not_begun in
      take_all k feeds (omega (arith, size, short, past))
