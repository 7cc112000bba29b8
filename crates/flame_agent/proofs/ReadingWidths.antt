-- What an agent reads is as wide as what lies on the boards.
use Rattle.std.proofs.Common.{◌≡◌, ℕ, List, [], ◌∷◌, map, length, Option, Some, None, refl, sym, ap, ◌∙◌}
use Rattle.std.specs.Prelude.{ℤ, option_map}
use Rattle.std.specs.List.{AllZip, zip, filter}
use Rattle.std.proofs.lemmas.List.{length-map}
use Rattle.std.proofs.lemmas.Option.{slice_get-map}
use Rattle.std.proofs.lemmas.Slice.Zip.{AllZip-long}
use Rattle.flame_rows.proofs.Lists.{AllZip-at}
use Rattle.flame_spec.specs.declared.models.AgentType.{AgentType}
use Rattle.flame_spec.specs.declared.models.Input.{Input}
use Rattle.flame_spec.specs.declared.models.MessageType.{MessageType}
use Rattle.flame_spec.specs.declared.models.Model.{Model}
use Rattle.flame_spec.specs.Functions.{Place}
use Rattle.flame_spec.specs.Views.{is_read, key_of, view_order}
use Rattle.flame_body.specs.FunctionBodies.{input_width}
use Rattle.flame_code.specs.Feeds.{not_begun}
use Rattle.flame_code.specs.InputRows.{HaveWidths, rows_of}
use Rattle.flame_meaning.specs.Outcomes.{message_named}
use Rattle.flame_program.proofs.Zips.{zip-back}
use Rattle.flame_world.specs.Meaning.{view_from, readings_from}
use Rattle.flame_agent.specs.FunctionFits.{IsBoardFor, AreBoardsFor}
use Rattle.flame_meaning.proofs.Eachs.{each_at, each_filter, each_sorted}

-- ---- views of boards

-- a view has rows of the board alone
view-fits :
    (model : Model) (found : Option (ℕ × MessageType)) (type : AgentType) (memory : List ℤ) (input : Input)
    (board : List (List ℤ))
    → IsBoardFor model input board → IsBoardFor model input (view_from found type memory input board)
view-fits model None type memory input board all = tt
view-fits model (Some found) type memory input board all =
    let Wide : List ℤ → Type 0 = λ row. length row ≡ input_width model input in
    let passes = is_read type found.1 input.filter memory in
    each_sorted Wide (view_order (option_map (key_of found.1) input.sort)) (filter passes board)
    (each_filter Wide passes board all)

zip-kept :
    {A B : Type 0} (P : A → B → Type 0) (f : A × B → B) → ((x : A) (y : B) → P x y → P x (f (x, y)))
    → (xs : List A) (ys : List B) → AllZip P xs ys → AllZip P xs (map f (zip xs ys))
zip-kept P f go [] [] all = tt
zip-kept P f go [] (y ∷ ys) all = absurd all
zip-kept P f go (x ∷ xs) [] all = absurd all
zip-kept P f go (x ∷ xs) (y ∷ ys) all = (go x y all.0, zip-kept P f go xs ys all.1)

pub readings-fit :
    (model : Model) (place : Place) (memory : List ℤ) (boards : List (List (List ℤ)))
    → AreBoardsFor model place.function.inputs boards
    → AreBoardsFor model place.function.inputs (readings_from (Some place) model memory boards)
readings-fit model place memory boards fit =
    zip-kept (IsBoardFor model)
    (λ (input, board). view_from (message_named model.messages input.message) place.type memory input board)
    (λ input board. view-fits model (message_named model.messages input.message) place.type memory input board)
    place.function.inputs boards fit

-- ---- widths that a code sees

pub have-widths :
    (model : Model) (inputs : List Input) (lists : List (List (List ℤ)))
    → AreBoardsFor model inputs lists → HaveWidths (map (input_width model) inputs) lists
have-widths model inputs lists fit = record {
  count = AllZip-long (IsBoardFor model) inputs lists fit ∙ sym (length-map inputs (input_width model));
  wide = λ input place rows row listed at.
      let form = zip-back (IsBoardFor model) inputs lists input rows fit listed in
      let own = AllZip-at (IsBoardFor model) inputs lists input form.0 rows fit form.1 listed in
      let wide = each_at (λ row. length row ≡ input_width model form.0) rows place row own at in
      slice_get-map (input_width model) inputs input ∙ ap (option_map (input_width model)) form.1 ∙ ap Some (sym wide);
}

pub rows-not-begun : (lists : List (List (List ℤ))) → rows_of (map not_begun lists) ≡ lists
rows-not-begun [] = refl
rows-not-begun (rows ∷ lists) = ap (λ rest. rows ∷ rest) (rows-not-begun lists)
