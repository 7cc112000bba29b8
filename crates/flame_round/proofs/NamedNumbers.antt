-- The boards that inputs name, by the numbers of their messages.
use Rattle.std.proofs.Common.{◌≡◌, ℕ, zero, suc, ◌<◌, List, [], ◌∷◌, length, map, Option, Some, None, refl, sym, ap, ◌∙◌, arith, subst}
use Rattle.std.specs.Prelude.{ℤ, option_map, slice_get, slice_index_or}
use Rattle.std.specs.List.{All, AllZip}
use Rattle.std.specs.Str.{bytes_eq}
use Rattle.std.proofs.lemmas.Option.{slice_get_within}
use Rattle.flame_spec.specs.declared.models.Input.{Input}
use Rattle.flame_spec.specs.declared.models.MessageType.{MessageType}
use Rattle.flame_spec.specs.declared.models.Model.{Model}
use Rattle.flame_spec.specs.Columns.{width}
use Rattle.flame_meaning.specs.Outcomes.{message_named}
use Rattle.flame_body.proofs.Columned.{numbered-at}
use Rattle.flame_world.specs.InputBoards.{board_of}
use Rattle.flame_world.specs.WorldFits.{AreWide, FitMessages}
use Rattle.flame_world.proofs.Eachs.{zip_at}

-- the number of the message that an input reads
abbrev pub numbered_input : Model → Input → Option ℕ
numbered_input model input = option_map (λ found. found.0) (message_named model.messages input.message)

found-there : (messages : List MessageType) (name : List ℕ) (found : ℕ × MessageType)
    → message_named messages name ≡ Some found → slice_get messages found.0 ≡ Some found.1
found-there messages name found is =
    let at = numbered-at (λ message. bytes_eq message.name name) 0 messages found.0 found.1 is in
    ap (slice_get messages) (at.number ∙ omega arith) ∙ at.there

module _ (model : Model) (boards : List (List (List ℤ))) where
  board-at : (found : Option (ℕ × MessageType)) (number : ℕ) → option_map (λ f. f.0) found ≡ Some number
      → slice_index_or boards number [] ≡ board_of found boards
  board-at None number is = absurd cc
  board-at (Some found) number is = let same : number ≡ found.0 = cc in ap (λ n. slice_index_or boards n []) same

  pub named-numbers : (inputs : List Input) (numbers : List ℕ)
      → map (numbered_input model) inputs ≡ map Some numbers
      → map (λ number. slice_index_or boards number []) numbers
      ≡ map (λ input. board_of (message_named model.messages input.message) boards) inputs
  named-numbers [] [] is = refl
  named-numbers [] (number ∷ numbers) is = absurd cc
  named-numbers (input ∷ inputs) [] is = absurd cc
  named-numbers (input ∷ inputs) (number ∷ numbers) is =
      let here : numbered_input model input ≡ Some number = cc in
      let rest : map (numbered_input model) inputs ≡ map Some numbers = cc in
      λ i. board-at (message_named model.messages input.message) number here i ∷ named-numbers inputs numbers rest i

  -- a board that is read is as wide as its message declares
  board-wide : (found : Option (ℕ × MessageType)) (number wide : ℕ) (name : List ℕ)
      → FitMessages model boards
      → message_named model.messages name ≡ found
      → option_map (λ f. f.0) found ≡ Some number
      → ((f : ℕ × MessageType) → found ≡ Some f → wide ≡ width f.1.variables)
      → AreWide wide (board_of found boards)
  board-wide None number wide name fit named is wides = absurd cc
  board-wide (Some found) number wide name fit named is wides =
      subst (λ n. AreWide n (slice_index_or boards found.0 [])) (sym (wides found refl))
      (zip_at (λ (message : MessageType) rows. AreWide (width message.variables) rows) model.messages boards found.0 found.1 [] fit
      (found-there model.messages name found named))

  pub named-wide : (wide : Input → ℕ) (inputs : List Input) (numbers : List ℕ)
      → FitMessages model boards
      → map (numbered_input model) inputs ≡ map Some numbers
      → ((input : Input) (f : ℕ × MessageType) → message_named model.messages input.message ≡ Some f → wide input ≡ width f.1.variables)
      → AllZip (λ input rows. AreWide (wide input) rows) inputs
      (map (λ input. board_of (message_named model.messages input.message) boards) inputs)
  named-wide wide [] numbers fit is wides = tt
  named-wide wide (input ∷ inputs) [] fit is wides = absurd cc
  named-wide wide (input ∷ inputs) (number ∷ numbers) fit is wides =
      let here : numbered_input model input ≡ Some number = cc in
      let rest : map (numbered_input model) inputs ≡ map Some numbers = cc in (
        board-wide (message_named model.messages input.message) number (wide input) input.message fit refl here
            (λ f found. wides input f found),
        named-wide wide inputs numbers fit rest wides,
      )

-- the numbers are those of messages
number-within : (model : Model) (found : Option (ℕ × MessageType)) (number : ℕ) (name : List ℕ)
    → message_named model.messages name ≡ found → option_map (λ f. f.0) found ≡ Some number → number < length model.messages
number-within model None number name named is = absurd cc
number-within model (Some found) number name named is =
    let same : found.0 ≡ number = cc in
    slice_get_within model.messages number found.1 (ap (slice_get model.messages) (sym same) ∙ found-there model.messages name found named)

pub numbers-within : (model : Model) (inputs : List Input) (numbers : List ℕ)
    → map (numbered_input model) inputs ≡ map Some numbers
    → All (λ number. number < length model.messages) numbers
numbers-within model inputs [] is = λ k d less. absurd (omega (arith, less))
numbers-within model [] (number ∷ numbers) is = absurd cc
numbers-within model (input ∷ inputs) (number ∷ numbers) is =
    let here : numbered_input model input ≡ Some number = cc in
    let rest : map (numbered_input model) inputs ≡ map Some numbers = cc in
    λ k d less. at k d less (number-within model (message_named model.messages input.message) number input.message refl here) (numbers-within model inputs numbers rest)
  where
    at : (k d : ℕ) → k < suc (length numbers) → number < length model.messages → All (λ n. n < length model.messages) numbers → slice_index_or (number ∷ numbers) k d < length model.messages
    at zero d less here later = here
    at (suc k) d less here later = later k d (omega (arith, less))
