-- Which events are legal, by what is counted.
use Rattle.std.proofs.Common.{◌≡◌, ℕ, zero, suc, ◌<◌, ◌≤◌, true, false, List, [], ◌∷◌, length, refl, sym, ap, ◌∙◌, arith}
use Rattle.std.specs.Prelude.{◌&&◌, not, nat_lt, slice_index_or}
use Rattle.std.specs.List.{All, list_all}
use Rattle.std.proofs.lemmas.Bool.{lt-ltb, le-ltb}
use Rattle.std.proofs.lemmas.Option.{slice_get_within}
use Rattle.flame_rows.proofs.Lists.{slice_get-some}
use Rattle.flame_spec.specs.declared.models.Model.{Model}
use Rattle.flame_spec.specs.Before.{before, function_count}
use Rattle.flame_spec.specs.Below.{is_in}
use Rattle.flame_spec.specs.Functions.{functions}
use Rattle.flame_events.specs.CoreStates.{is_shut, is_waiting, status_of, is_frozen}
use Rattle.flame_events.specs.LegalEvents.{are_shut, inputs_at, inputs_of, outputs_of, may_freeze, may_open, predecessors, writers}
use Rattle.flame_events.proofs.Serial.{is_in-later, is_in-self}
use Rattle.flame_events.proofs.Spots.{input_named}
use Rattle.flame_pieces.specs.Waiting.{is_free}
use Rattle.flame_pieces.proofs.Freeing.{free_where_all, free_where_these}
use Rattle.flame_progress.specs.declared.counts.Counts.{Counts}
use Rattle.flame_progress.specs.declared.progress.Progress.{Progress}
use Rattle.flame_progress.specs.KeptCores.{core_of}
use Rattle.flame_progress.specs.Tallying.{Tallies}

-- what holds of each number that stands in a list holds of all of them
pub all_in : (P : ℕ → Type 0) (numbers : List ℕ) → ((k : ℕ) → is_in k numbers ≡ true → P k) → All P numbers
all_in P [] holds = λ k d less. absurd (omega (arith, less))
all_in P (number ∷ numbers) holds =
    at (holds number (is_in-self number numbers)) (all_in P numbers (λ k among. holds k (is_in-later k number numbers among)))
  where
    at : P number → All P numbers → (k d : ℕ) → k < suc (length numbers) → P (slice_index_or (number ∷ numbers) k d)
    at here later zero d less = here
    at here later (suc k) d less = later k d (omega (arith, less))

-- a function's inputs are messages of the model
pub inputs_below : (model : Model) (f : ℕ) → f < function_count model → All (λ m. m < length model.messages) (inputs_of model f)
inputs_below model f less =
    let place = slice_get-some (functions model) f less in
    all_in (λ m. m < length model.messages) (inputs_of model f)
    (λ m among.
    let input = input_named model place.0 m (sym (ap (λ o. is_in m (inputs_at o model)) place.1) ∙ among) in
    slice_get_within model.messages m input.named.message input.named.there)

module _ (model : Model) (progress : Progress) (counts : Counts) (tallies : Tallies model progress counts) where
  pub predecessors_free : (f : ℕ) → is_free counts.functions f ≡ are_shut (core_of progress) (predecessors model f)
  predecessors_free f =
      free_where_all (function_count model) (function_count model) (before model)
      (λ g. is_shut (status_of (core_of progress) g)) counts.functions f tallies.counted.functions

  pub writers_free : (m : ℕ) → is_free counts.outputs m ≡ are_shut (core_of progress) (writers model m)
  writers_free m =
      free_where_all (function_count model) (length model.messages) (λ g k. is_in k (outputs_of model g))
      (λ g. is_shut (status_of (core_of progress) g)) counts.outputs m tallies.counted.outputs

  pub inputs_free : (f : ℕ) → f < function_count model → is_free counts.inputs f ≡ list_all (is_frozen (core_of progress)) (inputs_of model f)
  inputs_free f less =
      free_where_these (length model.messages) (function_count model) (λ m g. is_in m (inputs_of model g))
      (is_frozen (core_of progress)) counts.inputs f (inputs_of model f) tallies.counted.inputs (inputs_below model f less) (λ m within. refl)

  -- a function that is there may be opened where it waits, and for nothing
  pub may_open_is : (f : ℕ) → f < length progress.statuses.items
      → may_open model (core_of progress) f
      ≡ ((is_waiting (status_of (core_of progress) f) && is_free counts.functions f) && is_free counts.inputs f)
  may_open_is f less =
      let core = core_of progress in
      let known : f < function_count model = omega (arith, less, tallies.functions) in
      let here : nat_lt f (function_count model) ≡ true = lt-ltb f (function_count model) known in
      let shut = sym (predecessors_free f) in
      let frozen = sym (inputs_free f known) in
      λ i. ((here i && is_waiting (status_of core f)) && shut i) && frozen i

  -- one that is not there may not
  pub may_not_open : (f : ℕ) → length progress.statuses.items ≤ f → may_open model (core_of progress) f ≡ false
  may_not_open f over =
      let core = core_of progress in
      ap (λ b. ((b && is_waiting (status_of core f)) && are_shut core (predecessors model f)) && list_all (is_frozen core) (inputs_of model f))
      (le-ltb f (function_count model) (omega (arith, over, tallies.functions)))

  pub may_freeze_is : (m : ℕ) → m < length progress.field.boards.items
      → may_freeze model (core_of progress) m ≡ (not (is_frozen (core_of progress) m) && is_free counts.outputs m)
  may_freeze_is m less =
      let core = core_of progress in
      let here : nat_lt m (length model.messages) ≡ true = lt-ltb m (length model.messages) (omega (arith, less, tallies.messages)) in
      let shut = sym (writers_free m) in
      λ i. (here i && not (is_frozen core m)) && shut i

  pub may_not_freeze : (m : ℕ) → length progress.field.boards.items ≤ m → may_freeze model (core_of progress) m ≡ false
  may_not_freeze m over =
      let core = core_of progress in
      ap (λ b. (b && not (is_frozen core m)) && are_shut core (writers model m))
      (le-ltb m (length model.messages) (omega (arith, over, tallies.messages)))
