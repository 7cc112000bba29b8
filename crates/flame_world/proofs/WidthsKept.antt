-- What fits a model stays so.
use Rattle.std.proofs.Common.{◌≡◌, ℕ, List, Option, Some, None, refl, ◌∙◌, subst}
use Rattle.std.specs.Prelude.{ℤ, length, slice_get, IsSomeAnd}
use Rattle.std.proofs.lemmas.Slice.Zip.{AllZip-long}
use Rattle.flame_spec.specs.declared.models.Model.{Model}
use Rattle.flame_spec.specs.declared.models.AgentType.{AgentType}
use Rattle.flame_spec.specs.declared.models.MessageType.{MessageType}
use Rattle.flame_spec.specs.declared.outcomes.Effect.{Effect}
use Rattle.flame_spec.specs.declared.outcomes.Outcome.{Outcome}
use Rattle.flame_spec.specs.declared.outcomes.Outcome.TheVariants.{Ended, Faulted}
use Rattle.flame_spec.specs.Columns.{width}
use Rattle.flame_meaning.specs.Outcomes.{readings_of}
use Rattle.flame_meaning.specs.OutcomeLaws.{IsMessage, IsAgent, HasWidths}
use Rattle.flame_meaning.specs.RangeLaws.{IfAny}
use Rattle.flame_meaning.proofs.Leavings.{rows_have_widths}
use Rattle.flame_world.specs.declared.worlds.World.{World}
use Rattle.flame_world.specs.declared.worlds.Boards.{Boards}
use Rattle.flame_world.specs.Fields.{Field, HasPools, opening}
use Rattle.flame_world.specs.Iterations.{Round, outcome_in, round_of}
use Rattle.flame_world.specs.WorldFits.{FitMessages, FitsModel, FitsField, FittingWorldsOpen, FittingFieldsStay, FittingWorldsStay}
use Rattle.flame_world.proofs.Eachs.{all_each, each_also}
use Rattle.flame_world.proofs.RowsKept.{HasRows, RowsAreLeft, IsSentOf, IsBornOf, LeavesRows, IfOk, opening_rows, step_rows, gathered_rows, iteration_kept}
use Rattle.flame_world.proofs.Counting.{pools_begin, pools_stay}

abbrev pub IsWide : ℕ → List ℤ → Type 0
IsWide wide row = length row ≡ wide

-- ---- what one agent leaves

some_and : {X : Type 0} (P : X → Type 0) (o : Option X) (x : X) → IsSomeAnd o P → o ≡ Some x → P x
some_and P None x holds at = absurd holds
some_and P (Some y) x holds at = let same : y ≡ x = cc in subst P same holds

kept_wide : (wide : ℕ) (memory : Option (List ℤ)) → ((row : List ℤ) → memory ≡ Some row → length row ≡ wide) → IfAny (IsWide wide) memory
kept_wide wide None long = tt
kept_wide wide (Some row) long = long row refl

pub leaves_wide : (round : Round) (function : ℕ) (field : Field) (memory : List ℤ) (wide : ℕ)
    → IsWide wide memory
    → LeavesRows IsWide round.source.model wide (outcome_in round function field memory)
leaves_wide round function field memory wide long =
    go (outcome_in round function field memory)
    (λ effect at.
    rows_have_widths round.source function memory (readings_of round.source function memory field.boards) round.constants
    round.iteration round.fuel effect at)
  where
    go : (o : Outcome) → ((effect : Effect) → o ≡ Ended effect → HasWidths round.source.model memory effect) → LeavesRows IsWide round.source.model wide o
    go (Ended effect) widths =
        let model = round.source.model in
        let has = widths effect refl in (
          kept_wide wide effect.memory (λ row at. has.kept row at ∙ long),
          each_also (IsMessage model) (IsSentOf IsWide model)
              (λ s is message at. some_and (λ (m : MessageType). length s.row ≡ width m.variables) (slice_get model.messages s.message) message is at)
              effect.sent (all_each (IsMessage model) effect.sent has.sent),
          each_also (IsAgent model) (IsBornOf IsWide model)
              (λ b is type at. some_and (λ (t : AgentType). length b.row ≡ width t.memory) (slice_get model.agents b.agent) type is at)
              effect.born (all_each (IsAgent model) effect.born has.born),
        )
    go (Faulted fault) widths = tt

wide_left : (round : Round) → RowsAreLeft IsWide round
wide_left round = record { left = λ function field memory wide is long. leaves_wide round function field memory wide long }

-- ---- fields

fits_rows : (model : Model) (field : Field) → FitsField model field → HasRows IsWide model field
fits_rows model field fits = record { pools = fits.pools; born = fits.born; boards = fits.boards }

rows_fit : (model : Model) (field : Field) → HasPools model field → HasRows IsWide model field → FitsField model field
rows_fit model field pooled rows = record { states = pooled; pools = rows.pools; born = rows.born; boards = rows.boards }

pub fitting_worlds_open : FittingWorldsOpen
fitting_worlds_open model world fits =
    rows_fit model (opening model world.agents)
    (pools_begin model world.agents (AllZip-long _ model.agents world.agents fits.agents))
    (opening_rows IsWide model world.agents fits.agents)

pub fitting_fields_stay : FittingFieldsStay
fitting_fields_stay round function field after fits stepped =
    let model = round.source.model in
    rows_fit model after
    (pools_stay round function field after fits.states stepped)
    (subst (IfOk (HasRows IsWide model)) stepped
    (step_rows IsWide round function field (wide_left round) (fits_rows model field fits)))

-- ---- worlds

pub fitting_worlds_stay : FittingWorldsStay
fitting_worlds_stay source world after number fuel boards fits done =
    let model = source.model in
    let round = round_of source world number fuel in
    iteration_kept (HasRows IsWide model) (λ (w : World) (b : Boards). FitsModel model w × FitMessages model b.boards)
    source world after number fuel boards
    (opening_rows IsWide model world.agents fits.agents)
    (λ function field rows. step_rows IsWide round function field (wide_left round) rows)
    (λ field rows. (record { constants = fits.constants; agents = gathered_rows IsWide model field rows }, rows.boards))
    done
