-- What layers find and what takers leave fits the model.
use Rattle.std.proofs.Common.{◌≡◌, List, length, Option, Some, None, refl, subst}
use Rattle.std.specs.Prelude.{ℤ, slice_get}
use Rattle.flame_spec.specs.declared.models.AgentType.{AgentType}
use Rattle.flame_spec.specs.Columns.{width}
use Rattle.flame_spec.specs.Functions.{Place, functions}
use Rattle.flame_spec.specs.States.{state_place}
use Rattle.flame_meaning.specs.RangeLaws.{Each}
use Rattle.flame_meaning.proofs.Eachs.{each_filter}
use Rattle.flame_world.specs.Fields.{changed}
use Rattle.flame_world.specs.Iterations.{Round, staying, round_of}
use Rattle.flame_world.specs.WorldFits.{AreWide, FitsField}
use Rattle.flame_world.proofs.Eachs.{zip_changed, each_changed}
use Rattle.flame_world.proofs.RowsKept.{place_type}
use Rattle.flame_events.specs.CoreStates.{opening_core}
use Rattle.flame_events.proofs.CoreWidths.{fitting_cores_open}
use Rattle.flame_events.proofs.Growing.{histories_fit}
use Rattle.flame_events.proofs.Moves.{has_changed}
use Rattle.flame_events.proofs.Weights.{Rows}
use Rattle.flame_layers.specs.LayerFields.{left_at}
use Rattle.flame_layers.specs.LayerLaws.{LayersFit, LeavingFits}

pub layers_fit : LayersFit
layers_fit source world number fuel layer stop field fits come =
    let round : Round = round_of source world number fuel in
    let core = histories_fit round 1 (opening_core source.model world.agents) come.core come.events (fitting_cores_open source.model world fits) come.leads in
    subst (FitsField source.model) come.field_is core.field

pub leaving_fits : LeavingFits
leaving_fits round f field fits = by (slice_get (functions round.source.model) f) refl
  where
    by : (o : Option Place) → slice_get (functions round.source.model) f ≡ o → FitsField round.source.model (left_at o round f field)
    by None at = fits
    by (Some place) at =
        let model = round.source.model in
        let state = state_place place.type place.function.current in
        let stays : Rows → Rows = staying round f place in
        let typed = place_type model f place at in
        record {
          states = has_changed model field.pools place.agent state stays fits.states;
          pools =
              zip_changed (λ (type : AgentType) own. Each (AreWide (width type.memory)) own) model.agents field.pools place.agent (changed state stays) fits.pools
              (λ type own there bags.
              each_changed (AreWide (width type.memory)) state stays
              (λ bag wide. each_filter (λ (row : List ℤ). length row ≡ width type.memory) _ bag wide) own bags);
          born = fits.born;
          boards = fits.boards;
        }
