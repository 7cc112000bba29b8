-- The code of a function takes what an agent has before it, and gives its outcome.
use Rattle.std.proofs.Common.{◌≡◌, ℕ, List, map, Some, sym, ap, ◌∙◌, subst}
use Rattle.std.specs.Prelude.{ℤ}
use Rattle.flame_spec.specs.declared.outcomes.Source.{Source}
use Rattle.flame_spec.specs.declared.outcomes.Widths.{Widths}
use Rattle.flame_body.specs.FunctionBodies.{input_width, widths_in}
use Rattle.flame_code.specs.Feeds.{Fed, not_begun}
use Rattle.flame_code.specs.InputRows.{HaveWidths, rows_of}
use Rattle.flame_code.specs.Meanings.{FitsEntry}
use Rattle.flame_code.specs.Routines.{Routine}
use Rattle.flame_meaning.specs.Outcomes.{place_of, outcome_over}
use Rattle.flame_world.specs.declared.settings.Setting.{Setting}
use Rattle.flame_world.specs.Meaning.{readings_from, outcome_under}
use Rattle.flame_world.specs.Settings.{boards_of}
use Rattle.flame_agent.specs.FunctionFits.{FitsFunction}
use Rattle.flame_agent.proofs.ReadingWidths.{readings-fit, have-widths, rows-not-begun}

module _ (source : Source) (function : ℕ) (setting : Setting) (memory : List ℤ)
    (fits : FitsFunction source.model function setting memory) where
  -- what an agent reads by the inputs
  abbrev readings : List (List (List ℤ))
  readings = readings_from (place_of source function) source.model memory (boards_of setting)

  -- the rows that views of the boards feed
  rows-are : (feeds : List Fed) → feeds ≡ map not_begun readings → rows_of feeds ≡ readings
  rows-are feeds same = ap rows_of same ∙ rows-not-begun readings

  -- the code can begin
  pub entry-fits : (code : Routine) (feeds : List Fed) (iteration : ℤ) (fuel : ℕ)
      → code.widths ≡ widths_in source.model (place_of source function)
      → feeds ≡ map not_begun readings
      → FitsEntry code (record {
        memory = memory;
        feeds = feeds;
        constants = setting.constants.now;
        iteration = iteration;
        fuel = fuel;
      })
  entry-fits code feeds iteration fuel widths same =
      let wide : code.widths ≡ widths_in source.model (Some fits.place) =
      widths ∙ ap (widths_in source.model) fits.there in
      let own = readings-fit source.model fits.place memory (boards_of setting) fits.boards in
      let rows : rows_of feeds ≡ readings_from (Some fits.place) source.model memory (boards_of setting) =
      rows-are feeds same
      ∙ ap (λ place. readings_from place source.model memory (boards_of setting)) fits.there in
      let all = have-widths source.model fits.place.function.inputs _ own in
      record {
        memory = fits.wide ∙ sym (ap (λ (w : Widths). w.memory) wide);
        constants = fits.count ∙ sym (ap (λ (w : Widths). w.constants) wide);
        rows =
            subst (λ (w : Widths). HaveWidths w.inputs (rows_of feeds)) (sym wide)
            (subst (HaveWidths (map (input_width source.model) fits.place.function.inputs)) (sym rows) all);
      }

  -- over the views the outcome is that under the setting
  pub outcome-is : (feeds : List Fed)
      → setting.source.now ≡ source
      → feeds ≡ map not_begun readings
      → outcome_over source function memory (rows_of feeds) setting.constants.now setting.iteration setting.fuel
      ≡ outcome_under setting function memory
  outcome-is feeds one same =
      ap (λ rows. outcome_over source function memory rows setting.constants.now setting.iteration setting.fuel)
      (rows-are feeds same)
      ∙ ap (λ (s : Source).
      outcome_over s function memory (readings_from (place_of s function) s.model memory (boards_of setting))
      setting.constants.now setting.iteration setting.fuel) (sym one)
