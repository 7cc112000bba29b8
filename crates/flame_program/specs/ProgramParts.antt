-- What the type of programs keeps of its parts.
use Rattle.std.specs.Prelude.{◌≡◌, List, Option}
use Rattle.flame_spec.specs.declared.outcomes.Source.{Source}
use Rattle.flame_cond.specs.declared.forms.Test.{Test}
use Rattle.flame_cond.specs.Said.{AreConditionsOf}
use Rattle.flame_code.specs.HelperCodes.{HelperCodes}
use Rattle.flame_code.specs.Routines.{Routine}
use Rattle.flame_route.specs.declared.routes.Routes.{Routes}
use Rattle.flame_route.specs.ModelRoutes.{AreRoutesOf}
use Rattle.flame_program.specs.declared.reading.Selector.{Selector}
use Rattle.flame_program.specs.SourceCodes.{function_codes, helper_codes}
use Rattle.flame_program.specs.SourceInputs.{AreSelectors}

-- the codes, the helpers, the conditions, the filters and keys of inputs, and the routes are those of the source [own]
pub record ArePartsOf
    (source : Source) (codes : List Routine) (helpers : HelperCodes) (conditions : List (Option Test))
    (selectors : List (List Selector)) (routes : Routes) : Type 0 where
  pub coded : codes ≡ function_codes source
  pub helping : helpers ≡ helper_codes source
  pub conditioned : AreConditionsOf conditions source.model
  pub read : AreSelectors source.model selectors
  pub routed : AreRoutesOf source.model routes
