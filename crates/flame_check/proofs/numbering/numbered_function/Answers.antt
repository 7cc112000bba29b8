-- The place of the function tells its type.
use Rattle.std.proofs.Common.{◌∙◌, ap}
use Rattle.std.specs.Prelude.{slice_get}
use Rattle.flame_spec.specs.declared.models.Model.{Model}
use Rattle.flame_lookup.specs.WordsFound.{place_found}
use Rattle.flame_lookup.proofs.Places.{slice_get-type}
use Rattle.flame_check.proofs.numbering.numbered_function.Goals as goal

pub of_function-requires : goal.of_function-requires
of_function-requires c =
    let place = place_found c.args.place.now in
    ap (λ (model : Model). slice_get model.agents place.agent) c.requires.rows
    ∙ slice_get-type c.args.tables.now.model.agents c.args.number place c.requires.place
