use Rattle.std.proofs.Common.{◌∙◌}
use Rattle.flame_sense.proofs.Searches.{helper_found}
use Rattle.flame_sense.proofs.found.helper_named.Goals as goal

pub returns-clause-found : goal.returns-clause-found
returns-clause-found c =
    c.definition_of.ensures.found ∙ helper_found c.args.model.now c.args.units.now c.args.word.now
