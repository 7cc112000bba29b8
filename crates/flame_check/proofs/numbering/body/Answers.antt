-- A C function without faults fits.
use Rattle.std.proofs.Common.{◌∙◌, ap}
use Rattle.flame_lookup.specs.Sources.{context_at}
use Rattle.flame_lookup.specs.WordsFound.{definition_found}
use Rattle.flame_body.specs.BodyFits.{tree_fits}
use Rattle.flame_body.specs.FunctionBodies.{widths_in}
use Rattle.flame_check.proofs.numbering.body.Goals as goal

pub of-requires : goal.of-requires
of-requires c =
    let words = c.args.words.now in
    ap (λ widths. tree_fits widths c.in_ok-tree.tree) c.requires
    ∙ ap (tree_fits (widths_in words.sources.model words.runs)) c.in_ok-tree.ensures.stands
    ∙ c.definitions_fit.ensures (context_at words) (definition_found c.args.function.now) c.in_ok-tree.ensures.clean
