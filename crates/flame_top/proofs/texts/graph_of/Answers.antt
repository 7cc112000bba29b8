-- A counted model has few functions.
use Rattle.std.proofs.Common.{IsTrue, sym, subst}
use Rattle.flame_spec.specs.declared.outcomes.Source.{Source}
use Rattle.flame_spec.specs.Counted.{is_numbered}
use Rattle.flame_spec.specs.Functions.{functions}
use Rattle.flame_spec.proofs.Counts.{has_few}
use Rattle.flame_top.proofs.texts.graph_of.Goals as goal

pub edges-requires : goal.edges-requires
edges-requires c =
    subst (λ (source : Source). IsTrue (is_numbered (functions source.model))) (sym c.source.ensures.same)
    (has_few c.args.program.now.model c.requires).functions
