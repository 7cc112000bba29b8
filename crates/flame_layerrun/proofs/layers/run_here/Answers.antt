use Rattle.std.proofs.Common.{refl}
use Rattle.std.proofs.lemmas.List.Elements.{All-contains_itself}
use Rattle.flame_layerrun.proofs.layers.run_here.Goals as goal

pub returns-clause-lefts : goal.returns-clause-lefts
returns-clause-lefts g c read reads = record {
  dealt = c.args.tasks.items;
  lefts_are = c.in_ok-lefts.ensures.lefts read reads;
  from = All-contains_itself c.args.tasks.items;
  agents = λ place weight. refl;
}
