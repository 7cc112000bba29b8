use Rattle.flame_layers.proofs.LayerWidths.{layers_fit, leaving_fits}
use Rattle.flame_layers.proofs.laws.layers_fit.Goals as goal

pub returns-clause-found : goal.returns-clause-found
returns-clause-found c = layers_fit

pub returns-clause-left : goal.returns-clause-left
returns-clause-left c = leaving_fits
