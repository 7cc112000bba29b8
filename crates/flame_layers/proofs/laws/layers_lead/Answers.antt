use Rattle.flame_layers.proofs.LayerEnds.{iterations_begin, layers_end}
use Rattle.flame_layers.proofs.NextLayers.{layers_lead_on}
use Rattle.flame_layers.proofs.laws.layers_lead.Goals as goal

pub returns-clause-begin : goal.returns-clause-begin
returns-clause-begin c = iterations_begin

pub returns-clause-on : goal.returns-clause-on
returns-clause-on c = layers_lead_on c.names_differ.ensures.messages

pub returns-clause-end : goal.returns-clause-end
returns-clause-end c = layers_end c.names_differ.ensures.messages
