use Rattle.std.proofs.Common.{sym, ap, ◌∙◌}
use Rattle.flame_core.specs.CoreCalls.{allows}
use Rattle.flame_core.specs.SeenCores.{Seen}
use Rattle.flame_core.proofs.cores.Core.allows.Goals as goal

pub allows-requires : goal.allows-requires
allows-requires c =
    let tallies = c.self.invariant.tallies in
    record {
      functions = tallies.counted.functions.many ∙ sym tallies.functions;
      inputs = tallies.counted.inputs.many ∙ sym tallies.functions;
      outputs = tallies.counted.outputs.many ∙ sym tallies.messages;
    }

pub returns : goal.returns
returns c =
    c.allows.ensures c.self.inside.program.now.model c.self.invariant.tallies
    ∙ ap (λ (s : Seen). allows s c.args.event) c.self.view_is
