use Rattle.std.proofs.Common.{◌≡◌, drop}
use Rattle.flame_spec.specs.Scopes.{after_parameters}
use Rattle.flame_spec.specs.StatementFaults.{parameters_faults}
use Rattle.flame_lookup.specs.Sources.{context_at}
use Rattle.flame_numbering.proofs.stored.parameters.Given as goal

abbrev pub invariant-loop-parameter : goal.invariant-loop-parameter
invariant-loop-parameter l = record {
  clean : parameters_faults (context_at l.words) l.fn.spot l.parameters
      ≡ parameters_faults (context_at l.words) l.spot (drop l.parameter-index l.parameters);
  seen : after_parameters l.fn.spot l.parameters ≡ after_parameters l.spot (drop l.parameter-index l.parameters);
}
