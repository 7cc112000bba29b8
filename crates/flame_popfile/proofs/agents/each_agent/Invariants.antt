-- The members so far have no fault, their names are known, and their agents are dealt out.
use Rattle.std.proofs.Common.{◌≡◌, map, take, drop}
use Rattle.serde_json.specs.View.{view}
use Rattle.flame_spec.specs.Lists.{each_from}
use Rattle.flame_spec.specs.Paths.{at_number}
use Rattle.flame_popfile.specs.PopulationFaults.{agent_faults, agents_faults, taken_names}
use Rattle.flame_popfile.specs.DealtAgents.{AreDealt}
use Rattle.flame_rows.specs.RowVectors.{rows_of}
use Rattle.flame_xmml.specs.ValuePlaces.{path_of}
use Rattle.flame_popfile.proofs.agents.each_agent.Given as goal

abbrev pub invariant-loop-number : goal.invariant-loop-number
invariant-loop-number l = record {
  faults :
      agents_faults l.format l.kinds (path_of l.place) (map view l.values)
      ≡ each_from
      (λ number value.
      agent_faults l.format l.kinds (taken_names l.format (take number (map view l.values)))
      (at_number (path_of l.place) number) value)
      l.number
      (map view (drop l.number l.values));
  names : l.earlier ≡ taken_names l.format (take l.number (map view l.values));
  dealt : AreDealt l.format l.kinds (take l.number (map view l.values)) (rows_of l.dealt);
}
