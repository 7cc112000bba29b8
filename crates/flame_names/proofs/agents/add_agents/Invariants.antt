use Rattle.std.proofs.Common.{◌≡◌, take, drop, List, ℕ}
use Rattle.flame_spec.specs.Lists.{each_from}
use Rattle.flame_spec.specs.KnownNames.{is_among}
use Rattle.flame_spec.specs.Paths.{at_number}
use Rattle.flame_spec.specs.NameFaults.{type_names, names_of_functions, agent_faults, agents_faults}
use Rattle.flame_names.specs.PlacePaths.{text_of}
use Rattle.flame_names.specs.TableScopes.{declared_of}
use Rattle.flame_names.proofs.agents.add_agents.Given as goal

abbrev pub invariant-loop-i : goal.invariant-loop-i
invariant-loop-i l = record {
  types : l.types ≡ type_names (take l.i l.agents);
  shared : (name : List ℕ) → is_among name l.shared ≡ is_among name (names_of_functions (take l.i l.agents));
  rest :
      agents_faults (declared_of l.tables) (text_of l.place) l.agents
      ≡ each_from
      (λ i type.
      agent_faults
      (declared_of l.tables)
      (type_names (take i l.agents))
      (λ name. is_among name (names_of_functions (take i l.agents)))
      (at_number (text_of l.place) i)
      type)
      l.i
      (drop l.i l.agents);
}
