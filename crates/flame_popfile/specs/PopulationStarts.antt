-- The start that a population's value holds: the number of its iteration and its world. It is the value's where the
-- value has no fault.
use Rattle.std.specs.Prelude.{codes}
use Rattle.serde_json.specs.Data.{Data}
use Rattle.flame_spec.specs.declared.models.Model.{Model}
use Rattle.flame_world.specs.declared.worlds.World.{World}
use Rattle.flame_xmml.specs.ValueParts.{part}
use Rattle.flame_popfile.specs.declared.formats.Format.{Format}
use Rattle.flame_popfile.specs.declared.starts.Start.{Start}
use Rattle.flame_popfile.specs.PopulationParts.{members_of}
use Rattle.flame_popfile.specs.PopulationFaults.{format_of, itno_of}
use Rattle.flame_popfile.specs.PopulationAgents.{constants_of, agents_of}

-- the world that the states hold in this version [FLAME User Manual; 2: own]
abbrev pub world_of : Format → Model → Data → World
world_of format model states = record {
  constants = constants_of format model.constants (part (codes "environment") states);
  agents = agents_of format model.agents (members_of (part (codes "agents") states));
}

-- the start that the states hold [FLAME User Manual]
abbrev pub states_start : Model → Data → Start
states_start model states = record { itno = itno_of states; world = world_of (format_of states) model states }

-- the start that a population of the model holds [FLAME User Manual]
abbrev pub start_of : Model → Data → Start
start_of model value = states_start model (part (codes "states") value)
