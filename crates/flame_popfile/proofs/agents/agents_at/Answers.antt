-- What stands at the key has the key's place.
use Rattle.std.proofs.Common.{codes, sym, ap}
use Rattle.serde_json.specs.View.{view}
use Rattle.flame_spec.proofs.FaultLists.{Reads-same}
use Rattle.flame_popfile.specs.PopulationParts.{list_faults, members_of}
use Rattle.flame_popfile.specs.PopulationFaults.{agents_faults}
use Rattle.flame_xmml.specs.ValuePlaces.{path_of}
use Rattle.flame_popfile.specs.PopulationAgents.{agents_of}
use Rattle.flame_popfile.proofs.PlacePaths.{optional_inside, optional_missing}
use Rattle.flame_popfile.proofs.agents.agents_at.Goals as goal

pub returns-in-Some : goal.returns-in-Some
returns-in-Some c =
    Reads-same c.agents_in_list.result
    (optional_inside (list_faults (agents_faults c.args.format c.args.kinds.now)) c.args.place _ _
    (view c.args.states.now) c.in-Some.ensures.value c.in-Some.ensures.there)
    (ap (λ value. agents_of c.args.format c.args.kinds.now (members_of value)) (sym c.in-Some.ensures.value))
    c.agents_in_list.ensures

pub returns-in-None : goal.returns-in-None
returns-in-None c =
    Reads-same c.each_agent.result
    (optional_missing (list_faults (agents_faults c.args.format c.args.kinds.now)) (codes "agents")
    (path_of c.args.place.now) (view c.args.states.now)
    c.in-None.ensures.value)
    (ap (λ value. agents_of c.args.format c.args.kinds.now (members_of value)) (sym c.in-None.ensures.value))
    c.each_agent.ensures
