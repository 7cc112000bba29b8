-- What stands at the key has the key's place.
use Rattle.std.proofs.Common.{sym, ap}
use Rattle.serde_json.specs.View.{view}
use Rattle.flame_spec.proofs.FaultLists.{Reads-same}
use Rattle.flame_popfile.specs.PopulationFaults.{environment_faults}
use Rattle.flame_popfile.specs.PopulationAgents.{constants_of}
use Rattle.flame_popfile.proofs.PlacePaths.{optional_inside}
use Rattle.flame_popfile.proofs.environment.constants_at.Goals as goal

pub returns-in-Some : goal.returns-in-Some
returns-in-Some c =
    Reads-same c.constants_in.result
    (optional_inside (environment_faults c.args.format c.args.names.now) c.args.place _ _ (view c.args.states.now)
    c.in-Some.ensures.value c.in-Some.ensures.there)
    (ap (constants_of c.args.format c.args.names.now) (sym c.in-Some.ensures.value))
    c.constants_in.ensures
