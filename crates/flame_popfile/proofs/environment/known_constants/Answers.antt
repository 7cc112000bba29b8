use Rattle.std.proofs.Common.{subst}
use Rattle.serde_json.specs.View.{view}
use Rattle.flame_xmml.specs.ValuePlaces.{path_of}
use Rattle.flame_spec.specs.FirstFaults.{Passes}
use Rattle.flame_popfile.proofs.KeyTables.{environment_asked}
use Rattle.flame_popfile.proofs.environment.known_constants.Goals as goal

pub returns : goal.returns
returns c =
    let same =
    environment_asked c.in_ok-lengths.lengths c.args.names.now c.in_ok-lengths.ensures (path_of c.args.place.now)
    (view c.args.value.now) in
    subst (λ faults. Passes faults c.entries.result) same c.entries.ensures
