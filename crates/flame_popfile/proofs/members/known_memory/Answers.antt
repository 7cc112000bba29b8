use Rattle.std.proofs.Common.{subst}
use Rattle.serde_json.specs.View.{view}
use Rattle.flame_xmml.specs.ValuePlaces.{path_of}
use Rattle.flame_spec.specs.FirstFaults.{Passes}
use Rattle.flame_popfile.proofs.KeyTables.{memory_asked}
use Rattle.flame_popfile.proofs.members.known_memory.Goals as goal

pub returns : goal.returns
returns c =
    let same =
    memory_asked c.args.lengths.now c.args._variables.now c.requires (path_of c.args.place.now) (view c.args.value.now) in
    subst (λ faults. Passes faults c.entries.result) same c.entries.ensures
