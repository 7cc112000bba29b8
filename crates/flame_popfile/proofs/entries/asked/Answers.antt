-- What the table has is what was found.
use Rattle.std.proofs.Common.{subst}
use Rattle.serde_json.specs.View.{view}
use Rattle.flame_popfile.specs.PopulationParts.{known_faults}
use Rattle.flame_xmml.specs.ValuePlaces.{path_of}
use Rattle.flame_spec.specs.FirstFaults.{Passes}
use Rattle.flame_popfile.proofs.KeyTables.{found_lengths}
use Rattle.flame_popfile.proofs.entries.asked.Goals as goal

pub returns : goal.returns
returns c =
    let same = found_lengths c.get.result _ c.get.ensures.value in
    subst (λ o. Passes (known_faults c.args.unknown o (path_of c.args.place.now) (view c.args.value.now)) c.known.result)
    same c.known.ensures
