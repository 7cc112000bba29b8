-- The faults of an output are those of its one key.
use Rattle.std.proofs.Common.{refl, codes}
use Rattle.serde_json.specs.View.{view}
use Rattle.flame_spec.proofs.FaultLists.{Reads-same}
use Rattle.flame_xmml.specs.LeafShapes.{name_faults}
use Rattle.flame_xmml.specs.ValueParts.{required}
use Rattle.flame_xmml.specs.ValuePlaces.{path_of}
use Rattle.flame_xmml.proofs.Firsts.{object_faults-is}
use Rattle.flame_xmml.proofs.member.OutputsMember.read.Goals as goal

pub returns : goal.returns
returns c =
    Reads-same c.name_at.result
    (object_faults-is (required name_faults (codes "messageName")) (path_of c.args.place.now) (view c.args.value.now) c.in_ok-object.ensures.object)
    refl
    c.name_at.ensures
