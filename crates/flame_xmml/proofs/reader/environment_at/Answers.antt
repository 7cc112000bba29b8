-- What stands at the key has the key's place.
use Rattle.std.proofs.Common.{sym, ap}
use Rattle.flame_xmml.specs.ShapeFaults.{environment_faults, plain}
use Rattle.flame_xmml.specs.Models.{environment_of}
use Rattle.flame_xmml.proofs.Paths.{optional-inside}
use Rattle.serde_json.specs.View.{view}
use Rattle.flame_spec.proofs.FaultLists.{Reads-same}
use Rattle.flame_xmml.proofs.reader.environment_at.Goals as goal

pub returns-in-Some : goal.returns-in-Some
returns-in-Some c =
    Reads-same c.environment_of.result
    (optional-inside (environment_faults plain.types) c.args.place _ _ (view c.args.value.now)
    c.in-Some.ensures.value c.in-Some.ensures.there)
    (ap environment_of (sym c.in-Some.ensures.value))
    c.environment_of.ensures
