-- What stands at the key has the key's place.
use Rattle.std.proofs.Common.{sym, ap, codes}
use Rattle.serde_json.specs.View.{view}
use Rattle.flame_spec.proofs.FaultLists.{Reads-same}
use Rattle.flame_xmml.specs.ShapeFaults.{environment_faults, wide}
use Rattle.flame_xmml.specs.Models.{environment_of, list_at}
use Rattle.flame_xmml.specs.WideValues.{type_of}
use Rattle.flame_xmml.proofs.Paths.{optional-inside}
use Rattle.flame_xmml.proofs.wide.environment_at.Goals as goal

pub returns-in-Some : goal.returns-in-Some
returns-in-Some c =
    Reads-same c.environment.result
    (optional-inside (environment_faults wide.types) c.args.place _ _ (view c.args.value.now)
    c.in-Some.ensures.value c.in-Some.ensures.there)
    (ap (λ value. (environment_of value, list_at type_of (codes "dataTypes") value)) (sym c.in-Some.ensures.value))
    c.environment.ensures
