-- Models that are counted have functions that can be numbered.
use Rattle.std.proofs.Common.{◌≡◌, true, Bool}
use Rattle.std.specs.Prelude.{◌&&◌}
use Rattle.std.specs.List.{list_all}
use Rattle.std.proofs.lemmas.Bool.{and_parts}
use Rattle.flame_spec.specs.declared.models.Model.{Model}
use Rattle.flame_spec.specs.Counted.{is_counted, is_counted_agent, is_counted_message, is_numbered}
use Rattle.flame_spec.specs.Functions.{functions}

pub functions_numbered : (model : Model) → is_counted model ≡ true → is_numbered (functions model) ≡ true
functions_numbered model counted =
    let a7 : Bool = is_numbered (functions model) in
    let a6 : Bool = list_all is_counted_agent model.agents && a7 in
    let a5 : Bool = is_numbered model.agents && a6 in
    let a4 : Bool = list_all is_counted_message model.messages && a5 in
    let a3 : Bool = is_numbered model.messages && a4 in
    let a2 : Bool = is_numbered model.units && a3 in
    let a1 : Bool = is_numbered model.files && a2 in
    let constants = (and_parts (is_numbered model.constants) a1 counted).1 in
    let files = (and_parts (is_numbered model.files) a2 constants).1 in
    let units = (and_parts (is_numbered model.units) a3 files).1 in
    let messages = (and_parts (is_numbered model.messages) a4 units).1 in
    let rows = (and_parts (list_all is_counted_message model.messages) a5 messages).1 in
    let agents = (and_parts (is_numbered model.agents) a6 rows).1 in
    (and_parts (list_all is_counted_agent model.agents) a7 agents).1
