use Rattle.std.proofs.Common.{◌∙◌, sym, ap}
use Rattle.std.specs.Prelude.{◌||◌}
use Rattle.std.proofs.lemmas.Result.{IfErr-weaker, on_ok_weaker}
use Rattle.flame_spec.specs.KnownNames.{is_among}
use Rattle.flame_spec.specs.NameFaults.{function_names}
use Rattle.flame_spec.proofs.FaultLists.{FailsFirst-same}
use Rattle.flame_names.specs.PlacePaths.{text_of}
use Rattle.flame_names.specs.TableScopes.{declared_of}
use Rattle.flame_names.proofs.Types.{functions-are}
use Rattle.flame_names.proofs.agents.add_agent.Goals as goal

pub returns-clause-none : goal.returns-clause-none
returns-clause-none c =
    let whole =
    functions-are
    (declared_of c.args.tables.now)
    c.args.types.now
    (λ name. is_among name c.args.shared.now)
    (text_of c.args.place.now)
    c.args.agent.now
    c.as_str.result.now
    c.items.result.now
    c.in_ok-memory.memory
    c.items-2.result.now
    c.as_str.ensures
    c.items.ensures
    c.in_ok-memory.ensures.variables
    c.items-2.ensures
    c.in_ok-add_new.ensures.none
    c.in_ok-memory.ensures.none in
    on_ok_weaker c.walk_functions.result (λ e. sym whole ∙ e) c.walk_functions.ensures.none

pub returns-clause-functions : goal.returns-clause-functions
returns-clause-functions c =
    on_ok_weaker
    c.walk_functions.result
    (λ e name. e name
    ∙ ap (λ members. is_among name c.args.shared.now || is_among name (function_names members)) c.items-2.ensures)
    c.walk_functions.ensures.functions

pub returns-clause-first : goal.returns-clause-first
returns-clause-first c =
    let whole =
    functions-are
    (declared_of c.args.tables.now)
    c.args.types.now
    (λ name. is_among name c.args.shared.now)
    (text_of c.args.place.now)
    c.args.agent.now
    c.as_str.result.now
    c.items.result.now
    c.in_ok-memory.memory
    c.items-2.result.now
    c.as_str.ensures
    c.items.ensures
    c.in_ok-memory.ensures.variables
    c.items-2.ensures
    c.in_ok-add_new.ensures.none
    c.in_ok-memory.ensures.none in
    IfErr-weaker c.walk_functions.result _ _ (λ fail. FailsFirst-same fail _ _ whole) c.walk_functions.ensures.first
