use Rattle.std.proofs.Common.{◌∙◌, ◌+◌, ◌++◌, ap, sym, drop, map}
use Rattle.std.specs.List.{filter}
use Rattle.flame_lookup.specs.WordsFound.{definition_found}
use Rattle.flame_lookup.specs.WordTables.{helps_beside}
use Rattle.flame_lookup.proofs.Kept.{kept_more}
use Rattle.flame_lookup.proofs.functions.helpers_among.Goals as goal

pub loop-function-preserved : goal.loop-function-preserved
loop-function-preserved c =
    let keeps = helps_beside c.args.functions.now in
    let i = c.loop-function.function-index in
    ap (λ done. done ++ filter keeps (map definition_found (drop (i + 1) c.args.all.now))) c.in_ok-add_helper.ensures
    ∙ sym
    (kept_more definition_found keeps (map definition_found c.loop-function.found.items) c.args.all.now i
    c.function-item.result c.loop-function-test.true c.function-item.is)
    ∙ c.loop-function.invariant
