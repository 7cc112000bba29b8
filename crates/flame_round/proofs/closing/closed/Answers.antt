use Rattle.std.proofs.Common.{◌∙◌, [], List, Vec, ap, map}
use Rattle.std.specs.Global.{Global}
use Rattle.std.specs.Prelude.{ℤ}
use Rattle.std.specs.List.{flat_map, zip}
use Rattle.flame_rows.specs.Bags.{merge}
use Rattle.flame_world.specs.AgentRuns.{births_of}
use Rattle.flame_world.specs.Fields.{joined}
use Rattle.flame_field.specs.declared.pools.Pool.{Pool}
use Rattle.flame_field.specs.KeptPools.{pools_of}
use Rattle.flame_round.proofs.closing.closed.Goals as goal

pub returns-clause-world : goal.returns-clause-world
returns-clause-world c =
    let field = c.args.field in
    let none : List (List ℤ) = [] in
    let born = c.in_ok-born.ensures
    ∙ ap (λ (types : List (Vec Pool Global)). joined (births_of field.born.items) (map (λ pools. none) types)) c.as_slice.ensures.value in
    c.of.ensures ∙ c.in_ok-agents_of.ensures
    ∙ ap (λ b. map (λ ((ps, more) : List (List (List ℤ)) × List (List ℤ)). merge (flat_map (λ pool. pool) ps) more) (zip (pools_of field.pools) b)) born

pub returns-clause-boards : goal.returns-clause-boards
returns-clause-boards c = c.of-2.ensures ∙ c.in_ok-bags_of_boards.ensures
