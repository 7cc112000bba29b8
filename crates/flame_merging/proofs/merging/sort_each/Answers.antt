use Rattle.std.proofs.Common.{◌≡◌, List, Vec, subst, sym}
use Rattle.std.specs.Prelude.{ℤ, IfOk, slice_index_or}
use Rattle.std.specs.Global.{Global}
use Rattle.flame_rows.specs.Bags.{ascending}
use Rattle.flame_merging.specs.RowLists.{rows_in}
use Rattle.flame_merging.proofs.merging.sort_each.Goals as goal

pub returns-clause-each : goal.returns-clause-each
returns-clause-each g c = λ place other part less.
    let results = c.in_ok-bags.bags.items in
    let given = (c.in_ok-bags.ensures.each place other less).1 in
    let said : IfOk (slice_index_or results place other) (λ bag. bag ≡ ascending (rows_in given.job.items)) = given.call.met in
    subst
    (λ (own : Vec (Vec (List ℤ) Global) Global).
    IfOk (slice_index_or results place other) (λ bag. bag ≡ ascending (rows_in own.items)))
    (sym (given.job_is part)) said
