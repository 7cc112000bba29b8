use mir.Syntax.{w32}
use mir.Val.{to_z, of_z}
use Rattle.std.proofs.Common.{ℤ, sym, subst}
use Rattle.std.proofs.lemmas.Int.{to_z-of_z}
use Rattle.flame_index.specs.IndexBodies.{LieBetween}
use Rattle.flame_index.proofs.Starting.{table_by}
use Rattle.flame_index.proofs.starts.between.Goals as goal

pub returns-in-Ok : goal.returns-in-Ok
returns-in-Ok c =
    let values = c.args.values.now in
    let counts = c.in-Ok.counts.items in
    let least : ℤ = to_z w32 (of_z w32 c.args.least) in
    let greatest : ℤ = to_z w32 (of_z w32 c.args.greatest) in
    let bounds : LieBetween least greatest values =
    subst (λ n. LieBetween n greatest values) (sym (to_z-of_z w32 c.args.least c.ranges.least))
    (subst (λ n. LieBetween c.args.least n values) (sym (to_z-of_z w32 c.args.greatest c.ranges.greatest)) c.requires.bounds) in
    table_by least greatest counts values c.extent.result c.in-Ok.ensures.long c.extent.ensures.wide bounds c.in-Ok.ensures.starts

pub returns-in-Err : goal.returns-in-Err
returns-in-Err c = c.none.ensures c.args.values.now
