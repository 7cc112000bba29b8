use Rattle.std.proofs.Common.{◌≡◌, List, Vec, map, length, sym, subst, arith}
use Rattle.std.specs.Global.{Global}
use Rattle.std.specs.List.{All}
use Rattle.std.specs.Vec.Iter.{into_iter_items}
use Rattle.std.proofs.lemmas.List.Elements.{All-map}
use Rattle.flame_board.specs.declared.lanes.Lane.{Lane}
use Rattle.flame_lanes.specs.declared.jobs.Done.{Done}
use Rattle.flame_lanes.proofs.Columned.{All-unmapped, ends-here}
use Rattle.flame_lanes.proofs.columns.gathered.Goals as goal

pub columns_of-requires : goal.columns_of-requires
columns_of-requires c =
    let b = c.loop-done in
    let P : List Lane → Type 0 = λ lanes. length lanes ≡ c.args.width in
    let whole : b.yielded ≡ c.args.dones.items =
    ends-here b.yielded (into_iter_items b.done-iterator) c.args.dones.items b.invariant.rest
    (omega (arith, b.done-iterator.rest.ok.0, c.in-None.ensures.steps.0)) in
    let all : All P (map (λ (done : Done). done.lanes) b.yielded) =
    subst (λ (dones : List Done). All P (map (λ (done : Done). done.lanes) dones)) (sym whole)
    (All-map P (λ (done : Done). done.lanes) c.args.dones.items c.requires) in
    All-unmapped P (λ (row : Vec Lane Global). row.items) b.rows.items (subst (All P) (sym b.invariant.rows) all)
