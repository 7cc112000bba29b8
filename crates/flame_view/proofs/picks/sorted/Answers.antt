use Rattle.std.proofs.Common.{Some, rules}
use Rattle.std.specs.Ordering.{is_lt}
use Rattle.std.proofs.lemmas.List.Sorted.{ranks_by}
use Rattle.std.proofs.lemmas.Fn.{always_returns_same}
use Rattle.flame_rows.proofs.Sorting.{sorted_by-map}
use Rattle.flame_spec.specs.Views.{view_order}
use Rattle.flame_spec.proofs.Viewed.{view_total, view_tied}
use Rattle.flame_cond.specs.Said.{key_by}
use Rattle.flame_view.proofs.picks.sorted.Goals as goal

pub returns : goal.returns
returns c =
    let key = Some (key_by c.args.by) in
    let order = view_order key in
    let total = view_total key in
    let ranked =
    c.sort_unstable_by.ensures.sorted (λ a b. is_lt (order a.now b.now)) (ranks_by total (λ row. row.now))
    (always_returns_same _ _ _ (λ a r g h. search rules)) in
    sorted_by-map order total (view_tied key) (λ row. row.now) _ _ c.sort_unstable_by.ensures.permutation ranked
