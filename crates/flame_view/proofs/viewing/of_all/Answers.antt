use Rattle.std.proofs.Common.{◌≡◌, sym, ap, ◌∙◌, subst}
use Rattle.std.specs.Option.{option_copied}
use Rattle.flame_rows.specs.Order.{row_order}
use Rattle.flame_rows.specs.Sorted.{IsAscending}
use Rattle.flame_index.specs.FrozenBoards.{messages_on}
use Rattle.flame_view.specs.Compiled.{picked_by, view_by}
use Rattle.flame_view.specs.ViewWays.{in_order_of}
use Rattle.flame_view.proofs.Narrowed.{IfOk-same, in_order_of-picked_by, picked_by-sorted_by}
use Rattle.flame_view.proofs.viewing.of_all.Goals as goal
use Rattle.flame_view.proofs.viewing.of_all.Goals.{in-Some+in_default-ordered_rows, in_default}

pub returns-in-Some-ordered_rows : goal.returns-in-Some-ordered_rows
returns-in-Some-ordered_rows c =
    let test = option_copied c.args.filter in
    let memory = c.args.memory.now in
    let rows = messages_on c.args.board.now in
    IfOk-same c.narrowed.result _ _
    (ap (picked_by test memory) c.in-Some-ordered_rows.ensures
    ∙ picked_by-sorted_by test c.in-Some.by memory rows
    ∙ ap (λ sort. view_by test sort memory rows) (sym c.in-Some.is))
    c.narrowed.ensures

pub returns : goal.returns
returns c =
    let test = option_copied c.args.filter in
    let memory = c.args.memory.now in
    let rows = messages_on c.args.board.now in
    let up : IsAscending row_order rows = subst (IsAscending row_order) c.bag.ensures c.rows.ensures.order in
    let same_sort : c.match-sort.sort ≡ c.args.sort =
    elim c.match-sort.branch [ in-Some+in_default-ordered_rows w ↦ w.sort-is ∙ sym w.in-Some.is | in_default w ↦ w.sort-is ] in
    IfOk-same c.narrowed-2.result _ _
    (ap (λ all. in_order_of c.match-sort.sort (picked_by test memory all)) (c.all.ensures ∙ c.rows.ensures.rows ∙ c.bag.ensures)
    ∙ in_order_of-picked_by test c.match-sort.sort memory rows up
    ∙ ap (λ sort. view_by test sort memory rows) same_sort)
    c.narrowed-2.ensures
