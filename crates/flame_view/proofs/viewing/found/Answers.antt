use Rattle.std.proofs.Common.{sym, ap, ◌∙◌, rules, SFits, w32}
use Rattle.std.specs.List.{filter}
use Rattle.std.proofs.lemmas.Int.{to_z-of_z}
use Rattle.std.proofs.lemmas.Option.{IfSome_then}
use Rattle.flame_cond.specs.Equalities.{has_value}
use Rattle.flame_index.specs.FrozenBoards.{messages_on}
use Rattle.flame_view.proofs.Narrowed.{picked_by-found, found-picked_by}
use Rattle.flame_view.proofs.viewing.found.Goals as goal

pub returns-clause-among : goal.returns-clause-among
returns-clause-among c =
    let rows = messages_on c.args.board.now in
    let equality = c.in_ok-equality.equality in
    let fits : SFits w32 c.value.result = search rules in
    let value = to_z-of_z w32 c.value.result fits ∙ c.value.ensures in
    IfSome_then c.equal_rows.result c.equal_rows.ensures (λ found is.
    picked_by-found c.args.filter.now equality (sym c.in_ok-equality.ensures) c.args.memory.now c.passing_is_equal.ensures found rows
    (is ∙ ap (λ v. filter (has_value equality.column v) rows) value))

pub returns-clause-all : goal.returns-clause-all
returns-clause-all c = λ one.
    let rows = messages_on c.args.board.now in
    let equality = c.in_ok-equality.equality in
    let fits : SFits w32 c.value.result = search rules in
    let value = to_z-of_z w32 c.value.result fits ∙ c.value.ensures in
    IfSome_then c.equal_rows.result c.equal_rows.ensures (λ found is.
    found-picked_by c.args.filter.now equality (sym c.in_ok-equality.ensures) c.args.memory.now c.one_equality_is_all.ensures.all one found rows
    (is ∙ ap (λ v. filter (has_value equality.column v) rows) value))
