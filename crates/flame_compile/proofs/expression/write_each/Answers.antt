use Rattle.std.proofs.Common.{◌≡◌, ◌+◌, ◌-◌, ◌∙◌, ap, sym, arith}
use Rattle.flame_compile.specs.Pieces.{row, one, written}
use Rattle.flame_compile.specs.Emit.{column_of, each_column}
use Rattle.flame_compile.proofs.Writing.{written_none, columns_more}
use Rattle.flame_compile.proofs.expression.write_each.Goals as goal

pub loop-place-preserved : goal.loop-place-preserved
loop-place-preserved c =
    let load = column_of c.args.input in
    let place = c.loop-place.place in
    let rest = row (each_column load (c.args.first + (place + 1)) (c.args.count - (place + 1))) in
    let item = c.column_read.ensures ∙ ap load c.in_ok-column.ensures in
    ap (written rest) (c.in_ok-put.ensures ∙ ap (λ i. written (one i) c.loop-place.out.items) item)
    ∙ sym (columns_more load c.args.first place c.args.count c.loop-place.out.items (omega arith))
    ∙ c.loop-place.invariant

pub returns : goal.returns
returns c =
    let load = column_of c.args.input in
    let none : c.args.count - c.loop-place.place ≡ 0 = omega arith in
    written_none c.loop-place.out.items
    ∙ sym (ap (λ n. written (row (each_column load (c.args.first + c.loop-place.place) n)) c.loop-place.out.items) none)
    ∙ c.loop-place.invariant
