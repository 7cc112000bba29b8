use Rattle.std.proofs.Common.{◌+◌, ◌∙◌, ap, sym, refl, arith, drop, map, List}
use Rattle.flame_body.specs.declared.slots.SlotItem.{SlotItem}
use Rattle.flame_code.specs.declared.instrs.Instr.TheVariants.{SetLoc}
use Rattle.flame_compile.specs.Pieces.{Piece, one, in_order, written}
use Rattle.flame_compile.specs.Emit.{initial, item}
use Rattle.flame_compile.proofs.Writing.{two_written, written_more, written_done}
use Rattle.flame_compile.proofs.stored.write_items.Goals as goal

pub loop-item-preserved : goal.loop-item-preserved
loop-item-preserved c =
    let items : List SlotItem → Piece = λ l. in_order (map item l) in
    let one_item = c.item-item.result in
    ap (written (items (drop (c.loop-item.item-index + 1) c.args.items.now)))
    (two_written (initial one_item.value) (one (SetLoc one_item.local)) (item one_item) _ _ _
    c.in_ok-write_initial.ensures c.in_ok-put.ensures refl)
    ∙ sym (written_more items item (λ x xs. refl) c.args.items.now c.loop-item.item-index one_item c.loop-item.out.items
    c.loop-item-test.true c.item-item.is)
    ∙ c.loop-item.invariant

pub returns : goal.returns
returns c =
    let items : List SlotItem → Piece = λ l. in_order (map item l) in
    written_done items refl c.args.items.now c.loop-item.item-index c.loop-item.out.items (omega arith)
    ∙ c.loop-item.invariant
