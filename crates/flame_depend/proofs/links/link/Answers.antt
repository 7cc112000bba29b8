-- One input more.
use Rattle.std.proofs.Common.{[], ◌<◌, length, get_or, take, ap, sym, ◌∙◌, arith}
use Rattle.std.specs.Prelude.{◌||◌}
use Rattle.std.specs.List.{list_any}
use Rattle.std.proofs.Math.Bool.{or_assoc}
use Rattle.std.proofs.lemmas.List.Folds.{list_any_more}
use Rattle.flame_spec.specs.declared.models.Input.{Input}
use Rattle.flame_spec.specs.Below.{is_in}
use Rattle.flame_graph.specs.Marks.{marked_where}
use Rattle.flame_depend.specs.FunctionTables.{listed}
use Rattle.flame_graph.proofs.Marking.{marked_or}
use Rattle.flame_depend.proofs.links.link.Goals as goal

pub loop-input-preserved : goal.loop-input-preserved
loop-input-preserved c = λ f l.
    let inputs = c.args.place.function.now.inputs in
    let i = c.loop-input.input-index in
    let function = c.args.function in
    let adding = c.args.adding.now in
    let old = get_or c.args.lists.now f [] in
    let reads = λ (input : Input). is_in f (listed adding input.message) in
    let before = is_in f (listed c.args.entering.now c.args.place.function.now.current) in
    let sources = c.under-in-loop-input.result.now in
    let at : f < length c.loop-input.lists = omega (arith, l, c.mark_all-in-loop-input.auto.lists) in
    let here = ap (is_in f) (c.under-in-loop-input.ensures ∙ ap (listed adding) c.as_str-in-loop-input.ensures) ∙ ap reads (c.input-item.is ∙ ap (λ xs. get_or xs i c.input-item.result) c.items-input-items.ensures) in
    let bound : i < length inputs = omega (arith, c.loop-input-test.true, ap (length {A = Input}) c.items-input-items.ensures) in
    c.in_ok-mark_all-2.ensures f at
    ∙ ap (marked_where function (is_in f sources)) (c.loop-input.invariant f at)
    ∙ marked_or function (before || list_any reads (take i inputs)) (is_in f sources) old
    ∙ ap (λ b. marked_where function b old) (or_assoc before (list_any reads (take i inputs)) (is_in f sources) ∙ ap (λ b. before || b) (ap (λ b. list_any reads (take i inputs) || b) here ∙ sym (list_any_more reads inputs i c.input-item.result bound)))
