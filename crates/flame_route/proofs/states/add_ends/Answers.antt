-- The states of one function more.
use Rattle.std.proofs.Common.{◌+◌, ◌∷◌, ◌++◌, drop, sym, ap, ◌∙◌}
use Rattle.flame_spec.specs.States.{distinct_after, ends}
use Rattle.std.proofs.lemmas.List.{at_drop_more}
use Rattle.flame_route.proofs.Found.{one-state-more}
use Rattle.flame_route.proofs.states.add_ends.Goals as goal

pub loop-function-preserved : goal.loop-function-preserved
loop-function-preserved c =
    let functions = c.args.functions.now in
    let i = c.loop-function.function-index in
    let function = c.function-item.result in
    let own = c.loop-function.own in
    let rest = ends (drop (i + 1) functions) in
    let left = c.as_str.ensures in
    let entered = c.as_str-in-loop-function.ensures in
    one-state-more _ c.as_str-in-loop-function.result.now rest _ _ c.in_ok-_entered.ensures.added c.in_ok-_entered.ensures.after
    ∙ one-state-more own c.as_str.result.now (c.as_str-in-loop-function.result.now ∷ rest) _ _ c.in_ok-_left.ensures.added c.in_ok-_left.ensures.after
    ∙ ap (λ text. own ++ distinct_after own (text ∷ c.as_str-in-loop-function.result.now ∷ rest)) left
    ∙ ap (λ text. own ++ distinct_after own (function.current ∷ text ∷ rest)) entered
    ∙ sym (at_drop_more (λ fs. own ++ distinct_after own (ends fs)) functions i function c.loop-function-test.true
    ∙ ap (λ f. own ++ distinct_after own (ends (f ∷ drop (i + 1) functions))) (sym c.function-item.is))
    ∙ c.loop-function.invariant
