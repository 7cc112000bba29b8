-- The first name that no function enters is the first such state.
use Rattle.std.proofs.Common.{◌∙◌, Bool, List, ℕ, ap, sym, not}
use Rattle.std.specs.List.{position_or_len}
use Rattle.flame_spec.specs.States.{is_entered}
use Rattle.flame_route.proofs.Found.{position-map, first-here, first-nowhere}
use Rattle.flame_route.proofs.starts.start_of.Goals as goal

pub returns-then-not-contains : goal.returns-then-not-contains
returns-then-not-contains c =
    let free : List ℕ → Bool = λ state. not (is_entered c.args.functions.now state) in
    let names = c.items-names.result.now in
    first-here (λ name. free name.now) names c.loop-place.place _ c.loop-place-test.true
    (ap not (sym (c.in_ok-entered.ensures _) ∙ sym c.contains.ensures ∙ c.if-not-contains.true))
    c.loop-place.invariant
    ∙ sym (position-map free (λ name. name.now) names)
    ∙ ap (position_or_len free) (c.items-names.ensures ∙ c.in_ok-own.ensures)

pub returns : goal.returns
returns c =
    let free : List ℕ → Bool = λ state. not (is_entered c.args.functions.now state) in
    let names = c.items-names.result.now in
    first-nowhere (λ name. free name.now) names c.loop-place.place c.loop-place-test.false c.loop-place.invariant
    ∙ sym (position-map free (λ name. name.now) names)
    ∙ ap (position_or_len free) (c.items-names.ensures ∙ c.in_ok-own.ensures)
