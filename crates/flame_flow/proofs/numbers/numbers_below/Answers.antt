use Rattle.std.proofs.Common.{ap, arith, sym, ◌∙◌}
use Rattle.std.proofs.lemmas.Bool.{le-ltb}
use Rattle.flame_spec.specs.Below.{is_in}
use Rattle.flame_flow.proofs.Places.{in_pushed}
use Rattle.flame_flow.proofs.numbers.numbers_below.Goals as goal

pub loop-place-init : goal.loop-place-init
loop-place-init c = λ k. ap (is_in k) c.new-numbers.ensures.items ∙ sym (le-ltb k 0 (omega arith))

pub loop-place-preserved : goal.loop-place-preserved
loop-place-preserved c = λ k.
    ap (is_in k) c.in_ok-push.ensures.items
    ∙ in_pushed c.loop-place.numbers.items c.loop-place.place c.in_ok-next.next c.loop-place.invariant c.in_ok-next.ensures k
