use Rattle.std.proofs.Common.{◌≡◌, ◌+◌, ◌-◌, ◌<◌, length, arith, refl, ap, sym, ◌∙◌, rules, FitsSigned, to_z, w32, w64}
use Rattle.std.proofs.lemmas.Int.{to_z-of_z}
use Rattle.std.specs.Prelude.{◌*ℤ◌}
use Rattle.std.specs.Str.{bytes_eq}
use Rattle.flame_cond.proofs.PeriodLemmas.{IsSoFar-at, other_unit, same_unit}
use Rattle.flame_cond.proofs.names.period.Goals as goal
use Rattle.flame_cond.proofs.names.period.Goals.{then-eq, else-eq}

pub times-product-requires-clause-low : goal.times-product-requires-clause-low
times-product-requires-clause-low c = c.loop-done.invariant.low

pub times-product-requires-clause-high : goal.times-product-requires-clause-high
times-product-requires-clause-high c = c.loop-done.invariant.high

pub loop-done-preserved : goal.loop-done-preserved
loop-done-preserved c =
    let units = c.args.units.now in
    let unit = c.index-units-units.result in
    let n = length units - 1 - c.loop-done.done in
    let less : n < length units = omega arith in
    let now : length units - c.loop-done.done ≡ n + 1 = omega arith in
    let next : n ≡ length units - (c.loop-done.done + 1) = omega arith in
    let before = IsSoFar-at _ units _ _ _ (n + 1) _ _ refl now refl c.loop-done.invariant in
    let named = sym (λ i. bytes_eq (c.as_str.ensures i) (c.as_str-in-loop-done.ensures i)) ∙ sym c.eq.ensures in
    elim c.if-eq.branch [
      | then-eq w ↦
          let held : FitsSigned w64 w.times-product.result = search rules in
          let fits : FitsSigned w32 unit.period = search rules in
          let after = same_unit _ _ n units _ unit c.index-units-units.is less before (named ∙ w.if-eq.true) c.requires.periods c.requires.known in
          let product = sym (w.product-is ∙ to_z-of_z w64 w.times-product.result held ∙ w.times-product.ensures ∙ ap (λ p. to_z w64 c.loop-done.product-bits *ℤ p) (to_z-of_z w32 unit.period fits)) in
          IsSoFar-at _ units _ _ _ _ _ _ product next (ap (λ t. t.now) (sym w.wanted-is)) after
      | else-eq w ↦
          let after = other_unit _ _ n units _ unit c.index-units-units.is less before (named ∙ w.if-eq.false) in
          IsSoFar-at _ units _ _ _ _ _ _ (sym w.product-is) next (ap (λ t. t.now) (sym w.wanted-is)) after
    ]
