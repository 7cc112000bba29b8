use Rattle.std.proofs.Common.{◌≡◌, pos, ◌+ℤ◌, sym, subst, rules}
use Rattle.std.specs.Prelude.{IfSome}
use Rattle.flame_index.specs.IndexBodies.{IsStartOf, IsBoundOf}
use Rattle.flame_index.proofs.Starting.{bounds_start, bounds_next}
use Rattle.flame_index.proofs.starts.Starts.passed.Goals as goal

pub returns-then-through : goal.returns-then-through
returns-then-through c values stands =
    let told = c.before-then-through.result in
    let number : _ ≡ (c.args.wanted +ℤ pos 1) = search rules in
    subst (λ through. IfSome told (λ place. IsBoundOf through c.args.wanted values place)) (sym c.if-through.true)
    (bounds_next c.args.wanted values told
    (subst (λ w. IfSome told (λ place. IsStartOf w values place)) number (c.before-then-through.ensures values stands)))

pub returns-else-through : goal.returns-else-through
returns-else-through c values stands =
    let told = c.before-else-through.result in
    let number : _ ≡ c.args.wanted = search rules in
    subst (λ through. IfSome told (λ place. IsBoundOf through c.args.wanted values place)) (sym c.if-through.false)
    (bounds_start c.args.wanted values told
    (subst (λ w. IfSome told (λ place. IsStartOf w values place)) number (c.before-else-through.ensures values stands)))
