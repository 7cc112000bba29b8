use mir.Syntax.{w32, w64}
use mir.Val.{SFits, to_z, of_z}
use Rattle.std.proofs.Common.{◌≡◌, ◌<◌, ℤ, pos, true, false, length, get_or, Some, slice_get, sym, ap, ◌∙◌, subst, arith, rules}
use Rattle.std.specs.Prelude.{int_le, int_lt}
use Rattle.std.proofs.lemmas.Int.{to_z-of_z}
use Rattle.std.proofs.lemmas.Option.{slice_get-get_or}
use Rattle.flame_index.specs.IndexBodies.{IsStartOf}
use Rattle.flame_index.proofs.Starting.{start_here, start_at_end, less_to, not_less, is_less}
use Rattle.flame_index.proofs.starts.start.Goals as goal

pub returns-then-stops : goal.returns-then-stops
returns-then-stops c =
    let values = c.args.values.now in
    let at = c.loop-at.at in
    let wanted : ℤ = to_z w64 (of_z w64 c.args.wanted) in
    let value : ℤ = get_or values at (pos 0) in
    let within : at < length values = omega (arith, c.loop-at-test.true) in
    let there : slice_get values at ≡ Some value = slice_get-get_or values at (pos 0) within in
    let fits : SFits w32 value = search rules in
    let stays : int_lt value wanted ≡ false = not_less wanted value (ap (int_le wanted) (sym (to_z-of_z w32 value fits)) ∙ sym c.stops.ensures ∙ c.if-stops.true) in
    subst (λ w. IsStartOf w values at) (to_z-of_z w64 c.args.wanted c.ranges.wanted)
    (start_here wanted values c.requires.ascending at value within c.loop-at.invariant.passed there stays)

pub loop-at-preserved : goal.loop-at-preserved
loop-at-preserved c =
    let values = c.args.values.now in
    let at = c.loop-at.at in
    let wanted : ℤ = to_z w64 (of_z w64 c.args.wanted) in
    let value : ℤ = get_or values at (pos 0) in
    let within : at < length values = omega (arith, c.loop-at-test.true) in
    let there : slice_get values at ≡ Some value = slice_get-get_or values at (pos 0) within in
    let fits : SFits w32 value = search rules in
    let less : int_lt value wanted ≡ true = is_less wanted value (ap (int_le wanted) (sym (to_z-of_z w32 value fits)) ∙ sym c.stops.ensures ∙ c.if-stops.false) in
    record { within = omega (arith, within); passed = less_to wanted values c.requires.ascending at value there less }

pub returns : goal.returns
returns c =
    let values = c.args.values.now in
    subst (λ w. IsStartOf w values c.loop-at.at) (to_z-of_z w64 c.args.wanted c.ranges.wanted)
    (start_at_end (to_z w64 (of_z w64 c.args.wanted)) values c.loop-at.at c.loop-at.invariant.within
    (omega (arith, c.loop-at-test.false)) c.loop-at.invariant.passed)
