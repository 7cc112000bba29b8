-- What a run has still to do: so many calls may be opened inside one another, and below them a tree of this depth.
use Rattle.std.proofs.Common.{◌≡◌, ◌≢◌, ℕ, zero, suc, ◌+◌, ◌*◌, ◌-◌, ◌<◌, ◌≤◌, List, refl, ap, ◌∙◌, arith}
use Rattle.std.proofs.Math.Nat.{suc-mul}
use Rattle.flame_spec.specs.declared.trees.Unit.{Unit}
use Rattle.flame_sense.specs.Depths.{deepest}

-- each call inside a call counts as more than any body is deep
pub levels : ℕ → List Unit → ℕ
levels left units = left * (8 * deepest units + 8)

less_by_one : (left wide k : ℕ) → left ≢ 0 → k < wide → (left - 1) * wide + k < left * wide
less_by_one zero wide k h lt = absurd (h refl)
less_by_one (suc left) wide k h lt =
    let e : suc left - 1 ≡ left = omega arith in
    let f : (suc left - 1) * wide ≡ left * wide = ap (λ n. n * wide) e in
    omega (arith, suc-mul left wide, lt, f)

-- a call pays for any body
pub body_below :
    (left next : ℕ) (units inner : List Unit) (depth : ℕ)
    → left ≢ 0
    → next ≡ left - 1
    → inner ≡ units
    → depth ≤ deepest units
    → levels next inner + (8 * depth + 7) < levels left units
unfolding levels
body_below left next units inner depth some is same le =
    let less = less_by_one left (8 * deepest units + 8) (8 * depth + 7) some (omega (arith, le)) in
    let e : next * (8 * deepest inner + 8) ≡ (left - 1) * (8 * deepest units + 8) =
    ap (λ n. n * (8 * deepest inner + 8)) is ∙ ap (λ us. (left - 1) * (8 * deepest us + 8)) same in
    omega (arith, less, e)
