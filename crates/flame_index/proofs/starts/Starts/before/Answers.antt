use Rattle.std.proofs.Common.{◌≡◌, ◌+◌, ◌<◌, pos, ◌+ℤ◌, List, ℕ, Some, length, slice_get, refl, sym, ap, ◌∙◌, rules}
use Rattle.std.specs.Prelude.{ℤ, ◌≤ℤ◌}
use Rattle.std.proofs.lemmas.Option.{slice_get_read}
use Rattle.flame_index.proofs.Starting.{start_near}
use Rattle.flame_index.proofs.starts.Starts.before.Goals as goal

pub returns-in-Some : goal.returns-in-Some
returns-in-Some c values table =
    let least : ℤ = c.args.self.now.least in
    let wanted : ℤ = c.args.wanted in
    let counts : List ℕ = c.args.self.now.counts.items in
    let place : ℕ = c.nearest.result in
    let count : ℕ = c.in-Some.count.now in
    let found = c.in-Some.ensures.lookup in
    let there : slice_get counts place ≡ Some count =
    ap (λ (l : List ℕ). slice_get l place) (sym c.deref.ensures.value)
    ∙ slice_get_read c.deref.result.now _ place count refl found.3.0 found.1 in
    let low : 0 < place → (least +ℤ pos place) ≤ℤ wanted = search rules in
    let high : place + 1 < length counts → wanted ≤ℤ (least +ℤ pos place) = search rules in
    start_near least wanted counts values table place count there low high
