use mir.Syntax.{w32}
use mir.Val.{SFits, to_z, of_z}
use Rattle.std.proofs.Common.{◌≡◌, ◌-◌, ℤ, length, Some, slice_get, sym, subst, rules}
use Rattle.std.proofs.lemmas.Int.{to_z-of_z}
use Rattle.flame_index.specs.IndexBodies.{LieBetween}
use Rattle.flame_index.proofs.Starting.{lie_between}
use Rattle.flame_index.proofs.starts.Starts.of.Goals as goal

pub between-requires-clause-bounds : goal.between-requires-clause-bounds
between-requires-clause-bounds c =
    let values = c.args.values.now in
    let least : ℤ = c.in-Some-Some.least.now in
    let greatest : ℤ = c.in-Some-Some.greatest.now in
    let one : slice_get values 0 ≡ Some least = sym c.in-Some-Some.ensures.value in
    let two : slice_get values (length values - 1) ≡ Some greatest = sym c.in-Some-Some.ensures'.value in
    let low : SFits w32 least = search rules in
    let high : SFits w32 greatest = search rules in
    subst (λ n. LieBetween n (to_z w32 (of_z w32 greatest)) values) (sym (to_z-of_z w32 least low))
    (subst (λ n. LieBetween least n values) (sym (to_z-of_z w32 greatest high))
    (lie_between values least greatest c.requires one two))

pub returns-in_default : goal.returns-in_default
returns-in_default c = c.none.ensures c.args.values.now
