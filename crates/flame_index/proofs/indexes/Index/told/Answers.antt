use mir.Syntax.{w32}
use Rattle.std.proofs.Common.{◌≡◌, sym, ap, subst}
use Rattle.std.specs.Prelude.{IfSome}
use Rattle.std.proofs.lemmas.Int.{to_z-of_z}
use Rattle.flame_index.specs.Indexes.{values_of}
use Rattle.flame_index.specs.IndexBodies.{IsBoundOf}
use Rattle.flame_index.proofs.Entered.{laid_values}
use Rattle.flame_index.proofs.indexes.Index.told.Goals as goal

pub returns : goal.returns
returns c =
    let inside = c.self.inside in
    let same : values_of c.args.self.now ≡ inside.values.items =
    laid_values inside.values.items inside.places.items c.self.invariant.0 c.args.self.now.entries (ap (λ t. t.entries) c.self.view_is) in
    subst (λ values. IfSome c.passed.result (λ place. IsBoundOf c.args.through c.args.wanted values place)) (sym same)
    (subst (λ w. IfSome c.passed.result (λ place. IsBoundOf c.args.through w inside.values.items place)) (to_z-of_z w32 c.args.wanted c.ranges.wanted)
    (c.passed.ensures inside.values.items c.self.invariant.1))
