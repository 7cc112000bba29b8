use Rattle.std.proofs.Common.{sym, ap, ◌∙◌}
use Rattle.flame_index.proofs.Entered.{laid_places}
use Rattle.flame_index.proofs.indexes.Index.places.Goals as goal

pub returns : goal.returns
returns c =
    let inside = c.self.inside in
    c.as_slice.ensures.value
    ∙ sym (laid_places inside.values.items inside.places.items c.self.invariant.0 c.args.self.now.entries (ap (λ t. t.entries) c.self.view_is))
