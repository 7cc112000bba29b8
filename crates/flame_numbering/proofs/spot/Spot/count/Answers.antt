use Rattle.std.proofs.Common.{◌∙◌, sym, ap, length}
use Rattle.flame_spec.specs.Scopes.{names_seen}
use Rattle.flame_numbering.proofs.SightLaws.{names-all}
use Rattle.flame_numbering.proofs.spot.Spot.count.Goals as goal

pub returns : goal.returns
returns c =
    let s = c.self.inside in
    c.len.ensures
    ∙ ap length
    (sym (names-all s.locals s.here s.outer.items s.own s.loops.items c.self.invariant) ∙ ap names_seen c.self.view_is)
