use Rattle.std.proofs.Common.{◌∙◌, sym, ap}
use Rattle.flame_spec.specs.Scopes.{is_local}
use Rattle.flame_numbering.proofs.SightLaws.{local-number}
use Rattle.std.specs.Prelude.{is_some}
use Rattle.flame_numbering.proofs.spot.Spot.is_local.Goals as goal

pub returns : goal.returns
returns c =
    let s = c.self.inside in
    c.is_some.ensures ∙ ap is_some c.number.ensures
    ∙ sym (local-number s.locals s.here s.outer.items s.own s.loops.items c.args.word.now c.self.invariant)
    ∙ ap (λ sight. is_local sight c.args.word.now) c.self.view_is
