use Rattle.std.proofs.Common.{◌∙◌, sym, ap}
use Rattle.flame_spec.specs.Scopes.{names_seen}
use Rattle.flame_body.specs.WordSlots.{local_number}
use Rattle.flame_numbering.proofs.SightLaws.{names-all}
use Rattle.flame_numbering.proofs.spot.Spot.number.Goals as goal

pub returns : goal.returns
returns c =
    let s = c.self.inside in
    c.number.ensures
    ∙ ap (λ l. local_number l c.args.word.now)
    (sym (names-all s.locals s.here s.outer.items s.own s.loops.items c.self.invariant) ∙ ap names_seen c.self.view_is)
