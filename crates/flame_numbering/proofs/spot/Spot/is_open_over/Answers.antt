use Rattle.std.proofs.Common.{◌∙◌, ap}
use Rattle.std.specs.List.{list_any}
use Rattle.flame_spec.specs.Scopes.{is_over, is_open_over}
use Rattle.flame_numbering.specs.SightTables.{loop_of}
use Rattle.flame_numbering.proofs.SightLaws.{any-open}
use Rattle.flame_numbering.proofs.spot.Spot.is_open_over.Goals as goal

pub returns : goal.returns
returns c =
    c.some_is_over.ensures
    ∙ ap (list_any (λ over. is_over c.args.message.now (loop_of over))) c.as_slice.ensures.value
    ∙ any-open (is_over c.args.message.now) c.self.inside.loops.items
    ∙ ap (λ sight. is_open_over sight c.args.message.now) c.self.view_is
